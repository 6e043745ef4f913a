-- No place passed is short.
use Rattle.std.proofs.Common.{◌≡◌, true}
use Rattle.laws.specs.Tests.{all_below}
use Rattle.steps.proofs.Places.{has_enough}
use Rattle.steps.proofs.Takes.has_enough.Given as goal

abbrev pub invariant-loop-p : goal.invariant-loop-p
invariant-loop-p l = all_below (has_enough l.self.weights.now l.marking l.t) l.p ≡ true
