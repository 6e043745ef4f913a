-- The tokens of the places passed have moved (`Moving`).
use Rattle.steps.specs.Firing.{arcs}
use Rattle.steps.proofs.Places.{Moving}
use Rattle.steps.proofs.Fire.moved.Given as goal

abbrev pub invariant-loop-p : goal.invariant-loop-p
invariant-loop-p l = Moving (arcs l.self) l.marking l.self.t l.over l.middle l.later l.p
