-- The flags passed hold what they held or the test.
use Rattle.std.proofs.Common.{false, ◌||◌, ltb, get_or}
use Rattle.laws.specs.Arrays.{Filling}
use Rattle.net.specs.Net.{takes_in}
use Rattle.steps.proofs.Takes.mark.Given as goal

abbrev pub invariant-loop-u : goal.invariant-loop-u
invariant-loop-u l = Filling (λ k. get_or l.initial.marks k false || ltb l.tokens (takes_in l.self.weights.now k l.p)) 32 l.initial.marks l.u l.marks
