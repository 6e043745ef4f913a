-- The invariant is `Settling`: each round makes one more instant final. The tests on the indices that rose say what a round came to.
use Rattle.std.proofs.Common.{length}
use Rattle.timing.specs.Windows.{windows}
use Rattle.sweep.proofs.Rounds.{Settling}
use Rattle.sweep.proofs.settle.Given as goal

abbrev pub invariant-loop : goal.invariant-loop
invariant-loop l = Settling (windows l.windows) (length l.windows) l.initial.x l.x l.bottom l.top l.counter
