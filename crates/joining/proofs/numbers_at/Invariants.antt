-- The numbers read so far, and what is left of the line (`Numbering`).
use Prim.Native.Nat.{◌-◌}
use lib.ListN.{length}
use Rattle.joining.proofs.Numbers.{Numbering}
use Rattle.joining.proofs.numbers_at.Given as goal

abbrev pub invariant-loop-to : goal.invariant-loop-to
invariant-loop-to l = Numbering l.s l.at l.pairs l.to

abbrev pub decreases-loop-to : goal.decreases-loop-to
decreases-loop-to l = length l.s - l.to
