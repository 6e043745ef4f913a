-- From the last pair to the first, the places that were looked at are right and marked (`Looked`); a number that is no place, or is marked, makes all wrong.
use Prim.Native.Nat.{◌-◌}
use lib.ListN.{length}
use Rattle.joining.specs.Code.{numbers_on}
use Rattle.joining.proofs.Pairing.{Looked}
use Rattle.joining.proofs.look_at.Given as goal

abbrev pub invariant-loop-pair : goal.invariant-loop-pair
invariant-loop-pair l =
    (goal.iterator-loop-pair).can_next l.pair-iterator
    × (goal.iterator-loop-pair).is_finite l.pair-iterator
    × Looked l.places (numbers_on l.side l.pairs) l.named (length l.pairs - length l.yielded)
