-- From the last pair to the first, each slot holds the partner of its place by the pairs passed (`Partnering`).
use Prim.Native.Nat.{◌-◌}
use lib.ListN.{length}
use Rattle.joining.specs.Code.{pairs_in}
use Rattle.joining.proofs.Pairing.{Partnering}
use Rattle.joining.proofs.partners.Given as goal

abbrev pub invariant-loop-pair : goal.invariant-loop-pair
invariant-loop-pair l =
    (goal.iterator-loop-pair).can_next l.pair-iterator
    × (goal.iterator-loop-pair).is_finite l.pair-iterator
    × Partnering (pairs_in l.pairs) l.source (length l.pairs - length l.yielded)
