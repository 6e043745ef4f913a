-- The sheet and the counts are checked, and then the intervals, in the order of the card.
use Rattle.net_card.proofs.Check.{RowsChecked}
use Rattle.net_card.proofs.check_net.Given as goal

abbrev pub invariant-loop-t : goal.invariant-loop-t
invariant-loop-t l = RowsChecked l.fn.net l.t
