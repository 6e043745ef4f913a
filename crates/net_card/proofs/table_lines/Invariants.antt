-- The loop keeps the state of the reader (`RowsRead`), of all slots.
use Rattle.std.proofs.Common.{◌++◌}
use Rattle.std.specs.Prelude.{◌-◌, replicate}
use Rattle.net.specs.Net.{no_transition}
use Rattle.net_card.proofs.Read.{RowsRead}
use Rattle.net_card.proofs.table_lines.Given as goal

abbrev pub invariant-loop-t : goal.invariant-loop-t
invariant-loop-t l =
    RowsRead l.head.places l.head.transitions l.s l.at l.take l.give (l.slot-items ++ replicate (32 - l.head.transitions) no_transition) l.t l.next
