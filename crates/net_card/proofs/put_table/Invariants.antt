-- The lines of each transition are written one after another.
use Rattle.std.proofs.Common.{get_or}
use Rattle.text.proofs.Writing.{WritesFirst}
use Rattle.net.specs.Net.{row, no_row, rows, rows_of}
use Rattle.net_card.proofs.put_table.Given as goal

abbrev pub invariant-loop-t : goal.invariant-loop-t
invariant-loop-t l = let n = l.fn.net in
    WritesFirst ((rows n.places n.transitions).text (rows_of n)) (λ k. (row n.places).text (get_or (rows_of n) k no_row)) n.transitions l.initial.w l.t l.w
