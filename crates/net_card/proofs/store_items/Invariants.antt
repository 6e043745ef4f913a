-- The loop keeps the state of the reader (`Storing`).
use Rattle.net_card.proofs.Stored.{Storing}
use Rattle.net_card.proofs.store_items.Given as goal

abbrev pub invariant-loop-i : goal.invariant-loop-i
invariant-loop-i l = Storing l.to l.s l.at l.line l.initial.table l.narrow l.table l.next l.i
