-- The loop keeps the state of the reader (`Fronted`).
use Rattle.run_card.proofs.Parts.{Fronted}
use Rattle.run_card.proofs.read_all.Given as goal

abbrev pub invariant-loop-i : goal.invariant-loop-i
invariant-loop-i g l = let m = g.P.Part in Fronted (m.form l.transitions) m.LINES l.count m.NONE l.s l.at l.first l.slot-items l.i l.next
