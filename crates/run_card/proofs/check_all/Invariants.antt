-- The loop keeps the state of the check (`Passing`).
use Rattle.run_card.proofs.Parts.{Passing}
use Rattle.run_card.proofs.check_all.Given as goal

abbrev pub invariant-loop-i : goal.invariant-loop-i
invariant-loop-i g l = let m = g.P.Part in Passing (m.form l.transitions) m.LINES l.parts l.first l.i
