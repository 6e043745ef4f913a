-- The parts are written one after another.
use Rattle.run_card.proofs.Parts.{Put}
use Rattle.run_card.proofs.put_all.Given as goal

abbrev pub invariant-loop-part : goal.invariant-loop-part
invariant-loop-part g l = Put (g.P.Part.form 0) l.parts l.initial.w l.part-index l.w
