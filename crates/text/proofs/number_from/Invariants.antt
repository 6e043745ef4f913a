-- The loop keeps the reader's state (`Run`): it stands behind one to nine digits, and whether the byte there is a digit says whether one more follows.
use Rattle.text.proofs.ReadNumber.{Run}
use Rattle.text.proofs.number_from.Given as goal

abbrev pub invariant-loop-i : goal.invariant-loop-i
invariant-loop-i l = Run l.s l.at l.v l.i
