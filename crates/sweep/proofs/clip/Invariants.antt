-- The invariant is `Clipping`: the windows that had their turn are clipped.
use Rattle.sweep.proofs.Clipping.{Clipping}
use Rattle.sweep.proofs.clip.Given as goal

abbrev pub invariant-loop-i : goal.invariant-loop-i
invariant-loop-i l = Clipping l.initial.windows l.i l.windows
