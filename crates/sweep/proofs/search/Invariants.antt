-- The invariant: x holds the least instants of the first i windows, and `reach` how far these stand. The first window that fails answers for all, and so does the end.
use Rattle.timing.specs.Windows.{windows}
use Rattle.sweep.specs.Arrays.{Short}
use Rattle.sweep.specs.Sweeps.{Reaching, Solved}
use Rattle.sweep.proofs.search.Given as goal

abbrev pub invariant-loop-i : goal.invariant-loop-i
invariant-loop-i l = Short l.windows l.i × Reaching (windows l.windows) l.i l.reach × Solved (windows l.windows) l.i l.x
