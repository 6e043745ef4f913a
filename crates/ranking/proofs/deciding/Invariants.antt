-- The loop counts both runs side by side (`Abreast`); the first products that differ decide, or those of the ends.
use lib.ListN.{length}
use Rattle.ranking.proofs.Crossing.{Abreast}
use Rattle.ranking.proofs.deciding.Given as goal

abbrev pub invariant-loop-a : goal.invariant-loop-a
invariant-loop-a l = Abreast l.fn.x l.fn.y l.sx l.sy (length l.yielded)
