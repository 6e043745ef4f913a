-- The invariant is `Descending`: what the windows that had their turn leave, and that those below `stop` are met. The windows are taken from the last, so i
-- itself falls. A window without an upper bound, or within it, asks nothing; one past it raises its origin.
use Rattle.std.proofs.Common.{ℕ, ◌*◌, ◌^◌, ◌≤◌, length}
use Rattle.timing.specs.Solve.{instant_at}
use Rattle.timing.specs.Windows.{windows}
use Rattle.sweep.specs.Sweeps.{Ahead}
use Rattle.sweep.proofs.Descent.{Descending}
use Rattle.sweep.proofs.backward.Given as goal

abbrev pub invariant-loop-stop : goal.invariant-loop-stop
invariant-loop-stop l = Descending (windows l.windows) l.top l.initial.x l.from l.stop l.i l.x × Ahead (windows l.windows) (length l.windows) l.until l.x
    × ((j : ℕ) → j ≤ length l.windows → instant_at l.x j ≤ 64 * 2 ^ 32)

abbrev pub decreases-loop-stop : goal.decreases-loop-stop
decreases-loop-stop l = l.i
