-- The loop keeps the rounded firings so far and the running sum of the waits (`Rounding`).
use Rattle.schedule.proofs.Rounds.{Rounding}
use Rattle.schedule.proofs.rounded_run.Given as goal

abbrev pub invariant-loop-i : goal.invariant-loop-i
invariant-loop-i l = Rounding l.fn.run l.firings l.instant l.i
