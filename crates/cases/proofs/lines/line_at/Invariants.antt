-- Each turn goes on behind a byte 10, or to the end, so that what is left of the text falls.
use Rattle.std.proofs.Common.{length, ◌-◌}
use Rattle.cases.proofs.lines.line_at.Given as goal

abbrev pub decreases-loop-i : goal.decreases-loop-i
decreases-loop-i l = length l.s - l.i
