-- Each turn goes on to the next line, so that what is left of the text falls.
use Rattle.std.proofs.Common.{length, ◌-◌}
use Rattle.cases.proofs.live.put_answers.Given as goal

abbrev pub decreases-loop-at : goal.decreases-loop-at
decreases-loop-at l = length l.script - l.at
