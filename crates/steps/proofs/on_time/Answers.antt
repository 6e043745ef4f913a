-- Each answer is that of the test that settles the matter.
use Rattle.std.proofs.Common.{le-leb}
use borrow.Author.Tests.{lt-leb}
use Rattle.firing.specs.Replay.{timely}
use Rattle.steps.proofs.on_time.Goals as goal

pub returns-then-clock-parts : goal.returns-then-clock-parts
unfolding timely
returns-then-clock-parts c = simp (lt-leb _ _ c.if-clock-parts.true)

pub returns-in-None : goal.returns-in-None
unfolding timely
returns-in-None c = simp (le-leb _ _ c.if-clock-parts.false, c.in-None.is)

pub returns-in-Some : goal.returns-in-Some
unfolding timely
returns-in-Some c = simp (le-leb _ _ c.if-clock-parts.false, c.in-Some.is)
