-- A step from the state says what the judgement there says.
use Rattle.entering.proofs.Entered.{step_says}
use Rattle.entering.proofs.judge.Goals as goal

pub returns : goal.returns
returns c = let a = c.args in
    step_says a.net a.run a.state a.t (rw (c.of-terms.ensures.0, c.of-terms.ensures.1, c.of-terms.ensures.2) at c.step.ensures)
