-- The run with the rest passes its check, and its card is the answer.
use Rattle.std.proofs.Common.{sym, ◌∙◌}
use Rattle.entering.proofs.Answers.{closing_answered}
use Rattle.entering.proofs.respond_closing.Goals as goal

pub returns : goal.returns
returns c = let a = c.args in
    closing_answered a.run a.rest (sym c.check_wait.ensures ∙ c.in_ok-check_wait.was) c.with_wait-last.ensures c.write.ensures
