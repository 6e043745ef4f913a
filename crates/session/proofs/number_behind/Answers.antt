-- The line's number is read at its front, and what follows it is told by where that ends.
use Rattle.std.proofs.Common.{sym, ◌∙◌}
use Rattle.reply.proofs.Exit.{exits}
use Rattle.session.proofs.Lines.{behind_refused, behind_ended, behind_more}
use Rattle.session.proofs.number_behind.Goals as goal

pub returns-in_err-value : goal.returns-in_err-value
returns-in_err-value c = let a = c.args in
    exits c.from_residual.ensures.1 ∙ sym (behind_refused a.key.now a.line.now (sym c.number_line.ensures ∙ c.in_err-value.was))

pub returns-then-next-line : goal.returns-then-next-line
returns-then-next-line c = let a = c.args in
    sym (behind_more a.key.now a.line.now (sym c.number_line.ensures ∙ c.in_ok-value.was) c.if-next-line.true)

pub returns : goal.returns
returns c = let a = c.args in
    sym (behind_ended a.key.now a.line.now (sym c.number_line.ensures ∙ c.in_ok-value.was) c.if-next-line.false)
