-- Every number of the line passes its first check, so that the second alone says what is out of range; each way out is one case of that.
use Rattle.std.proofs.Common.{sym, ◌∙◌}
use Rattle.reply.proofs.Exit.{exits}
use Rattle.open_cards.proofs.Opening.{none_there, out_of_range, in_range}
use Rattle.open_cards.proofs.denominator_line.Goals as goal

pub returns-in_err-value : goal.returns-in_err-value
returns-in_err-value c = let a = c.args in
    exits c.from_residual.ensures.1 ∙ none_there a.s.now a.at (sym c.number_line.ensures ∙ c.in_err-value.was)

pub returns-in_err-check : goal.returns-in_err-check
returns-in_err-check c = let a = c.args in
    exits c.from_residual-in_err-check.ensures.1
    ∙ out_of_range a.s.now a.at (sym c.number_line.ensures ∙ c.in_ok-value.was) (sym c.check.ensures ∙ c.in_err-check.was)

pub returns : goal.returns
returns c = let a = c.args in
    in_range a.s.now a.at (sym c.number_line.ensures ∙ c.in_ok-value.was) (sym c.check.ensures ∙ c.in_ok-check.was)
