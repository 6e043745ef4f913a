-- The sheet, the parts, the count and the firings are checked, and last the rest.
use Rattle.std.proofs.Common.{length, sym, ◌≡◌, ◌∙◌}
use borrow.Author.Rules.{rules}
use Rattle.reply.proofs.Exit.{exits}
use Rattle.run_card.proofs.Checking.{firings_fail, rest_decides}
use Rattle.run_card.proofs.RunCard.check_lines.Goals as goal

pub returns-in_err-check_all : goal.returns-in_err-check_all
returns-in_err-check_all c = let a = c.args in
    let size : length a.self.firings ≡ 64 = search rules in
    exits c.from_residual-in_err-check_all.ensures.1
    ∙ firings_fail a.own a.transitions a.self (sym c.check.ensures ∙ c.in_ok-check.was) (sym c.check-2.ensures ∙ c.in_ok-check-2.was)
    (sym c.check-3.ensures ∙ c.in_ok-check-3.was) size (sym c.check_all.ensures ∙ c.in_err-check_all.was)

pub returns : goal.returns
returns c = let a = c.args in
    let size : length a.self.firings ≡ 64 = search rules in
    c.check-4.ensures
    ∙ rest_decides a.own a.transitions a.self (sym c.check.ensures ∙ c.in_ok-check.was) (sym c.check-2.ensures ∙ c.in_ok-check-2.was)
    (sym c.check-3.ensures ∙ c.in_ok-check-3.was) size (sym c.check_all.ensures ∙ c.in_ok-check_all.was)
