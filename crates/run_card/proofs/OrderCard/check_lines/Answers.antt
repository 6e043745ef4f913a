-- The sheet and the count are checked, and last the fired transitions.
use Rattle.std.proofs.Common.{length, sym, ◌≡◌, ◌∙◌}
use borrow.Author.Rules.{rules}
use Rattle.run_card.proofs.Checking.{fires_decide}
use Rattle.run_card.proofs.OrderCard.check_lines.Goals as goal

pub returns : goal.returns
returns c = let a = c.args in
    let size : length a.self.fires ≡ 64 = search rules in
    c.check_all.ensures
    ∙ fires_decide a.own a.transitions a.self (sym c.check.ensures ∙ c.in_ok-check.was) (sym c.check-2.ensures ∙ c.in_ok-check-2.was) size
