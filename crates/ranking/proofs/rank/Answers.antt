-- Both are checked, then replayed; what is left is ranked by the instants that decide.
use Rattle.std.proofs.Common.{refl, sym, ◌∙◌}
use Rattle.ranking.proofs.Compared.{few_firings, ready}
use Rattle.ranking.proofs.rank.Goals as goal

pub check_rankable-requires : goal.check_rankable-requires
check_rankable-requires c = let a = c.args in few_firings a.net a.x a.y (sym c.check_two_runs.ensures ∙ c.in_ok-check_two_runs.was)

pub deciding-requires : goal.deciding-requires
deciding-requires c = let a = c.args in
    ready a.net a.x a.y (sym c.check_two_runs.ensures ∙ c.in_ok-check_two_runs.was) (sym c.check_rankable.ensures ∙ c.in_ok-check_rankable.was)

pub returns : goal.returns
returns c = let a = c.args in
    rw (
      c.ranked.ensures,
      c.deciding.ensures.0,
      sym c.check_two_runs.ensures ∙ c.in_ok-check_two_runs.was,
      sym c.check_rankable.ensures ∙ c.in_ok-check_rankable.was,
    ) refl
