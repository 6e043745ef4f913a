-- The cards are read one behind the other; the runs are replayed, and what is left is ranked by the instants that decide.
use Rattle.std.proofs.Common.{refl, sym, ◌∙◌}
use Rattle.reply.proofs.Exit.{exits}
use Rattle.form.proofs.Answers.{was_refused, was_found}
use Rattle.cards.proofs.TwoRuns.{two_runs_was}
use Rattle.ranking.proofs.Compared.{few_firings, ready}
use Rattle.ranking.proofs.rank_cards.Goals as goal

pub check_rankable-requires : goal.check_rankable-requires
check_rankable-requires c = let n = c.in_ok-net in
    few_firings n.net n.x n.y (two_runs_was c.args.input.now (was_found (sym c.net_and_runs.ensures ∙ n.was)).1).passed

pub deciding-requires : goal.deciding-requires
deciding-requires c = let n = c.in_ok-net in
    ready n.net n.x n.y (two_runs_was c.args.input.now (was_found (sym c.net_and_runs.ensures ∙ n.was)).1).passed
    (sym c.check_rankable.ensures ∙ c.in_ok-check_rankable.was)

pub returns-in_err-net : goal.returns-in_err-net
returns-in_err-net c =
    rw (exits c.from_residual.ensures.1, was_refused (sym c.net_and_runs.ensures ∙ c.in_err-net.was)) (record { reply = refl; output = refl })

pub returns-in_err-check_rankable : goal.returns-in_err-check_rankable
returns-in_err-check_rankable c =
    rw (
      exits c.from_residual-in_err-check_rankable.ensures.1,
      (was_found (sym c.net_and_runs.ensures ∙ c.in_ok-net.was)).1,
      sym c.check_rankable.ensures ∙ c.in_err-check_rankable.was,
    ) (record { reply = refl; output = refl })

pub returns : goal.returns
returns c =
    rw ((was_found (sym c.net_and_runs.ensures ∙ c.in_ok-net.was)).1, sym c.check_rankable.ensures ∙ c.in_ok-check_rankable.was)
    (rw c.deciding.ensures.0 at c.respond_lead.ensures)
