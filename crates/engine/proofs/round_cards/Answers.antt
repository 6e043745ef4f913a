-- The first refusal answers for both cards, and the operation has what they say.
use Rattle.std.proofs.Common.{sym, ◌∙◌}
use Rattle.reply.proofs.Exit.{exits}
use Rattle.cards.proofs.Cards.{run_cards_passed}
use Rattle.operations.specs.Round.{round_of}
use Rattle.form.proofs.Answers.{was_refused, was_found}
use Rattle.engine.proofs.Outcome.{cards_refused, cards_found}
use Rattle.engine.proofs.round_cards.Goals as goal

pub round_checked-requires : goal.round_checked-requires
round_checked-requires c = run_cards_passed c.args.input.now (was_found (sym c.net_and.ensures ∙ c.in_ok-net.was)).1

pub returns-in_err-net : goal.returns-in_err-net
returns-in_err-net c =
    rw (exits c.from_residual.ensures.1)
    (cards_refused (λ v. round_of v.0 v.1) c.args.out.now (was_refused (sym c.net_and.ensures ∙ c.in_err-net.was)))

pub returns : goal.returns
returns c = cards_found (λ v. round_of v.0 v.1) (was_found (sym c.net_and.ensures ∙ c.in_ok-net.was)).1 c.round_checked.ensures
