-- The step is entered on the record of the cards, and what an accepted one leaves is open, so that its run has a card.
use Rattle.std.proofs.Common.{sym, ap, ◌∙◌}
use Rattle.reply.proofs.Exit.{exits}
use Rattle.open_run.specs.Open.{with_run, fire_added, fire_checked, fire_of}
use Rattle.open_run.specs.Cards.{card_after}
use Rattle.open_run.proofs.Accepted.{open_fired}
use Rattle.open_cards.proofs.Records.{entered_card, record_refused, record_answered}
use Rattle.open_cards.proofs.fire_cards.Goals as goal

pub returns-in_err-run : goal.returns-in_err-run
returns-in_err-run c =
    rw (exits c.from_residual.ensures.1)
    (record_refused c.args.input.now (sym c.record_in.ensures ∙ c.in_err-run.was) (λ x. card_after (fire_of x c.args.t)) c.args.out.now)

pub respond_entered-requires : goal.respond_entered-requires
respond_entered-requires c = let r = c.in_ok-run.run' in
    entered_card r (with_run r (fire_added r.run c.args.t)) (fire_checked r c.args.t) (open_fired r c.args.t) c.enter_fire.ensures

pub returns : goal.returns
returns c = record_answered c.args.input.now (sym c.record_in.ensures ∙ c.in_ok-run.was) (λ x. card_after (fire_of x c.args.t)) (ap card_after c.enter_fire.ensures) c.respond_entered.ensures
