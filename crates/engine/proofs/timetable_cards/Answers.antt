-- The first refusal answers for both cards, and the operation has what they say.
use Rattle.std.proofs.Common.{sym, ◌∙◌}
use Rattle.reply.proofs.Exit.{exits}
use Rattle.cards.proofs.Cards.{order_cards_passed}
use Rattle.operations.specs.Timetable.{timetable_of}
use Rattle.form.proofs.Answers.{was_refused, was_found}
use Rattle.engine.proofs.Outcome.{cards_refused, cards_found}
use Rattle.engine.proofs.timetable_cards.Goals as goal

pub timetable_checked-requires : goal.timetable_checked-requires
timetable_checked-requires c = order_cards_passed c.args.input.now (was_found (sym c.net_and.ensures ∙ c.in_ok-net.was)).1

pub returns-in_err-net : goal.returns-in_err-net
returns-in_err-net c =
    rw (exits c.from_residual.ensures.1)
    (cards_refused (λ v. timetable_of v.0 v.1) c.args.out.now (was_refused (sym c.net_and.ensures ∙ c.in_err-net.was)))

pub returns : goal.returns
returns c = cards_found (λ v. timetable_of v.0 v.1) (was_found (sym c.net_and.ensures ∙ c.in_ok-net.was)).1 c.timetable_checked.ensures
