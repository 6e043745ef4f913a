-- A refused value is answered by its refusal; the card of one that passes fits the buffer, and its bytes are the answer.
use Rattle.std.proofs.Common.{arith, sym, ◌∙◌, ◌≡◌}
use Rattle.laws.specs.Writing.{front_within, front_length}
use Rattle.reply.specs.Respond.{Passed}
use Rattle.form.proofs.Answers.{card_answered}
use Rattle.cards.specs.Cards.{card_checked}
use Rattle.run_card.proofs.Writing.{card_written}
use Rattle.run_card.proofs.write.Goals as goal

pub slice_bounds-text-end : goal.slice_bounds-text-end
slice_bounds-text-end g c = let a = c.args in let laws = g.met.C.Card in
    front_within
    (card_written g.C.Card.form laws.same_text laws.short a.net a.card (sym c.check.ensures ∙ c.in_ok-check.was) c.put-n.ensures (omega arith))

pub slice_bounds-respond-end : goal.slice_bounds-respond-end
slice_bounds-respond-end g c = let a = c.args in let laws = g.met.C.Card in
    front_length
    (card_written g.C.Card.form laws.same_text laws.short a.net a.card (sym c.check.ensures ∙ c.in_ok-check.was) c.put-n.ensures (omega arith))

pub returns : goal.returns
returns g c = let a = c.args in let laws = g.met.C.Card in
    let passes : card_checked g.C.Card.form a.net a.card ≡ Passed = sym c.check.ensures ∙ c.in_ok-check.was in
    card_answered passes (card_written g.C.Card.form laws.same_text laws.short a.net a.card passes c.put-n.ensures (omega arith)) c.respond.ensures
