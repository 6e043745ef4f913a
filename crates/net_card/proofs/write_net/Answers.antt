-- A refused net is answered by its refusal; the card of one that passes fits the buffer, and its bytes are the answer.
use Rattle.std.proofs.Common.{sym, ◌∙◌, ◌≡◌}
use Rattle.laws.specs.Writing.{front_within, front_length, wrote_puts}
use Rattle.reply.specs.Respond.{Passed}
use Rattle.reply.proofs.Laws.{check_refused}
use Rattle.reply.proofs.Exit.{exits}
use Rattle.form.proofs.Answers.{card_answered}
use Rattle.net.specs.Net.{net_card}
use Rattle.net_card.proofs.Write.{card_fits}
use Rattle.net_card.proofs.write_net.Goals as goal

pub put_net-n-requires : goal.put_net-n-requires
put_net-n-requires c = let f = card_fits c.args.net (sym c.check_net.ensures ∙ c.in_ok-check_net.was) in (f.0, f.1)

pub slice_bounds-card-end : goal.slice_bounds-card-end
slice_bounds-card-end c =
    front_within (wrote_puts (card_fits c.args.net (sym c.check_net.ensures ∙ c.in_ok-check_net.was)).2 c.put_net-n.ensures)

pub slice_bounds-respond-end : goal.slice_bounds-respond-end
slice_bounds-respond-end c =
    front_length (wrote_puts (card_fits c.args.net (sym c.check_net.ensures ∙ c.in_ok-check_net.was)).2 c.put_net-n.ensures)

pub returns-in_err-check_net : goal.returns-in_err-check_net
returns-in_err-check_net c = let a = c.args in
    rw (exits c.from_residual.ensures.1) (check_refused (net_card.text a.net) a.out.now (sym c.check_net.ensures ∙ c.in_err-check_net.was))

pub returns : goal.returns
returns c =
    let passes : net_card.check c.args.net 1 ≡ Passed = sym c.check_net.ensures ∙ c.in_ok-check_net.was in
    card_answered passes (wrote_puts (card_fits c.args.net passes).2 c.put_net-n.ensures) c.respond.ensures
