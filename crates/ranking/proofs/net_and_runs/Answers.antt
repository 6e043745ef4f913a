-- The first refusal answers for all cards.
use Rattle.std.proofs.Common.{sym, ap, ◌∙◌}
use Rattle.reply.proofs.Exit.{exits}
use Rattle.form.specs.Form.{front, alone}
use Rattle.run.specs.Run.{run_card}
use Rattle.cards.specs.Cards.{card_of}
use Rattle.ranking.proofs.Inputs.{x_refused, y_refused, runs_read}
use Rattle.ranking.proofs.net_and_runs.Goals as goal

pub returns-in_err-x : goal.returns-in_err-x
returns-in_err-x c = let n = c.in_ok-net.net in
    exits c.from_residual-in_err-x.ensures.1
    ∙ x_refused c.args.input.now (sym c.read_net.ensures ∙ c.in_ok-net.was)
    (ap (front (card_of run_card n)) (sym c.remainder-behind.ensures.0) ∙ sym c.front.ensures ∙ c.in_err-x.was)

pub returns-in_err-y : goal.returns-in_err-y
returns-in_err-y c = let n = c.in_ok-net.net in
    exits c.from_residual-in_err-y.ensures.1
    ∙ y_refused c.args.input.now (sym c.read_net.ensures ∙ c.in_ok-net.was)
    (ap (front (card_of run_card n)) (sym c.remainder-behind.ensures.0) ∙ sym c.front.ensures ∙ c.in_ok-x.was)
    (rw c.remainder-behind.ensures.0 at (ap (alone (card_of run_card n)) (sym c.remainder.ensures.0)) ∙ sym c.whole.ensures ∙ c.in_err-y.was)

pub returns : goal.returns
returns c = let n = c.in_ok-net.net in
    runs_read c.args.input.now (sym c.read_net.ensures ∙ c.in_ok-net.was)
    (ap (front (card_of run_card n)) (sym c.remainder-behind.ensures.0) ∙ sym c.front.ensures ∙ c.in_ok-x.was)
    (rw c.remainder-behind.ensures.0 at (ap (alone (card_of run_card n)) (sym c.remainder.ensures.0)) ∙ sym c.whole.ensures ∙ c.in_ok-y.was)
