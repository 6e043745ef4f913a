-- The record of the cards is closed, and the reply to that is the answer; the record that is left does not count.
use Rattle.std.proofs.Common.{refl, sym, ◌∙◌}
use Rattle.reply.proofs.Exit.{exits}
use Rattle.open_run.specs.Open.{close_of}
use Rattle.open_cards.proofs.Records.{record_refused, record_answered, closing_answered}
use Rattle.open_cards.proofs.close_cards.Goals as goal

pub returns-in_err-run : goal.returns-in_err-run
returns-in_err-run c =
    rw (exits c.from_residual.ensures.1)
    (record_refused c.args.input.now (sym c.record_in.ensures ∙ c.in_err-run.was) (λ x. close_of x c.args.rest) c.args.out.now)

pub returns : goal.returns
returns c =
    record_answered c.args.input.now (sym c.record_in.ensures ∙ c.in_ok-run.was) (λ x. close_of x c.args.rest) refl
    (closing_answered c.in_ok-run.run' c.args.rest c.finish.ensures)
