-- The record of the cards is asked.
use Rattle.std.proofs.Common.{refl, sym, ◌∙◌}
use Rattle.reply.proofs.Exit.{exits}
use Rattle.open_run.specs.Open.{timetable_now}
use Rattle.open_cards.proofs.Records.{record_refused, record_answered}
use Rattle.open_cards.proofs.timetable_cards.Goals as goal

pub returns-in_err-run : goal.returns-in_err-run
returns-in_err-run c =
    rw (exits c.from_residual.ensures.1) (record_refused c.args.input.now (sym c.record_in.ensures ∙ c.in_err-run.was) timetable_now c.args.out.now)

pub returns : goal.returns
returns c = record_answered c.args.input.now (sym c.record_in.ensures ∙ c.in_ok-run.was) timetable_now refl c.timetable.ensures
