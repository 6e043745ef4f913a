-- An order that has no timetable is answered by the refusal, and any other by the card of its timetable.
use Rattle.reply.proofs.Exit.{exits}
use Rattle.engine.proofs.Operations.{timetable_refused, timetable_fits, timetable_answered}
use Rattle.engine.proofs.timetable_checked.Goals as goal

pub respond-requires-clause-fits : goal.respond-requires-clause-fits
respond-requires-clause-fits c = timetable_fits c.args.net c.args.order c.requires c.timetable.ensures c.in_ok-run.was

pub returns-in_err-run : goal.returns-in_err-run
returns-in_err-run c =
    rw (exits c.from_residual.ensures.1)
    (timetable_refused c.args.net c.args.order c.requires c.timetable.ensures c.args.out.now c.in_err-run.was)

pub returns : goal.returns
returns c = timetable_answered c.args.net c.args.order c.requires c.timetable.ensures c.in_ok-run.was c.respond.ensures
