-- Each way out is a case of the definition.
use Rattle.std.proofs.Common.{sym, ◌∙◌}
use Rattle.reply.proofs.Exit.{exits}
use Rattle.schedule.proofs.Timetables.{timetabled_refused, timetabled_found}
use Rattle.schedule.proofs.timetable.Goals as goal

pub returns-in_err-windows : goal.returns-in_err-windows
returns-in_err-windows c = exits c.from_residual.ensures.1 ∙ timetabled_refused c.args.net c.args.order (sym c.collect.ensures ∙ c.in_err-windows.was)

pub returns-in-Ok : goal.returns-in-Ok
returns-in-Ok c = let a = c.args in
    rw c.timetable_run.ensures (timetabled_found a.net a.order (sym c.collect.ensures ∙ c.in_ok-windows.was) c.in-Ok.ensures)

pub returns-in-Err : goal.returns-in-Err
returns-in-Err c = let a = c.args in
    timetabled_found a.net a.order (sym c.collect.ensures ∙ c.in_ok-windows.was) c.in-Err.ensures
