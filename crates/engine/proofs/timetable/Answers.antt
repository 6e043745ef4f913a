-- Values are checked as their cards would be, and the operation has what passed.
use Rattle.std.proofs.Common.{sym, ◌∙◌}
use Rattle.reply.proofs.Exit.{exits}
use Rattle.operations.specs.Timetable.{timetable_of}
use Rattle.engine.proofs.Outcome.{check_refused, check_passed}
use Rattle.engine.proofs.timetable.Goals as goal

pub returns-in_err-check : goal.returns-in_err-check
returns-in_err-check c = let a = c.args in
    rw (exits c.from_residual.ensures.1) (check_refused (timetable_of a.net a.order) a.out.now (sym c.check.ensures ∙ c.in_err-check.was))

pub returns : goal.returns
returns c = let a = c.args in
    check_passed (timetable_of a.net a.order) (sym c.check.ensures ∙ c.in_ok-check.was) c.timetable_checked.ensures
