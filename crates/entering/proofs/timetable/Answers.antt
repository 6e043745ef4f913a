-- The order of the firings passes its check, and its timetable is the answer.
use Rattle.entering.proofs.Answers.{timetable_answered}
use Rattle.entering.proofs.timetable.Goals as goal

pub returns : goal.returns
returns c = timetable_answered c.args.run c.standing.ensures c.in_ok-standing.was c.order_so_far.ensures c.timetable.ensures
