-- The loop keeps the state of the process (`Processing`), and the last two lines are those of the definition.
use Rattle.engine.proofs.Processes.{Processing}
use Rattle.engine.proofs.process_text.put_process_lines.Given as goal

abbrev pub invariant-loop-i : goal.invariant-loop-i
invariant-loop-i l = Processing l.net l.fn.run l.places l.count l.initial.w l.w l.queues l.linked l.i
