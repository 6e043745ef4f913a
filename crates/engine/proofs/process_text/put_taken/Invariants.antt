-- The loop keeps what was taken of the places passed, and their items (`Lining`).
use Rattle.engine.proofs.Lines.{Lining}
use Rattle.engine.proofs.process_text.put_taken.Given as goal

abbrev pub invariant-loop-p : goal.invariant-loop-p
invariant-loop-p l = Lining l.initial.w l.take l.t l.initial.queues l.w l.queues l.line l.p
