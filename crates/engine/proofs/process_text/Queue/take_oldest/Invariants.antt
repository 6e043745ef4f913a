-- The loop keeps what is still to be taken, and what is left of the line (`Drawing`).
use Rattle.engine.proofs.Taking.{Drawing}
use Rattle.engine.proofs.process_text.Queue.take_oldest.Given as goal

abbrev pub invariant-loop-i : goal.invariant-loop-i
invariant-loop-i l = Drawing l.initial.w l.initial.so_far l.place l.count l.initial.self-inside l.w l.self-inside l.so_far l.need l.i
