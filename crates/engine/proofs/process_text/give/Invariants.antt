-- Place after place is given its weight (`Giving`).
use Rattle.engine.proofs.Giving.{Giving}
use Rattle.engine.proofs.process_text.give.Given as goal

abbrev pub invariant-loop-p : goal.invariant-loop-p
invariant-loop-p l = Giving l.initial.queues l.weights l.queues l.p
