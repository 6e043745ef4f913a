-- The loop keeps the windows so far, and what the firings that are left come to (`Collecting`).
use Rattle.schedule.proofs.Collecting.{Collecting}
use Rattle.schedule.proofs.collect.Given as goal

abbrev pub invariant-loop-i : goal.invariant-loop-i
invariant-loop-i l = Collecting l.fn.net l.fn.order l.windows l.marking l.since l.i
