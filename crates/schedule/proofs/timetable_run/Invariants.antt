-- The slots passed hold the firings between their instants.
use Rattle.laws.specs.Arrays.{Filling}
use Rattle.schedule.specs.Timetable.{timed_firing}
use Rattle.schedule.proofs.timetable_run.Given as goal

abbrev pub invariant-loop-i : goal.invariant-loop-i
invariant-loop-i l = Filling (timed_firing l.fn.order l.instants) l.count l.initial.firings l.i l.firings
