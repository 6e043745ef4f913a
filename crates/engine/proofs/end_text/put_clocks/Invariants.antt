-- The lines are written one after another.
use lib.ListN.{length}
use Rattle.laws.specs.Writing.{joined}
use Rattle.text.proofs.Writing.{WritesFirst}
use Rattle.engine.specs.Clocks.{clock_line}
use Rattle.engine.proofs.end_text.put_clocks.Given as goal

abbrev pub invariant-loop-on : goal.invariant-loop-on
invariant-loop-on l =
    let lines = clock_line l.flags l.since l.instant in
    WritesFirst (joined lines (length l.flags)) lines (length l.flags) l.initial.w (length l.yielded) l.w
