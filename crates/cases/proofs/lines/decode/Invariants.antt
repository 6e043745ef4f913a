-- The bytes are written into the buffer that was lent.
use Rattle.std.proofs.Common.{◌≡◌}
use Rattle.cases.proofs.lines.decode.Given as goal

abbrev pub invariant-loop-b : goal.invariant-loop-b
invariant-loop-b l = l.w.out.ghost_name ≡ l.initial.w.out.ghost_name
