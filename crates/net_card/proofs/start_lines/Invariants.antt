-- The loop keeps the state of the reader (`Reading`).
use Rattle.std.proofs.Common.{◌+◌, ◌++◌}
use Rattle.std.specs.Prelude.{◌-◌, replicate}
use Rattle.form.proofs.Loops.{Reading}
use Rattle.net_card.proofs.Read.{start_line}
use Rattle.net_card.proofs.start_lines.Given as goal

abbrev pub invariant-loop-i : goal.invariant-loop-i
invariant-loop-i l = Reading start_line l.fn.head.places 16 0 l.s l.at 4 (l.slot-items ++ replicate (16 - l.fn.head.places) 0) l.i l.next (4 + l.i)
