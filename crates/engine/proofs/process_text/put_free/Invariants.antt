-- The loop looks at flag after flag, and keeps what is left of the line (`Listing`).
use mathlib.Core.Bool.{true}
use lib.ListN.{length}
use Rattle.engine.specs.Counts.{Listing}
use Rattle.engine.proofs.Flags.{numbers_from}
use Rattle.engine.proofs.process_text.put_free.Given as goal

abbrev pub invariant-loop-i : goal.invariant-loop-i
invariant-loop-i l =
    Listing l.initial.w true (numbers_from l.linked (length l.linked) 1) l.w l.first (numbers_from l.linked (length l.linked) l.i)
