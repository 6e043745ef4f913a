-- The numbers are written one after another, each with what stands behind it.
use Rattle.std.proofs.Common.{◌+◌, length, get_or}
use Rattle.std.proofs.Math.Dec.{eqb}
use Rattle.text.specs.Decimal.{field}
use Rattle.text.proofs.Writing.{WritesFirst}
use Rattle.form.specs.Line.{items_text}
use Rattle.form.proofs.put_items.Given as goal

abbrev pub invariant-loop-i : goal.invariant-loop-i
invariant-loop-i l =
    WritesFirst (items_text l.items) (λ k. field (get_or l.items k 0) (eqb (k + 1) (length l.items))) (length l.items) l.initial.w l.i l.w
