-- Where a word stands, the position behind it lies within the input.
use Rattle.std.proofs.Common.{arith, sym, ◌∙◌}
use Rattle.text.specs.Key.{bytes}
use Rattle.text.proofs.KeyLaws.{begins_split}
use Rattle.run_card.proofs.memory_at.Goals as goal

pub overflow_add-result : goal.overflow_add-result
overflow_add-result c = let a = c.args in
    record { fits = omega (arith, (begins_split (bytes "intermediate\n") a.s.now a.at (sym c.begins_at.ensures ∙ c.if-begins_at.true)).1) }

pub overflow_add-result-then-begins_at-2 : goal.overflow_add-result-then-begins_at-2
overflow_add-result-then-begins_at-2 c = let a = c.args in
    record { fits = omega (arith, (begins_split (bytes "atomic\n") a.s.now a.at (sym c.begins_at-2.ensures ∙ c.if-begins_at-2.true)).1) }

pub overflow_add-result-then-begins_at-3 : goal.overflow_add-result-then-begins_at-3
overflow_add-result-then-begins_at-3 c = let a = c.args in
    record { fits = omega (arith, (begins_split (bytes "carry\n") a.s.now a.at (sym c.begins_at-3.ensures ∙ c.if-begins_at-3.true)).1) }
