-- Where the word stands, the position behind it lies within the input.
use Rattle.std.proofs.Common.{arith, sym, ◌∙◌}
use Rattle.text.specs.Key.{bytes}
use Rattle.text.proofs.KeyLaws.{begins_split}
use Rattle.net_card.proofs.latest_at.Goals as goal

pub overflow_add-result : goal.overflow_add-result
overflow_add-result c = let a = c.args in
    record { fits = omega (arith, (begins_split (bytes "inf\n") a.s.now a.at (sym c.begins_at.ensures ∙ c.if-begins_at.true)).1) }
