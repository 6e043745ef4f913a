-- Where the key stands, the position behind it lies within the input.
use Rattle.std.proofs.Common.{arith, sym, ◌∙◌}
use Rattle.text.specs.Key.{bytes}
use Rattle.text.proofs.KeyLaws.{begins_split}
use Rattle.net_card.proofs.latest_line.Goals as goal

pub overflow_add-at : goal.overflow_add-at
overflow_add-at c = let a = c.args in
    record { fits = omega (arith, (begins_split (bytes "latest=") a.s.now a.at (sym c.begins_at.ensures ∙ c.if-not-begins_at.false)).1) }
