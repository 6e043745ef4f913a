-- The word that the loop stands at is the one.
use Rattle.std.proofs.Common.{refl, sym, ◌∙◌}
use Rattle.cases.proofs.lines.named.Goals as goal

pub returns-then-begins_at : goal.returns-then-begins_at
returns-then-begins_at g c =
    (c.loop-word.word-index, c.loop-word-item.result, c.loop-word-test.true, sym c.loop-word-item.is, (sym c.begins_at.ensures ∙ c.if-begins_at.true, refl))
