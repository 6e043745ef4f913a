-- Behind the end stands only the empty key; else the key is compared with what stands there.
use Rattle.std.proofs.Common.{arith, ◌∙◌}
use Rattle.text.proofs.KeyLaws.{begins_behind, begins_starts}
use Rattle.text.proofs.begins_at.Goals as goal

pub returns-then-s-at : goal.returns-then-s-at
returns-then-s-at c = let a = c.args in
    c.is_empty.ensures ∙ begins_behind a.s.now a.at a.key.now (omega (arith, c.if-s-at.true))

pub returns : goal.returns
returns c = let a = c.args in
    c.starts_with.ensures.value ∙ begins_starts a.s.now a.at a.key.now
