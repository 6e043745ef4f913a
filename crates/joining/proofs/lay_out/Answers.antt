-- The places passed that no pair names stand behind those of the first net (`Laying`).
use native.Mathlib.Omega.{arith}
use borrow.Author.Rules.{rules}
use Rattle.joining.proofs.Layouts.{laying_start, laying_named, laying_more, laying_full, laying_done}
use Rattle.joining.proofs.lay_out.Goals.{then-not-named+else-count-eq16, else-not-named}
use Rattle.joining.proofs.lay_out.Goals as goal

pub loop-q-init : goal.loop-q-init
loop-q-init c = let a = c.args in laying_start a.partners a.places a.named.now c.requires.few.0 (search rules) c.requires.within

pub returns-then-count-eq16 : goal.returns-then-count-eq16
returns-then-count-eq16 c = laying_full c.loop-q.invariant c.requires.few.1 c.loop-q-test.true c.if-not-named.true c.if-count-eq16.true

pub loop-q-preserved : goal.loop-q-preserved
loop-q-preserved c = let few = c.requires.few.1 in let more = c.loop-q-test.true in
    elim c.if-not-named.branch [
      | then-not-named+else-count-eq16 v ↦
          rw (v.source-is, v.count-is) (laying_more c.loop-q.invariant few more v.if-not-named.true v.if-count-eq16.false)
      | else-not-named v ↦ rw (v.source-is, v.count-is) (laying_named c.loop-q.invariant few more v.if-not-named.false)
    ]

pub returns : goal.returns
returns c = laying_done c.loop-q.invariant (omega (arith, c.loop-q-test.false, c.loop-q.auto.q-end))
