-- The loop keeps what is still to be taken, and what is left of the line (`Drawing`).
use Prim.Native.Nat.{◌≤◌}
use native.Mathlib.Omega.{arith}
use mathlib.Core.Logic.{inl, inr}
use lib.ListN.{length}
use Rattle.engine.proofs.Taking.{drawing_start, drawing_none, drawing_some, drawing_done, drawing_left}
use Rattle.engine.proofs.process_text.Queue.take_oldest.Goals as goal
use Rattle.engine.proofs.process_text.Queue.take_oldest.Goals.{then-taken-ne0, else-taken-ne0}

pub loop-i-init : goal.loop-i-init
loop-i-init c = let a = c.args in
    drawing_start a.w.now a.line a.place a.count c.self.inside (omega (arith, c.self.invariant.within, c.self.told)) c.self.invariant

pub loop-i-preserved : goal.loop-i-preserved
loop-i-preserved c = let a = c.args in
    let full : c.self.inside.producers ≤ length c.self.inside.counts = omega (arith, c.self.invariant.within, c.self.told) in
    elim c.if-taken-ne0.branch [
      | then-taken-ne0 w ↦
          rw (w.w-is, w.self-inside-is, w.so_far-is)
          (drawing_some a.w.now a.line a.place a.count c.self.inside full c.loop-i.invariant c.loop-i-test.true c.min-taken.result
          c.min-taken.ensures w.if-taken-ne0.true w.put_item.ensures)
      | else-taken-ne0 w ↦
          rw (w.w-is, w.self-inside-is, w.so_far-is)
          (drawing_none a.w.now a.line a.place a.count c.self.inside full c.loop-i.invariant c.loop-i-test.true c.min-taken.result
          c.min-taken.ensures w.if-taken-ne0.false)
    ]

pub returns-then-need-eq0 : goal.returns-then-need-eq0
returns-then-need-eq0 c = let a = c.args in
    let full : c.self.inside.producers ≤ length c.self.inside.counts = omega (arith, c.self.invariant.within, c.self.told) in
    rw (← c.self.view_is) (drawing_done a.w.now a.line a.place a.count c.self.inside full c.loop-i.invariant (inr c.if-need-eq0.true))

pub invariant_of-self-then-need-eq0 : goal.invariant_of-self-then-need-eq0
invariant_of-self-then-need-eq0 c = let a = c.args in
    let full : c.self.inside.producers ≤ length c.self.inside.counts = omega (arith, c.self.invariant.within, c.self.told) in
    drawing_left a.w.now a.line a.place a.count c.self.inside full c.loop-i.invariant (inr c.if-need-eq0.true) c.self.invariant

pub returns-after-loop-i : goal.returns-after-loop-i
returns-after-loop-i c = let a = c.args in
    let full : c.self.inside.producers ≤ length c.self.inside.counts = omega (arith, c.self.invariant.within, c.self.told) in
    rw (← c.self.view_is) (drawing_done a.w.now a.line a.place a.count c.self.inside full c.loop-i.invariant (inl c.loop-i-test.false))
