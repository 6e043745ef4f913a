-- The loop keeps what was taken of the places passed, and their items (`Lining`).
use Prim.Native.Nat.{◌<◌}
use native.Mathlib.Omega.{arith}
use mathlib.Core.Path.{◌≡◌}
use mathlib.Core.List.{[]}
use lib.ListN.{length}
use Rattle.std.proofs.lemmas.List.{get_or_default}
use Rattle.engine.proofs.Listing.{line_done}
use Rattle.engine.proofs.Lines.{lining_start, lining_more, lining_none, lining_took, lining_listed}
use Rattle.engine.proofs.process_text.put_taken.Goals as goal
use Rattle.engine.proofs.process_text.put_taken.Goals.{then-need-ne0, else-need-ne0}

pub loop-p-init : goal.loop-p-init
loop-p-init c = let a = c.args in lining_start a.w.now a.take.now a.t a.queues.now

pub loop-p-preserved : goal.loop-p-preserved
loop-p-preserved c = let a = c.args in
    let inside : c.loop-p.p < length c.loop-p.queues = omega (arith, c.loop-p-test.true, c.loop-p.auto.queues) in
    let queue = get_or_default c.loop-p.queues c.loop-p.p c.index-queues-p.result [] inside in
    elim c.if-need-ne0.branch [
      | then-need-ne0 w ↦
          rw (w.w-is, w.queues-is, w.line-is)
          (lining_more a.w.now a.take.now a.t a.queues.now c.loop-p.invariant inside (rw queue at w.take_oldest-line.ensures))
      | else-need-ne0 w ↦
          rw (w.w-is, w.queues-is, w.line-is, queue)
          (lining_none a.w.now a.take.now a.t a.queues.now c.loop-p.invariant inside w.if-need-ne0.false)
    ]

pub returns : goal.returns
returns c = let a = c.args in
    let all : c.loop-p.p ≡ length c.loop-p.queues = omega (arith, c.loop-p-test.false, c.loop-p.auto.queues, c.loop-p.auto.p-end) in (
      lining_took a.w.now a.take.now a.t a.queues.now c.loop-p.invariant all,
      line_done (lining_listed a.w.now a.take.now a.t a.queues.now c.loop-p.invariant all) c.end_line.ensures,
    )
