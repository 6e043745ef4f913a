-- The tokens of the places passed have moved (`Moving`).
use Rattle.std.proofs.Common.{arith}
use Rattle.steps.specs.Firing.{arcs}
use Rattle.steps.proofs.Front.{front_at, front_inside, front_passed}
use Rattle.steps.proofs.Places.{enough_at, moving_start, moving_more, moving_over, moving_done}
use Rattle.steps.proofs.Fire.moved.Goals as goal

pub loop-p-init : goal.loop-p-init
loop-p-init c = let s = c.args.self.now in moving_start (arcs s) c.args.marking.now s.t

pub overflow_sub-left : goal.overflow_sub-left
overflow_sub-left c = let s = c.args.self.now in
    let m = c.args.marking.now in
    let l = c.loop-p-test.true in
    rw (front_at s.takes.places m (omega arith) 0 l)
    (enough_at s.takes.weights.now s.takes.places m s.t c.loop-p.p c.requires (front_inside s.takes.places m (omega arith) l))

pub loop-p-preserved : goal.loop-p-preserved
loop-p-preserved c = let s = c.args.self.now in
    let m = c.args.marking.now in
    let l = c.loop-p-test.true in
    let same = front_at s.takes.places m (omega arith) 0 l in
    rw same
    (moving_more (arcs s) m s.t c.loop-p.invariant (front_inside s.takes.places m (omega arith) l) c.overflowing_add-sum.result.1
    (rw same at c.overflowing_add-sum.ensures.overflow)
    (rw same at c.overflowing_add-sum.ensures.value))

pub returns-then-over : goal.returns-then-over
returns-then-over c = let s = c.args.self.now in
    let m = c.args.marking.now in
    moving_over (arcs s) m s.t c.loop-p.invariant (front_passed s.takes.places m (omega arith) c.loop-p-test.false) c.if-over.true

pub returns-else-over : goal.returns-else-over
returns-else-over c = let s = c.args.self.now in
    let m = c.args.marking.now in
    moving_done (arcs s) m s.t c.loop-p.invariant (front_passed s.takes.places m (omega arith) c.loop-p-test.false) c.if-over.false
