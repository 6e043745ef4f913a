-- The places passed have left their marks (`Marked`).
use Rattle.std.proofs.Common.{arith}
use Rattle.steps.specs.Firing.{arcs}
use Rattle.steps.proofs.Front.{front_at, front_inside, front_passed}
use Rattle.steps.proofs.Restarts.{marked_start, marked_given, marked_none, marked_done}
use Rattle.steps.proofs.Fire.short_marks.Goals as goal
use Rattle.steps.proofs.Fire.short_marks.Goals.{then-self-p-ne0, else-self-p-ne0}

pub loop-p-init : goal.loop-p-init
loop-p-init c = let s = c.args.self.now in marked_start (arcs s) s.takes.few_transitions c.args.looked.now s.t

pub loop-p-preserved : goal.loop-p-preserved
loop-p-preserved c =
    let s = c.args.self.now in
    let l = c.args.looked.now in
    let inside = front_inside s.takes.places l (omega arith) c.loop-p-test.true in
    elim c.if-self-p-ne0.branch [
      | then-self-p-ne0 w ↦
          rw w.marks-is
          (marked_given (arcs s) s.takes.few_transitions l s.t c.loop-p.invariant inside w.if-self-p-ne0.true
          (rw (front_at s.takes.places l (omega arith) 0 c.loop-p-test.true) at w.mark.ensures))
      | else-self-p-ne0 w ↦ rw w.marks-is (marked_none (arcs s) s.takes.few_transitions l s.t c.loop-p.invariant inside w.if-self-p-ne0.false)
    ]

pub returns : goal.returns
returns c = let s = c.args.self.now in
    marked_done (arcs s) s.takes.few_transitions c.args.looked.now s.t c.loop-p.invariant
    (front_passed s.takes.places c.args.looked.now (omega arith) c.loop-p-test.false)
