-- The places passed hold their weights (`Moving`).
use mathlib.Core.Path.{refl}
use Rattle.joining.proofs.Moving.{weights_in, moving_start, moving_more, moving_done, weight_there}
use Rattle.joining.proofs.move_weights.Goals.{in-Some, in-None}
use Rattle.joining.proofs.move_weights.Goals as goal

pub loop-p-init : goal.loop-p-init
loop-p-init c = let a = c.args in moving_start (weights_in a.from.now a.first a.step) a.sources.now a.slot a.step a.to.now

pub loop-p-preserved : goal.loop-p-preserved
loop-p-preserved c = let a = c.args in
    let h = c.loop-p-test.true in
    elim c.match-source.branch [
      | in-Some w ↦
          rw w.to-is
          (moving_more c.loop-p.invariant h
          (weight_there a.from.now a.first a.step w.in-Some.is (c.requires.within c.loop-p.p w.in-Some.q w.in-Some.is)))
      | in-None w ↦ rw w.to-is (moving_more c.loop-p.invariant h (rw w.in-None.is refl))
    ]

pub returns : goal.returns
returns c = moving_done c.loop-p.invariant c.loop-p-test.false
