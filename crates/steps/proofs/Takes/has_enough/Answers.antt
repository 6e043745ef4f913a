-- No place passed is short.
use Rattle.std.proofs.Common.{◌≡◌, sym, refl, arith, le-leb}
use borrow.Author.Tests.{lt-leb}
use Rattle.std.proofs.lemmas.List.{length-take-le}
use Rattle.laws.specs.Tests.{all_below, all_more, all_fails}
use Rattle.firing.specs.Semantics.{enough}
use Rattle.steps.proofs.Front.{front_at, front_inside, front_passed}
use Rattle.steps.proofs.Places.{has_enough}
use Rattle.steps.proofs.Takes.has_enough.Goals as goal

pub loop-p-init : goal.loop-p-init
unfolding all_below
loop-p-init c = refl

pub loop-p-preserved : goal.loop-p-preserved
loop-p-preserved c = let s = c.args.self.now in let m = c.args.marking.now in
    all_more (has_enough s.weights.now m c.args.t) c.loop-p.p c.loop-p.invariant
    (le-leb _ _ (rw (front_at s.places m (omega arith) 0 c.loop-p-test.true) at c.if-tokens-self.false))

pub returns : goal.returns
unfolding enough
returns c = let s = c.args.self.now in let m = c.args.marking.now in
    let whole : c.loop-p.p ≡ s.places = omega (arith, front_passed s.places m (omega arith) c.loop-p-test.false, length-take-le s.places m (omega arith)) in
    sym (rw whole at c.loop-p.invariant)

pub returns-then-tokens-self : goal.returns-then-tokens-self
unfolding enough
returns-then-tokens-self c = let s = c.args.self.now in let m = c.args.marking.now in
    sym
    (all_fails (has_enough s.weights.now m c.args.t) c.loop-p.p s.places
    (lt-leb _ _ (rw (front_at s.places m (omega arith) 0 c.loop-p-test.true) at c.if-tokens-self.true))
    (front_inside s.places m (omega arith) c.loop-p-test.true))
