-- The tests on the indices that rose say what a round came to.
use mathlib.Core.Path.{refl}
use native.Mathlib.Numerals.{add-one}
use native.Mathlib.Omega.{arith}
use Rattle.sweep.proofs.Rounds.{settle_start, settling_small, settle_none, settle_started, forth_from, forth_follows, settle_done}
use Rattle.sweep.proofs.Rounds.{settle_above, settle_more, settle_spent}
use Rattle.sweep.proofs.settle.Goals as goal

pub loop-init : goal.loop-init
loop-init c = let p = c.requires.listed.0 in
    settle_start p.few p.earlier c.requires.entered

pub backward-requires-clause-small : goal.backward-requires-clause-small
backward-requires-clause-small c = settling_small c.loop.invariant

pub returns-in_default : goal.returns-in_default
returns-in_default c = settle_none c.loop.invariant c.in_default.ensures refl

pub returns-then-start_rises : goal.returns-then-start_rises
returns-then-start_rises c = settle_started c.loop.invariant c.in-Some.ensures.0 c.if-start_rises.true

pub forward-requires : goal.forward-requires
forward-requires c = let s = c.loop.invariant in
    let b = c.in-Some.ensures.0 in
    record {
      listed = c.requires.listed;
      follows = (forth_from s b, forth_follows s b);
      ahead = c.in-Some.ensures.2;
      small = c.in-Some.ensures.3;
    }

pub returns-in_default-forward : goal.returns-in_default-forward
returns-in_default-forward c = settle_done c.loop.invariant c.in-Some.ensures.0 c.in_default-forward.ensures c.if-start_rises.false refl

pub returns-then-risen-windows : goal.returns-then-risen-windows
returns-then-risen-windows c = settle_above c.loop.invariant c.in-Some.ensures.0 c.in-Some-forward.ensures.0 c.if-risen-windows.true

pub loop-preserved : goal.loop-preserved
loop-preserved c = let l = c.loop in
    let b = c.in-Some.ensures in
    let f = c.in-Some-forward.ensures in
    rw (add-one l.counter)
    (settle_more l.invariant b.0 f.0 (λ e. omega (arith, b.1)) f.1 f.2 c.if-start_rises.false c.if-risen-windows.false)

pub returns : goal.returns
returns c = settle_spent c.loop.invariant (omega (arith, c.loop.invariant.size))
