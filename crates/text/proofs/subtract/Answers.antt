-- What was subtracted and what is left are together the number; so the tenth time does not come.
use Prim.Native.Nat.{◌+◌, ◌-◌, ◌*◌}
use native.Mathlib.Nat.{zero-mul}
use native.Mathlib.Omega.{arith}
use mathlib.Core.Path.{◌≡◌}
use Rattle.text.proofs.WriteNumber.{times_digit, times_more}
use Rattle.text.proofs.subtract.Goals as goal

pub loop-left-init : goal.loop-left-init
loop-left-init c = omega (arith, zero-mul c.args.p)

pub overflow_add-times : goal.overflow_add-times
overflow_add-times c =
    let once_more : c.args.v ≡ (c.loop-left.times + 1) * c.args.p + (c.loop-left.left - c.args.p) =
    let l = c.loop-left in let a = c.args in times_more a.v a.p l.times l.left l.invariant c.loop-left-test.true in
    let l = c.loop-left in
    let a = c.args in
    omega (arith, times_digit a.v a.p (l.times + 1) (l.left - a.p) (once_more) c.requires)

pub loop-left-smaller : goal.loop-left-smaller
loop-left-smaller c = omega (arith, c.requires, c.loop-left-test.true)

pub loop-left-preserved : goal.loop-left-preserved
loop-left-preserved c =
    let once_more : c.args.v ≡ (c.loop-left.times + 1) * c.args.p + (c.loop-left.left - c.args.p) =
    let l = c.loop-left in let a = c.args in times_more a.v a.p l.times l.left l.invariant c.loop-left-test.true in
    once_more

pub returns : goal.returns
returns c = (c.loop-left.invariant, c.loop-left-test.false)
