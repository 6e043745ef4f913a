-- Every power up to k is in the number, or k is 0; so the first that is not has as many zeros as the number has digits.
use Rattle.std.proofs.Common.{arith, ◌≡◌, inr}
use Rattle.std.proofs.Math.Numerals.{add-one}
use Rattle.text.proofs.WriteNumber.{highest_width}
use Rattle.text.proofs.highest.Goals as goal

pub returns-then-n-power : goal.returns-then-n-power
returns-then-n-power c = highest_width c.args.n c.loop-k.k (omega arith) c.loop-k.invariant (rw (c.power.ensures, add-one) at c.if-n-power.true)

pub loop-k-preserved : goal.loop-k-preserved
loop-k-preserved c = inr (rw c.power.ensures at c.if-n-power.false)

pub returns : goal.returns
returns c = let last : c.loop-k.k ≡ 19 = omega (arith, c.loop-k-test.false) in
    highest_width c.args.n 19 (omega arith) (rw last at c.loop-k.invariant) (omega arith)
