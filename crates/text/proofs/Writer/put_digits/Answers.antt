-- What has been put and the digits of what is left are together those of n.
use Rattle.std.proofs.Common.{arith, ◌<◌, ◌^◌, refl}
use Rattle.text.proofs.WriteNumber.{digits_start, digits_more, digits_last, digits_done, times_digit, below_ten}
use Rattle.text.proofs.Writer.put_digits.Goals as goal

pub loop-k-init : goal.loop-k-init
loop-k-init c = let a = c.args in digits_start a.n a.self.now c.highest-k.result (omega arith) c.highest-k.ensures

pub digit_at-d-requires : goal.digit_at-d-requires
digit_at-d-requires c = let w = c.loop-k.invariant in (w.few, w.small)

pub overflow_add-d : goal.overflow_add-d
overflow_add-d c = let l = c.loop-k in
    omega (
      arith,
      times_digit l.left (10 ^ l.k) c.digit_at-d.result.times c.digit_at-d.result.left c.digit_at-d.ensures.0
          (below_ten l.left l.k (10 ^ l.k) refl l.invariant.small),
    )

pub loop-k-preserved : goal.loop-k-preserved
loop-k-preserved c = digits_more c.loop-k.invariant c.digit_at-d.result.times c.digit_at-d.result.left c.loop-k-test.true c.digit_at-d.ensures.0
    c.digit_at-d.ensures.1 c.put_byte.ensures

pub overflow_add-left : goal.overflow_add-left
overflow_add-left c = let last : c.loop-k.left < 10 = digits_last c.loop-k.invariant (omega (arith, c.loop-k-test.false)) in omega arith

pub overflow_cast-left : goal.overflow_cast-left
overflow_cast-left c = let last : c.loop-k.left < 10 = digits_last c.loop-k.invariant (omega (arith, c.loop-k-test.false)) in omega arith

pub returns : goal.returns
returns c = digits_done c.loop-k.invariant (omega (arith, c.loop-k-test.false)) c.put_byte-2.ensures
