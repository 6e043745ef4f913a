-- The loop keeps the reader's state (`Run`): it stands behind one to nine digits, and whether the byte there is a digit says whether one more follows.
use Rattle.std.proofs.Common.{arith, sym, ◌∙◌}
use Rattle.text.proofs.ReadNumber.{digits_stop, small, run_start, run_more, run_long, run_closed, run_open, run_end}
use Rattle.text.proofs.number_from.Goals as goal

pub loop-i-init : goal.loop-i-init
loop-i-init c = let r = c.requires in run_start c.args.s.now c.args.at r.0 r.1 r.2

pub returns-then-separated : goal.returns-then-separated
returns-then-separated c = let a = c.args in
    run_closed a.s.now a.at c.loop-i.v c.loop-i.i c.loop-i.invariant a.last
    (digits_stop a.s.now c.loop-i.i c.loop-i-test.true (sym c.is_digit.ensures ∙ c.if-not-is_digit.true))
    (sym c.separated.ensures ∙ c.if-separated.true)

pub returns-else-separated : goal.returns-else-separated
returns-else-separated c = let a = c.args in
    run_open a.s.now a.at c.loop-i.v c.loop-i.i c.loop-i.invariant a.last
    (digits_stop a.s.now c.loop-i.i c.loop-i-test.true (sym c.is_digit.ensures ∙ c.if-not-is_digit.true))
    (sym c.separated.ensures ∙ c.if-separated.false)

pub returns-then-i-at-eq9 : goal.returns-then-i-at-eq9
returns-then-i-at-eq9 c = let a = c.args in
    run_long a.s.now a.at c.loop-i.v c.loop-i.i c.loop-i.invariant c.loop-i-test.true
    (sym c.is_digit.ensures ∙ c.if-not-is_digit.false) a.last c.if-i-at-eq9.true

pub overflow_mul-v : goal.overflow_mul-v
overflow_mul-v c = let a = c.args in
    let m = run_more a.s.now a.at c.loop-i.v c.loop-i.i c.loop-i.invariant c.loop-i-test.true (sym c.is_digit.ensures ∙ c.if-not-is_digit.false)
    c.if-i-at-eq9.false in
    record { fits = omega (arith, small _ _ m.small m.few) }

pub overflow_add-v : goal.overflow_add-v
overflow_add-v c = let a = c.args in
    let m = run_more a.s.now a.at c.loop-i.v c.loop-i.i c.loop-i.invariant c.loop-i-test.true (sym c.is_digit.ensures ∙ c.if-not-is_digit.false)
    c.if-i-at-eq9.false in
    record { fits = omega (arith, small _ _ m.small m.few) }

pub loop-i-preserved : goal.loop-i-preserved
loop-i-preserved c = let a = c.args in
    run_more a.s.now a.at c.loop-i.v c.loop-i.i c.loop-i.invariant c.loop-i-test.true (sym c.is_digit.ensures ∙ c.if-not-is_digit.false)
    c.if-i-at-eq9.false

pub returns : goal.returns
returns c = let a = c.args in
    run_end a.s.now a.at c.loop-i.v c.loop-i.i c.loop-i.invariant a.last c.loop-i-test.false
