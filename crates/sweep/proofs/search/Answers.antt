-- The first window that fails answers for all, and so does the end.
use native.Mathlib.Omega.{arith}
use lib.ListN.{length}
use Rattle.timing.specs.Windows.{windows}
use Rattle.sweep.proofs.Prefixes.{solved_zero, reaching_none, answer_fails, answer_met}
use Rattle.sweep.proofs.search.Goals as goal

pub loop-i-init : goal.loop-i-init
loop-i-init c = (λ j l. absurd (omega arith), reaching_none _, solved_zero _)

pub returns-then-not-enter : goal.returns-then-not-enter
returns-then-not-enter c = let p = c.requires in
    let l = c.loop-i in
    let ws = c.args.windows.now in
    answer_fails (windows ws) (length ws) p.few p.earlier l.i l.x l.invariant.2 c.loop-i-test.true (rw c.if-not-enter.true at c.enter.ensures.met)

pub returns : goal.returns
returns c = let p = c.requires in
    let l = c.loop-i in
    let ws = c.args.windows.now in
    answer_met (windows ws) (length ws) p.few p.earlier l.i l.x l.invariant.2 c.loop-i-test.false l.auto.i-end
