-- The firings that are left come to what the whole run comes to (`Playing`).
use Rattle.std.proofs.Common.{◌≡◌, length, arith, rules}
use Rattle.laws.specs.Tables.{length_mapped}
use Rattle.firing.specs.Semantics.{start_marking}
use Rattle.steps.proofs.Playing.{playing_start, playing_done, playing_refused, playing_more}
use Rattle.steps.proofs.play.Goals as goal

pub loop-i-init : goal.loop-i-init
unfolding start_marking
loop-i-init c = let a = c.args in playing_start a.net a.run c.start_marking.ensures

pub overflow_add-instant : goal.overflow_add-instant
overflow_add-instant c =
    let long : length c.args.run.firings ≡ 64 = search (rules, length_mapped) in
    omega (arith, c.loop-i.invariant.soon, c.loop-i-test.true, long)

pub returns-in_default : goal.returns-in_default
returns-in_default c = let a = c.args in
    playing_refused a.net a.run c.loop-i.invariant c.min-count.ensures (search (rules, length_mapped)) c.loop-i-test.true {interval = c.unwrap_or.result}
    (search rules)
    (rw (c.of-terms.ensures.0, c.of-terms.ensures.1, c.of-terms.ensures.2) at c.step-checked.ensures)
    c.in_default.is

pub loop-i-preserved : goal.loop-i-preserved
loop-i-preserved c = let a = c.args in
    playing_more a.net a.run c.loop-i.invariant c.min-count.ensures (search (rules, length_mapped)) c.loop-i-test.true {interval = c.unwrap_or.result}
    (search rules)
    (rw (c.of-terms.ensures.0, c.of-terms.ensures.1, c.of-terms.ensures.2) at c.step-checked.ensures)
    c.in-Ok.is
    (omega arith)

pub returns : goal.returns
returns c = let a = c.args in
    playing_done a.net a.run c.loop-i.invariant c.min-count.ensures (search (rules, length_mapped)) c.loop-i-test.false
