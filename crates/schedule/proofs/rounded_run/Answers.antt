-- The loop keeps the rounded firings so far and the running sum of the waits (`Rounding`).
use native.Mathlib.Omega.{arith}
use Rattle.std.proofs.Common.{◌≤◌, length, rules, length-take-le, ◌≡◌}
use Rattle.run.specs.Run.{no_firing}
use Rattle.schedule.proofs.Rounds.{in_front, rounding_start, rounding_more, rounding_done}
use Rattle.schedule.proofs.rounded_run.Goals as goal

pub loop-i-init : goal.loop-i-init
loop-i-init c = rounding_start c.args.run

pub loop-i-preserved : goal.loop-i-preserved
loop-i-preserved c =
    let r = c.args.run in
    let l = c.loop-i in
    let long : length r.firings ≡ 64 = search rules in
    let front = in_front c.min-count.result r.firings no_firing l.i (omega (arith, c.min-count.ensures)) c.loop-i-test.true in
    rw front.1 (rounding_more r l.invariant (omega (arith, c.min-count.ensures)) (rw (← front.1) (omega arith)) (rw front.1 at c.whole_wait.ensures))

pub returns : goal.returns
returns c =
    let r = c.args.run in
    let n = c.min-count.result in
    let long : length r.firings ≡ 64 = search rules in
    let few : n ≤ length r.firings = omega (arith, c.min-count.ensures) in
    rounding_done r c.loop-i.invariant c.min-count.ensures (omega (arith, length-take-le n r.firings few)) c.whole_wait-2.ensures
