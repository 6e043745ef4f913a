-- The slots passed hold the firings between their instants.
use native.Mathlib.Omega.{arith}
use mathlib.Core.Path.{refl}
use Rattle.std.proofs.Common.{◌≤◌, length, rules, length-take-le, ◌≡◌}
use Rattle.laws.specs.Arrays.{fill_start, fill_store}
use Rattle.schedule.proofs.Rounds.{in_front, timing_done}
use Rattle.schedule.proofs.timetable_run.Goals as goal

pub loop-i-init : goal.loop-i-init
loop-i-init c = fill_start _ _ _

pub loop-i-preserved : goal.loop-i-preserved
loop-i-preserved c =
    let fires = c.args.order.fires in
    let l = c.loop-i in
    let long : length fires ≡ 64 = search rules in
    let front = in_front c.min-count.result fires 0 l.i (omega (arith, c.min-count.ensures)) c.loop-i-test.true in
    fill_store l.invariant front.0 (rw (c.gap.ensures, front.1) refl)

pub returns : goal.returns
returns c =
    let fires = c.args.order.fires in
    let n = c.min-count.result in
    let long : length fires ≡ 64 = search rules in
    let few : n ≤ length fires = omega (arith, c.min-count.ensures) in
    timing_done c.args.order c.args.instants c.loop-i.invariant c.min-count.ensures (omega (arith, length-take-le n fires few))
