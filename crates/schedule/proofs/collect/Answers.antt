-- The loop keeps the windows so far, and what the firings that are left come to (`Collecting`).
use Prim.Native.Nat.{◌≤◌, ◌<◌, min}
use native.Mathlib.Omega.{arith}
use mathlib.Core.Path.{◌≡◌, refl, ◌∙◌}
use Rattle.reply.proofs.Exit.{exits}
use lib.ListN.{length, get_or, get_or-eq_default}
use Rattle.laws.specs.Tables.{length_mapped}
use Rattle.net.specs.Net.{no_transition}
use Rattle.firing.specs.Semantics.{start_marking}
use Rattle.timing.specs.Windows.{no_window, window_at}
use Rattle.std.proofs.Common.{length-take-le}
use Rattle.schedule.proofs.Rounds.{in_front}
use Rattle.schedule.proofs.Collecting.{state_after, collecting_start, collecting_done, collecting_refused, collecting_more, collecting_none}
use borrow.Author.Rules.{rules}
use Rattle.schedule.proofs.collect.Goals.{then-t-lt32, else-t-lt32}
use Rattle.schedule.proofs.collect.Goals as goal

pub loop-i-init : goal.loop-i-init
unfolding start_marking
loop-i-init c = collecting_start c.args.net c.args.order c.start_marking-marking.ensures

pub loop-i-preserved : goal.loop-i-preserved
loop-i-preserved c =
    let a = c.args in
    let l = c.loop-i in
    let t = get_or a.order.fires l.i 0 in
    let size : length a.order.fires ≡ 64 = search rules in
    let front = in_front c.min-count.result a.order.fires 0 l.i (omega (arith, c.min-count.ensures)) c.loop-i-test.true in
    let few : l.i < min a.order.count 64 = omega (arith, c.min-count.ensures, front.0) in
    let terms = c.of-terms.ensures in
    let step = rw (terms.0, terms.1, terms.2, front.1) at c.step.ensures in
    let long : length a.net.table ≡ 32 = search (rules, length_mapped) in
    elim c.if-t-lt32.branch [
      | then-t-lt32 v ↦ rw (v.windows-is, front.1) (collecting_more a.net a.order l.invariant few step c.in_ok-step.was refl)
      | else-t-lt32 v ↦
          let past : 32 ≤ t = rw front.1 at v.if-t-lt32.false in
          let none : no_window ≡ window_at a.net (state_after l.marking l.since l.i) t =
          rw (
            get_or-eq_default l.since 0 {n = t} (omega (arith, l.invariant.clocks)),
            get_or-eq_default a.net.table no_transition {n = t} (omega (arith, long)),
          ) refl in
          rw v.windows-is (collecting_none a.net a.order l.invariant few step c.in_ok-step.was none)
    ]

pub returns-in_err-step : goal.returns-in_err-step
returns-in_err-step c =
    let a = c.args in
    let size : length a.order.fires ≡ 64 = search rules in
    let front = in_front c.min-count.result a.order.fires 0 c.loop-i.i (omega (arith, c.min-count.ensures)) c.loop-i-test.true in
    let few : c.loop-i.i < min a.order.count 64 = omega (arith, c.min-count.ensures, front.0) in
    exits c.from_residual.ensures.1
    ∙ collecting_refused a.net a.order c.loop-i.invariant few (rw (c.of-terms.ensures.0, c.of-terms.ensures.1, c.of-terms.ensures.2, front.1) at c.step.ensures) c.in_err-step.was

pub returns : goal.returns
returns c =
    let fires = c.args.order.fires in
    let n = c.min-count.result in
    let size : length fires ≡ 64 = search rules in
    let few : n ≤ length fires = omega (arith, c.min-count.ensures) in
    collecting_done c.args.net c.args.order c.loop-i.invariant (omega (arith, c.min-count.ensures, length-take-le n fires few))
