-- A window past its upper bound raises its origin.
use native.Mathlib.Omega.{arith}
use Rattle.std.proofs.Common.{get_or, length, ◌+◌, ◌-◌, ◌<◌, ◌≡◌}
use Rattle.timing.specs.Timing.{Wellformed}
use Rattle.timing.specs.Windows.{windows}
use Rattle.sweep.specs.Sweeps.{asked}
use Rattle.sweep.proofs.Raising.{asks_past}
use Rattle.sweep.proofs.Descent.{back_inside, back_raised, back_ahead, back_small}
use Rattle.sweep.proofs.backward.Goals as goal

pub overflow_add-x : goal.overflow_add-x
overflow_add-x c = let l = c.loop-stop in
    let r = c.requires in
    let last : l.i - 1 < length c.args.windows.now = omega (arith, l.invariant.0.swept.within, c.loop-stop-test.true, r.below) in
    omega (arith, l.invariant.2 (windows c.args.windows.now (l.i - 1)).origin (omega (arith, r.listed.0.earlier (l.i - 1) last, last)), c.ticks-high.ensures)

pub loop-stop-preserved-then-x-origin : goal.loop-stop-preserved-then-x-origin
loop-stop-preserved-then-x-origin c = let l = c.loop-stop in
    let r = c.requires in
    let t = get_or l.x (l.i - 1 + 1) 0 in
    let earlier : Wellformed (windows c.args.windows.now) c.args.top = λ j h. r.listed.0.earlier j (omega arith) in
    let asks : t - c.ticks-high.result ≡ asked (windows c.args.windows.now (l.i - 1)).high t = rw c.ticks-high.ensures.0 (asks_past c.in-Some.is t) in
    let d = l.invariant.0 in
    let less : get_or l.x (windows c.args.windows.now (l.i - 1)).origin 0 < t - c.ticks-high.result = omega (arith, c.if-x-origin.true) in
    let inside : (windows c.args.windows.now (l.i - 1)).origin < length l.x = omega (arith, back_inside d c.loop-stop-test.true earlier (omega arith), d.swept.size) in (
      back_raised d c.loop-stop-test.true earlier inside (t - c.ticks-high.result) asks less c.min-from.result c.min-from.ensures
          c.saturating_sub.result c.min-stop.result c.saturating_sub.ensures c.min-stop.ensures,
      back_ahead d c.loop-stop-test.true earlier inside (t - c.ticks-high.result) asks less r.listed.1 r.below.1 l.invariant.1
          c.max-until.result c.max-until.ensures,
      back_small d c.loop-stop-test.true earlier inside (t - c.ticks-high.result) asks less r.below.1 (omega arith) l.invariant.2,
    )
