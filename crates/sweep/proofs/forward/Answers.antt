-- The firing after i rises to the later of both, or is before neither.
use native.Mathlib.Omega.{arith}
use Rattle.std.proofs.Common.{◌<◌, length, refl}
use mathlib.Core.Logic.{⊎_elim}
use Rattle.sweep.proofs.Ascent.{forth_passed, forth_raised}
use Rattle.sweep.proofs.forward.Goals.{then-t-before, else-t-before, then-t-least, else-t-least}
use Rattle.sweep.proofs.forward.Goals as goal

pub loop-i-preserved : goal.loop-i-preserved
loop-i-preserved c = let l = c.loop-i in
    let r = c.requires in
    let inside : l.i < length c.args.windows.now = omega (arith, c.loop-i-test.true, l.invariant.ahead.within) in
    elim c.if-t-least.branch [
      | then-t-least w ↦
          rw (w.x-is, w.first-is, w.last-is, w.until-is, w.before-is)
          (forth_raised l.invariant inside w.max-before.result w.max-before.ensures r.listed.0.earlier (omega arith)
          (omega (arith, r.listed.0, l.invariant.swept.size))
          (⊎_elim (λ h. omega (arith, h, w.max-before.ensures)) (λ h. omega (arith, h, w.max-before.ensures)) w.if-t-least.either)
          c.loop-i-test.true r.listed.1 w.min-first.result w.min-first.ensures
          w.max-until.result w.max-until.ensures)
      | else-t-least w ↦
          rw (w.x-is, w.first-is, w.last-is, w.until-is, w.before-is) (forth_passed l.invariant inside _ refl (omega (arith, w.if-t-least.false)))
    ]
