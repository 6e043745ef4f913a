-- The flags passed hold what they held or the test.
use Rattle.std.proofs.Common.{false, refl}
use Rattle.laws.specs.Arrays.{fill_start, fill_store, fill_ahead}
use Rattle.steps.proofs.Takes.mark.Goals as goal

pub loop-u-init : goal.loop-u-init
loop-u-init c = fill_start _ _ _

pub loop-u-preserved : goal.loop-u-preserved
loop-u-preserved c = fill_store c.loop-u.invariant c.loop-u-test.true (rw (fill_ahead c.loop-u.invariant false) refl)
