-- The transitions passed stand in the arrays (`Adding`).
use mathlib.Core.Path.{refl}
use Rattle.joining.proofs.Adding.{adding_start, adding_more, adding_done}
use Rattle.joining.proofs.Rows.add.Goals as goal

pub loop-t-init : goal.loop-t-init
loop-t-init c = let a = c.args in adding_start a.net.now c.sources-sources.result.now a.behind a.self.now

pub loop-t-preserved : goal.loop-t-preserved
loop-t-preserved c =
    adding_more c.loop-t.invariant c.loop-t-test.true c.requires (rw c.sources-sources.ensures.places c.sources-sources.ensures.few)
    c.move_weights.ensures c.move_weights-in-loop-t.ensures refl

pub returns : goal.returns
returns c = rw (← c.sources-sources.ensures.places) (adding_done c.loop-t.invariant c.loop-t-test.false)
