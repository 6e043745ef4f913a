-- The parts are written one after another.
use Rattle.run_card.proofs.Parts.{put_start, put_more, put_done}
use Rattle.run_card.proofs.put_all.Goals as goal

pub loop-part-init : goal.loop-part-init
loop-part-init g c = put_start (g.P.Part.form 0) c.args.parts.now c.args.w.now

pub loop-part-preserved : goal.loop-part-preserved
loop-part-preserved g c =
    put_more (g.P.Part.form 0) c.args.parts.now c.loop-part.invariant c.part-item.is c.loop-part-test.true c.put.ensures

pub returns : goal.returns
returns g c = put_done (g.P.Part.form 0) c.args.parts.now c.loop-part.invariant c.loop-part-test.false
