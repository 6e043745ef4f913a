-- The numbers are written one after another, each with what stands behind it.
use Rattle.text.proofs.Writing.{first_none, first_more, first_all}
use Rattle.form.proofs.Items.{items_joined}
use Rattle.form.proofs.put_items.Goals as goal

pub loop-i-init : goal.loop-i-init
loop-i-init c = first_none c.args.w.now (items_joined c.args.items.now)

pub loop-i-preserved : goal.loop-i-preserved
loop-i-preserved c = first_more c.loop-i.invariant c.loop-i-test.true c.put_field.ensures

pub returns : goal.returns
returns c = first_all c.loop-i.invariant c.loop-i-test.false
