-- The lines are written one after another.
use Rattle.std.proofs.Common.{length}
use Rattle.text.proofs.Writing.{first_none, first_more, first_all}
use Rattle.net_card.proofs.Write.{starts_joined}
use Rattle.net_card.proofs.put_start.Goals as goal

pub loop-tokens-init : goal.loop-tokens-init
loop-tokens-init c = let start = c.args.start.now in first_none c.args.w.now (starts_joined (length start) start c.requires)

pub loop-tokens-preserved : goal.loop-tokens-preserved
loop-tokens-preserved c = first_more c.loop-tokens.invariant c.loop-tokens-test.true c.put_number_line.ensures

pub returns : goal.returns
returns c = first_all c.loop-tokens.invariant c.loop-tokens-test.false
