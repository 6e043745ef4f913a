-- The slots passed hold their weights (`Filling`).
use Rattle.std.proofs.Common.{refl, get_or, ◌+◌, ◌*◌}
use Rattle.std.specs.Prelude.{replicate}
use Rattle.laws.specs.Arrays.{fill_start, fill_store, fill_done}
use Rattle.net_card.proofs.row_of.Goals as goal

pub loop-p-init : goal.loop-p-init
loop-p-init c = fill_start (λ k. get_or c.args.table.now (c.args.from.first + c.args.from.step * k) 0) 16 (replicate 16 0)

pub loop-p-preserved : goal.loop-p-preserved
loop-p-preserved c = fill_store c.loop-p.invariant c.loop-p-test.true refl

pub returns : goal.returns
returns c = fill_done c.loop-p.invariant c.loop-p-test.false
