-- The slots passed hold their weights (`Filling`).
use Rattle.std.proofs.Common.{◌+◌, ◌*◌, get_or}
use Rattle.std.specs.Prelude.{replicate}
use Rattle.laws.specs.Arrays.{Filling}
use Rattle.net_card.proofs.row_of.Given as goal

abbrev pub invariant-loop-p : goal.invariant-loop-p
invariant-loop-p l = Filling (λ k. get_or l.table (l.from.first + l.from.step * k) 0) 16 (replicate 16 0) l.p l.weight-items
