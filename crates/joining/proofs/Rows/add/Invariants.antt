-- The transitions passed stand in the arrays (`Adding`).
use Rattle.joining.proofs.Adding.{Adding}
use Rattle.joining.proofs.Rows.add.Given as goal

abbrev pub invariant-loop-t : goal.invariant-loop-t
invariant-loop-t l = Adding l.net l.sources l.behind l.initial.self l.self l.t
