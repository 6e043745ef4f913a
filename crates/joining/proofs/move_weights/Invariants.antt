-- The places passed hold their weights (`Moving`).
use Rattle.joining.proofs.Moving.{weights_in, Moving}
use Rattle.joining.proofs.move_weights.Given as goal

abbrev pub invariant-loop-p : goal.invariant-loop-p
invariant-loop-p l = Moving (weights_in l.from l.first l.step) l.sources l.slot l.step l.initial.to l.p l.to
