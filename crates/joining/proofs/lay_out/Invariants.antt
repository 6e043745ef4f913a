-- The places passed that no pair names stand behind those of the first net (`Laying`).
use Rattle.joining.proofs.Layouts.{Laying}
use Rattle.joining.proofs.lay_out.Given as goal

abbrev pub invariant-loop-q : goal.invariant-loop-q
invariant-loop-q l = Laying l.initial.source l.places l.named l.source l.count l.q
