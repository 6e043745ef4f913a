-- The places passed have left their marks (`Marked`).
use Rattle.steps.specs.Firing.{arcs}
use Rattle.steps.proofs.Restarts.{Marked}
use Rattle.steps.proofs.Fire.short_marks.Given as goal

abbrev pub invariant-loop-p : goal.invariant-loop-p
invariant-loop-p l = Marked (arcs l.self) l.looked l.self.t l.p l.marks
