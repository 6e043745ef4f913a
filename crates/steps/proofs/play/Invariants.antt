-- The firings that are left come to what the whole run comes to (`Playing`).
use Rattle.steps.proofs.Playing.{Playing}
use Rattle.steps.proofs.play.Given as goal

abbrev pub invariant-loop-i : goal.invariant-loop-i
invariant-loop-i l = Playing l.fn.net l.fn.run l.state l.i
