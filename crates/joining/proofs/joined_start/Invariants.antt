-- The places passed hold their tokens (`Starting`).
use Rattle.joining.proofs.Moving.{Starting}
use Rattle.joining.proofs.joined_start.Given as goal

abbrev pub invariant-loop-p : goal.invariant-loop-p
invariant-loop-p l = Starting l.other l.at l.joined l.p
