-- What has been put and the digits of what is left are together those of n.
use Rattle.text.proofs.WriteNumber.{WritesDigits}
use Rattle.text.proofs.Writer.put_digits.Given as goal

abbrev pub invariant-loop-k : goal.invariant-loop-k
invariant-loop-k l = WritesDigits l.n l.initial.self l.self l.left l.k
