-- Every power up to k is in the number, or k is 0; so the first that is not has as many zeros as the number has digits.
use Rattle.std.proofs.Common.{◌≡◌, ◌≤◌, ◌^◌, ◌⊎◌}
use Rattle.text.proofs.highest.Given as goal

abbrev pub invariant-loop-k : goal.invariant-loop-k
invariant-loop-k l = (l.k ≡ 0) ⊎ (10 ^ l.k ≤ l.n)
