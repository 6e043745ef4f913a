-- The lines are written one after another.
use Rattle.std.proofs.Common.{length, get_or}
use Rattle.text.proofs.Writing.{WritesFirst}
use Rattle.net.specs.Net.{starts}
use Rattle.net_card.proofs.Read.{start_line}
use Rattle.net_card.proofs.put_start.Given as goal

abbrev pub invariant-loop-tokens : goal.invariant-loop-tokens
invariant-loop-tokens l =
    WritesFirst ((starts (length l.start)).text l.start) (λ k. start_line.text (get_or l.start k 0)) (length l.start) l.initial.w l.tokens-index l.w
