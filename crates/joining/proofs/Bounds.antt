-- How long the answer of joining can be, and which places its refusals have, for a caller that is told both in one number.
use Prim.Native.Nat.{ℕ, ◌≤◌}
use native.Mathlib.Omega.{arith}
use mathlib.Core.Path.{◌≡◌}
use mathlib.Core.List.{List}
use lib.ListN.{length}
use Rattle.reply.specs.Respond.{answer}
use Rattle.reply.proofs.Bounds.{Bounds}
use Rattle.reply.proofs.Laws.{written_answer}
use Rattle.net.specs.Net.{net_card}
use Rattle.net.proofs.Short.{net_short}
use Rattle.operations.proofs.Lengths.{once_read_lem}
use Rattle.joining.specs.Joining.{pairs_of, joined_net, join_checked, nets_and_pairs, join_cards}
use Rattle.joining.proofs.Joins.{joined_passed}
use Rattle.joining.proofs.Inputs.{join_was, join_own}

-- the answer is the card of a net that passes its check too
module _ (s : List ℕ) where
  -- a buffer of 5,632 bytes holds it
  pub join_short : (text : List ℕ) → join_cards s ≡ answer text → length text ≤ 5632
  join_short text =
      once_read_lem (nets_and_pairs s) _ (λ v next e q.
      let (a, (b, list)) = v in
      let w = join_was s e in
      let j = joined_net a b (pairs_of list) in
      let (passed, same) = written_answer (join_checked a b list) (net_card.text j) q in
      rw (← same) (omega (arith, net_short j (joined_passed a b list w.first w.second passed))))

  pub join_bounds : Bounds (join_cards s) 5632 147
  join_bounds = record { short = join_short; placed = λ r e. (join_own s r e).0 }
