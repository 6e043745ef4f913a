-- How long a ranking's text is and which places its refusals have, for a caller that is told both in one number; and all that demand 1 asks of its replies.
use Rattle.std.specs.Prelude.{Err}
use Prim.Native.Nat.{ℕ, ◌≤◌}
use native.Mathlib.Omega.{arith}
use mathlib.Core.Path.{◌≡◌, refl, ap}
use mathlib.Core.List.{List}
use lib.ListN.{length}
use Rattle.reply.specs.declared.Refusal.{Refusal}
use Rattle.reply.specs.declared.Refusal.TheVariants.{OutputTooShort}
use Rattle.reply.specs.Refusal.{number_of, position_of}
use Rattle.reply.specs.Respond.{answer, refusal, Passed}
use Rattle.reply.proofs.Bounds.{Bounds}
use Rattle.reply.proofs.Laws.{demanded}
use Rattle.net.specs.declared.Net.{Net}
use Rattle.run.specs.declared.Run.{Run}
use Rattle.firing.specs.Semantics.{arcs_of, rule_of}
use Rattle.firing.proofs.Places.{replay_place}
use Rattle.cards.specs.Cards.{two_runs, two_runs_checked}
use Rattle.cards.proofs.Places.{two_runs_placed}
use Rattle.cards.proofs.TwoRuns.{two_runs_was}
use Rattle.operations.proofs.Lengths.{once_read_lem}
use Rattle.operations.proofs.Places.{Place, once_refused, line_place}
use Rattle.operations.specs.Replay.{replayed}
use Rattle.ranking.specs.Ranking.{rank_of, printed, rank_cards}
use Rattle.ranking.specs.Request.{RankReplies}
use Rattle.ranking.proofs.Compared.{few_firings, rankable_exactly, printed_rankable, printed_refused, ready, refused_cases}
use Rattle.ranking.proofs.Crossing.{lead_small}
use Rattle.ranking.proofs.Printing.{ranked_short}

-- a refusal with a small place, and not 9
abbrev Own : Refusal → Type 0
Own r = (position_of r ≤ 147) × (r ≡ OutputTooShort → ⊥)

placed_own : {r : Refusal} → Place r → Own r
placed_own h = (h.1, λ e. omega (arith, h.0, ap position_of e))

module _ (net : Net) (x y : Run) (p : two_runs_checked net x y ≡ Passed) where
  text_short : (text : List ℕ) → printed (rank_of net x y) ≡ answer text → length text ≤ 32
  text_short text e =
      let rankable = (rankable_exactly net x y).1 (printed_rankable net x y e) in
      let (a, b, small) = lead_small x y (ready net x y p rankable) in
      ranked_short a b small.1 small.2 text (rw small.0 (rw rankable at e))

  replay_own : (run : Run) → run.count ≤ 64 → {r : Refusal} → replayed net run ≡ Err r → Own r
  replay_own run few {r} e =
      let h = replay_place net (rule_of (arcs_of net) run.memory) run r e in
      placed_own (h.0, omega (arith, h.1))

  rank_own : {r : Refusal} → printed (rank_of net x y) ≡ refusal r → Own r
  rank_own {r} e =
      refused_cases net x y (replay_own x (few_firings net x y p).0) (λ q. replay_own y (few_firings net x y p).1)
      (λ q s o k. (omega (arith, ap position_of k), λ z. omega (arith, ap number_of k, ap number_of z))) (printed_refused net x y e)

module _ (s : List ℕ) where
  cards_own : (r : Refusal) → rank_cards s ≡ refusal r → Own r
  cards_own r =
      once_refused (two_runs s) _ (λ e. placed_own (line_place (two_runs_placed s e)))
      (λ v next e q. rank_own v.0 v.1.0 v.1.1 (two_runs_was s e).passed q)

  pub rank_short : (text : List ℕ) → rank_cards s ≡ answer text → length text ≤ 32
  rank_short text = once_read_lem (two_runs s) _ (λ v next e q. text_short v.0 v.1.0 v.1.1 (two_runs_was s e).passed text q)

  pub rank_bounds : Bounds (rank_cards s) 32 147
  rank_bounds = record { short = rank_short; placed = λ r e. (cards_own r e).0 }

pub rank_replies : RankReplies
rank_replies s = demanded (rank_cards s) (λ e. (cards_own s OutputTooShort e).1 refl)
