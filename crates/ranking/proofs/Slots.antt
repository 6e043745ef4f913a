-- Slots past the counts are no part of a run: nets and runs that agree in all that counts are ranked alike.
use Rattle.reply.specs.Respond.{Checked, Passed}
use Rattle.std.specs.Prelude.{Err}
use Prim.Native.Nat.{ℕ, zero, suc, ◌+◌, ◌*◌}
use mathlib.Core.Path.{◌≡◌, refl, ap, ◌∙◌}
use mathlib.Core.Bool.{Bool, cond, ◌&&◌}
use mathlib.Core.List.{List}
use lib.ListN.{length}
use lib.Dec.{ltb}
use lib.IntN.{ℤ, pos, ◌-ℤ◌}
use Rattle.laws.specs.Tests.{same_numbers}
use Rattle.reply.specs.declared.Refusal.TheVariants.{OtherOrder}
use Rattle.form.specs.Form.{also, Form}
use Rattle.net.specs.declared.Net.{Net}
use Rattle.net.specs.Net.{net_card}
use Rattle.net.specs.Same.{SameNet}
use Rattle.net.proofs.Same.{same_net_check}
use Rattle.run.specs.declared.Memory.{Memory}
use Rattle.run.specs.declared.Firing.{Firing}
use Rattle.run.specs.declared.Run.{Run}
use Rattle.run.specs.Run.{run_card, memory_text, firings_of, order_of, waits_of}
use Rattle.run.specs.Same.{SameRun}
use Rattle.run.proofs.Same.{same_firings, same_run_check}
use Rattle.firing.specs.declared.Played.{Played}
use Rattle.timing.specs.Windows.{instants}
use Rattle.timing.specs.Rounding.{last_instant, end_instant}
use Rattle.cards.specs.Cards.{card_of, two_runs_checked}
use Rattle.cards.proofs.Cards.{same_card}
use Rattle.operations.proofs.Same.{replays_same}
use Rattle.operations.specs.Replay.{replayed}
use Rattle.ranking.specs.Lead.{of_one_order, instant_of, lead_at, unless_level, lead_from, lead_of, sign_of}
use Rattle.ranking.specs.Ranking.{Ranked, rankable, ranked_if, rank_of, rank_values}

-- each instant
same_instant : {r q : Run} → SameRun r q → (i : ℕ) → instant_of r i ≡ instant_of q i
unfolding instant_of end_instant last_instant
same_instant {r} {q} t i =
    let at : List Firing → ℕ → ℕ =
    λ fs rest. cond (ltb i (length fs)) (instants (waits_of fs) (suc i)) (instants (waits_of fs) (length fs) + rest) in
    ap (λ (fs : List Firing). at fs r.rest) (same_firings t) ∙ ap (at (firings_of q)) t.rest

module _ {x y p q : Run} (s : SameRun x p) (t : SameRun y q) where
  -- each lead, and the first that is not 0
  same_lead_at : (i : ℕ) → lead_at x y i ≡ lead_at p q i
  unfolding lead_at
  same_lead_at i =
      let of : ℕ → ℕ → ℕ → ℕ → ℤ = λ a d b e. pos (a * e) -ℤ pos (b * d) in
      ap (λ (a : ℕ). of a x.denominator (instant_of y i) y.denominator) (same_instant s i)
      ∙ ap (λ (d : ℕ). of (instant_of p i) d (instant_of y i) y.denominator) s.denominator
      ∙ ap (λ (b : ℕ). of (instant_of p i) p.denominator b y.denominator) (same_instant t i)
      ∙ ap (of (instant_of p i) p.denominator (instant_of q i)) t.denominator

  same_lead_from : (i n : ℕ) → lead_from x y i n ≡ lead_from p q i n
  unfolding lead_from
  same_lead_from i zero = refl
  same_lead_from i (suc n) =
      ap (λ (z : ℤ). unless_level z (lead_from x y (suc i) n)) (same_lead_at i) ∙ ap (unless_level (lead_at p q i)) (same_lead_from (suc i) n)

  same_lead : lead_of x y ≡ lead_of p q
  unfolding lead_of
  same_lead =
      same_lead_from 0 (suc (length (firings_of x))) ∙ ap (λ (fs : List Firing). lead_from p q 0 (suc (length fs))) (same_firings s)

  -- whether they are of one order
  same_test : of_one_order x y ≡ of_one_order p q
  same_test =
      let of : Memory → Memory → List Firing → List Firing → Bool =
      λ m k fs gs. same_numbers (memory_text m) (memory_text k) && same_numbers (order_of fs) (order_of gs) in
      ap (λ (m : Memory). of m y.memory (firings_of x) (firings_of y)) s.memory
      ∙ ap (λ (k : Memory). of p.memory k (firings_of x) (firings_of y)) t.memory
      ∙ ap (λ (fs : List Firing). of p.memory q.memory fs (firings_of y)) (same_firings s)
      ∙ ap (of p.memory q.memory (firings_of p)) (same_firings t)

module _ {a b : Net} (n : SameNet a b) {x y p q : Run} (s : SameRun x p) (t : SameRun y q) where
  same_checked : two_runs_checked a x y ≡ two_runs_checked b p q
  same_checked =
      ap (λ (c : Checked). also c (also ((card_of run_card a).check x 1) ((card_of run_card a).check y 1))) (same_net_check n 1)
      ∙ ap (λ (f : Form Run). also (net_card.check b 1) (also (f.check x 1) (f.check y 1))) (same_card run_card n)
      ∙ ap (λ (c : Checked). also (net_card.check b 1) (also c ((card_of run_card b).check y 1))) (same_run_check b.sheet b.transitions s 1)
      ∙ ap (λ (c : Checked). also (net_card.check b 1) (also ((card_of run_card b).check p 1) c)) (same_run_check b.sheet b.transitions t 1)

  same_replayed : {u v : Run} → SameRun u v → replayed a u ≡ replayed b v
  same_replayed w = ap (λ (d : Played). d.checked) (replays_same n w)

  same_rankable : rankable a x y ≡ rankable b p q
  same_rankable =
      let of : Checked → Checked → Bool → Checked = λ c d k. also c (also d (cond k Passed (Err OtherOrder))) in
      ap (λ (c : Checked). of c (replayed a y) (of_one_order x y)) (same_replayed s)
      ∙ ap (λ (d : Checked). of (replayed b p) d (of_one_order x y)) (same_replayed t)
      ∙ ap (of (replayed b p) (replayed b q)) (same_test s t)

  pub same_rank_of : rank_of a x y ≡ rank_of b p q
  same_rank_of =
      ap (λ (c : Checked). ranked_if c (Ranked (sign_of (lead_of x y)) (lead_of x y))) same_rankable
      ∙ ap (λ (z : ℤ). ranked_if (rankable b p q) (Ranked (sign_of z) z)) (same_lead s t)

  pub same_rank_values : rank_values a x y ≡ rank_values b p q
  same_rank_values = ap (λ (c : Checked). ranked_if c (rank_of a x y)) same_checked ∙ ap (ranked_if (two_runs_checked b p q)) same_rank_of
