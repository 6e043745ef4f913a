-- What a ranking says of the checks in front of it: two runs are ranked exactly if all of them pass, and then by their lead.
use Rattle.std.specs.Prelude.{Err}
use Prim.Native.Nat.{ℕ, ◌≤◌}
use native.Mathlib.Omega.{arith}
use mathlib.Core.Path.{◌≡◌, refl, sym, ◌∙◌, ap}
use mathlib.Core.Bool.{Bool, true, false, cond}
use mathlib.Core.Logic.{◌↔◌}
use mathlib.Core.List.{List}
use lib.IntN.{ℤ}
use Rattle.reply.specs.declared.Refusal.{Refusal}
use Rattle.reply.specs.declared.Refusal.TheVariants.{OtherOrder}
use Rattle.reply.specs.Respond.{answer, refusal, Checked, Passed}
use Rattle.form.specs.Form.{also}
use Rattle.form.proofs.Found.{also_first, also_second, test_passed}
use Rattle.net.specs.declared.Net.{Net}
use Rattle.net.specs.Net.{net_card}
use Rattle.run.specs.declared.Run.{Run}
use Rattle.run.specs.Run.{run_card}
use Rattle.run.proofs.Firings.{length_firings}
use Rattle.cards.specs.Cards.{card_of, run_checked, two_runs_checked}
use Rattle.cards.proofs.Cards.{run_counts}
use Rattle.operations.proofs.Answers.{no_answer}
use Rattle.operations.specs.Replay.{replayed}
use Rattle.ranking.specs.Lead.{of_one_order, lead_of, sign_of}
use Rattle.ranking.specs.Claims.{OfOneOrder}
use Rattle.ranking.specs.declared.Ranking.{Ranking}
use Rattle.ranking.specs.Ranking.{Told, Ranked, rankable, ranked_if, rank_of, rank_values, printed}
use Rattle.ranking.proofs.Leads.{of_one_order_exactly}
use Rattle.ranking.proofs.Ranks.{one_length}

-- ---- the checks of two runs are those of each
module _ (net : Net) (x y : Run) where
  pub each_passed : two_runs_checked net x y ≡ Passed → (run_checked net x ≡ Passed) × (run_checked net y ≡ Passed)
  each_passed p =
      let card = card_of run_card net in
      let runs = also_second (net_card.check net 1) (also (card.check x 1) (card.check y 1)) p in
      let n = also_first (net_card.check net 1) (also (card.check x 1) (card.check y 1)) p in
      (rw n (also_first (card.check x 1) (card.check y 1) runs), rw n (also_second (card.check x 1) (card.check y 1) runs))

  pub both_passed : run_checked net x ≡ Passed → run_checked net y ≡ Passed → two_runs_checked net x y ≡ Passed
  both_passed p q =
      let card = card_of run_card net in
      rw (
        also_first (net_card.check net 1) (card.check x 1) p,
        also_second (net_card.check net 1) (card.check x 1) p,
      ) (also_second (net_card.check net 1) (card.check y 1) q)

  pub few_firings : two_runs_checked net x y ≡ Passed → (x.count ≤ 64) × (y.count ≤ 64)
  few_firings p = let (a, b) = each_passed p in ((run_counts net x a).2, (run_counts net y b).2)

-- ---- rankings
-- a ranking behind a check
ranked_passed : (c : Checked) (r : Told) (rank lead : ℤ) → ranked_if c r ≡ Ranked rank lead → (c ≡ Passed) × (r ≡ Ranked rank lead)
ranked_passed Passed r rank lead e = (refl, e)
ranked_passed (Err q) r rank lead e = let z : ◌≡◌ {A = ℕ} 0 1 = cc in absurd (omega arith)

ranked_refused : (c : Checked) (rank lead : ℤ) {e : Refusal} → ranked_if c (Ranked rank lead) ≡ Err e → c ≡ Err e
ranked_refused Passed rank lead h = let z : ◌≡◌ {A = ℕ} 0 1 = cc in absurd (omega arith)
ranked_refused (Err q) rank lead h = cc

-- a ranking that counts once a check is passed: what refuses is the check, or the ranking behind it
pub ranked_told : {P : Type 0} {e : Refusal} (c : Checked) (r : Told) → (c ≡ Err e → P) → (c ≡ Passed → r ≡ Err e → P)
    → ranked_if c r ≡ Err e → P
ranked_told Passed r first then h = then refl h
ranked_told (Err q) r first then h = first cc

-- and printed
printed_passed : (c : Checked) (r : Told) {text : List ℕ} → printed (ranked_if c r) ≡ answer text → c ≡ Passed
printed_passed Passed r e = refl
printed_passed (Err q) r e = absurd (no_answer e)

printed_not : (c : Checked) (rank lead : ℤ) {e : Refusal} → printed (ranked_if c (Ranked rank lead)) ≡ refusal e → c ≡ Err e
printed_not Passed rank lead h = absurd (no_answer (sym h))
printed_not (Err q) rank lead h = cc

module _ (net : Net) (x y : Run) where
  -- X's replay is told first, then Y's
  pub first_refuses : {e : Refusal} → replayed net x ≡ Err e → rankable net x y ≡ Err e
  first_refuses p = rw p refl

  pub second_refuses : {e : Refusal} → replayed net x ≡ Passed → replayed net y ≡ Err e → rankable net x y ≡ Err e
  second_refuses p q = rw (p, q) refl

  -- the last of the checks
  abbrev order_checked : Checked
  order_checked = cond (of_one_order x y) Passed (Err OtherOrder)

  -- two runs that can be ranked
  pub record Rankable : Type 0 where
    pub first : replayed net x ≡ Passed
    pub second : replayed net y ≡ Passed
    pub one_order : OfOneOrder x y

  pub rankable_exactly : (rankable net x y ≡ Passed) ↔ Rankable
  rankable_exactly = (
    λ e.
        let behind = also_second (replayed net x) (also (replayed net y) order_checked) e in
        record {
          first = also_first (replayed net x) (also (replayed net y) order_checked) e;
          second = also_first (replayed net y) order_checked behind;
          one_order = (of_one_order_exactly x y).0 (test_passed (of_one_order x y) OtherOrder (also_second (replayed net y) order_checked behind));
        },
    λ h. rw (h.first, h.second, (of_one_order_exactly x y).1 h.one_order) refl,
  )

  pub printed_rankable : {text : List ℕ} → printed (rank_of net x y) ≡ answer text → Rankable
  printed_rankable e = rankable_exactly.0 (printed_passed (rankable net x y) _ e)

  pub printed_refused : {e : Refusal} → printed (rank_of net x y) ≡ refusal e → rankable net x y ≡ Err e
  printed_refused h = printed_not (rankable net x y) (sign_of (lead_of x y)) (lead_of x y) h

  -- they are ranked, and by their lead
  pub record Compared (rank lead : ℤ) : Type 0 where
    pub passed : two_runs_checked net x y ≡ Passed
    pub rankable : Rankable
    pub by_sign : sign_of (lead_of x y) ≡ rank
    pub by_lead : lead_of x y ≡ lead

  pub compared : {rank lead : ℤ} → rank_values net x y ≡ Ranked rank lead → Compared rank lead
  compared {rank} {lead} e =
      let (passed, ranked) = ranked_passed (two_runs_checked net x y) (rank_of net x y) rank lead e in
      let (comparable, here) = ranked_passed (rankable net x y) (Ranked (sign_of (lead_of x y)) (lead_of x y)) rank lead ranked in
      let same : ◌≡◌ {A = Ranking} (record { rank = sign_of (lead_of x y); lead = lead_of x y }) (record { rank = rank; lead = lead }) = cc in
      record {
        passed = passed;
        rankable = rankable_exactly.0 comparable;
        by_sign = ap (λ (r : Ranking). r.rank) same;
        by_lead = ap (λ (r : Ranking). r.lead) same;
      }

  pub ranks : two_runs_checked net x y ≡ Passed → Rankable → rank_values net x y ≡ Ranked (sign_of (lead_of x y)) (lead_of x y)
  ranks p h = rw (p, rankable_exactly.1 h) refl

  -- what the instants that decide are found from
  pub ready : two_runs_checked net x y ≡ Passed → rankable net x y ≡ Passed
      → ((s : ℕ) × (n : ℕ) × ((run_card s n).check x 1 ≡ Passed)) × ((s : ℕ) × (n : ℕ) × ((run_card s n).check y 1 ≡ Passed)) × (x.count ≡ y.count)
  ready p q =
      let (a, b) = each_passed net x y p in
      let (few, brief) = few_firings net x y p in
      let card = card_of run_card net in
      let long = one_length x y (rankable_exactly.0 q).one_order in (
        (net.sheet, net.transitions, also_second (net_card.check net 1) (card.check x 1) a),
        (net.sheet, net.transitions, also_second (net_card.check net 1) (card.check y 1) b),
        omega (arith, long, length_firings x, length_firings y),
      )

  -- a refusal of values that pass their checks is one of these
  pub value_refused : two_runs_checked net x y ≡ Passed → {e : Refusal} → rank_values net x y ≡ Err e → rankable net x y ≡ Err e
  value_refused p h = ranked_refused (rankable net x y) (sign_of (lead_of x y)) (lead_of x y) (rw p at h)

  -- 10 is for runs that are both accepted and not of one order
  pub other_order : replayed net x ≡ Passed → replayed net y ≡ Passed → (OfOneOrder x y → ⊥) → rankable net x y ≡ Err OtherOrder
  other_order p q other = go (of_one_order x y) refl
    where
      go : (t : Bool) → of_one_order x y ≡ t → rankable net x y ≡ Err OtherOrder
      go true s = absurd (other ((of_one_order_exactly x y).0 s))
      go false s = rw (p, q, s) refl

  -- a refusal of the checks is X's replay's, or Y's behind X's, or 10 behind both
  pub refused_cases : {P : Type 0} {e : Refusal} → (replayed net x ≡ Err e → P)
      → (replayed net x ≡ Passed → replayed net y ≡ Err e → P)
      → (replayed net x ≡ Passed → replayed net y ≡ Passed → (OfOneOrder x y → ⊥) → e ≡ OtherOrder → P)
      → rankable net x y ≡ Err e → P
  refused_cases {P} {e} one two ten = go (replayed net x) (replayed net y) (of_one_order x y) refl refl refl
    where
      go : (a b : Checked) (t : Bool) → replayed net x ≡ a → replayed net y ≡ b → of_one_order x y ≡ t
          → also a (also b (cond t Passed (Err OtherOrder))) ≡ Err e
          → P
      go (Err q) b t p r s h = one (p ∙ h)
      go Passed (Err q) t p r s h = two p (r ∙ h)
      go Passed Passed true p r s h = let z : ◌≡◌ {A = ℕ} 0 1 = cc in absurd (omega arith)
      go Passed Passed false p r s h =
          ten p r (λ o. let k : true ≡ false = sym ((of_one_order_exactly x y).1 o) ∙ s in let z : ◌≡◌ {A = ℕ} 0 1 = cc in omega arith) (cc)
