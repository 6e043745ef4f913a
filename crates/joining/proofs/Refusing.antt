-- Which lists are refused, and how: each test is what the request says of the numbers, and the tests come in its order.
use Rattle.std.specs.Prelude.{Err}
use Prim.Native.Nat.{ℕ, ◌+◌, ◌/◌, ◌%◌, ◌<◌}
use native.Mathlib.Omega.{arith}
use mathlib.Core.Path.{◌≡◌, refl, sym, ap, ◌∙◌}
use mathlib.Core.Bool.{Bool, true, false, false≢true, cond, ◌&&◌, and-eq-true_iff}
use mathlib.Core.Logic.{◌↔◌}
use mathlib.Core.List.{List, map}
use lib.ListN.{length, get_or, length-map}
use lib.Dec.{leb, eqb}
use borrow.Author.Tests.{eqb-false, eq-eqb, leb-true, le-leb}
use Rattle.reply.specs.declared.Refusal.{Refusal}
use Rattle.reply.specs.declared.Refusal.TheVariants.{BadPairs, UnequalStarts, TooLarge}
use Rattle.reply.specs.Refusal.{number_of}
use Rattle.reply.specs.Respond.{Outcome, refusal, Answered, written_if, Passed}
use Rattle.form.specs.Form.{also}
use Rattle.net.specs.declared.Net.{Net}
use Rattle.net.specs.Net.{net_card}
use Rattle.operations.proofs.Answers.{no_answer}
use Rattle.joining.specs.Joining.{pairs_of, firsts, seconds, distinct_places, equal_starts, joined_net}
use Rattle.joining.specs.Claims.{first_at, second_at, Paired, EqualStarts, Fits}
use Rattle.joining.specs.Request.{RefusedInOrder}
use Rattle.joining.proofs.Pairing.{length_pairs}
use Rattle.joining.proofs.Counting.{pairs_test, distinct_exactly, pairs_passed, unpaired_count, first_number, second_number, side_at, starts_exactly}

-- ---- the tests
-- the places of one side
module _ (list : List ℕ) (n : ℕ) (f : ℕ × ℕ → ℕ) (number : ℕ → ℕ)
    (same : (i : ℕ) → i < length (pairs_of list) → number i ≡ f (get_or (pairs_of list) i (0, 0))) where
  abbrev ps : List ℕ
  ps = map f (pairs_of list)

  long : length ps ≡ length list / 2
  long = length-map (pairs_of list) f ∙ length_pairs list

  there : (i : ℕ) → i < length list / 2 → number i ≡ get_or ps i 0
  there i h = let l : i < length (pairs_of list) = omega (arith, length_pairs list) in same i l ∙ sym (side_at f (pairs_of list) i l)

  side_exactly : (distinct_places n ps ≡ true)
      ↔ (((i : ℕ) → i < length list / 2 → number i < n) × ((i k : ℕ) → i < k → k < length list / 2 → number i ≡ number k → ⊥))
  side_exactly = (
    λ e.
        let d = (distinct_exactly n ps).0 e in (
          λ i h. omega (arith, there i h, d.below i (omega (arith, long))),
          λ i k l h q. d.once i k l (omega (arith, long)) (sym (there i (omega arith)) ∙ q ∙ there k h),
        ),
    λ h.
        (distinct_exactly n ps).1
        (record {
          below = λ i l. let k : i < length list / 2 = omega (arith, long) in omega (arith, there i k, h.0 i k);
          once = λ i k l m q.
              let b : k < length list / 2 = omega (arith, long) in
              h.1 i k l b (there i (omega arith) ∙ q ∙ sym (there k b));
        }),
  )

module _ (places others : ℕ) (list : List ℕ) where
  abbrev vs : List (ℕ × ℕ)
  vs = pairs_of list

  first_side_lem : (distinct_places places (firsts vs) ≡ true)
      ↔ (((i : ℕ) → i < length list / 2 → first_at list i < places)
      × ((i k : ℕ) → i < k → k < length list / 2 → first_at list i ≡ first_at list k → ⊥))
  first_side_lem = side_exactly list places (λ (v : ℕ × ℕ). v.0) (first_at list) (first_number list)

  second_side_lem : (distinct_places others (seconds vs) ≡ true)
      ↔ (((i : ℕ) → i < length list / 2 → second_at list i < others)
      × ((i k : ℕ) → i < k → k < length list / 2 → second_at list i ≡ second_at list k → ⊥))
  second_side_lem = side_exactly list others (λ (v : ℕ × ℕ). v.1) (second_at list) (second_number list)

  pub paired_exactly : (pairs_test places others list ≡ true) ↔ Paired places others list
  paired_exactly = (
    λ e.
        let h = pairs_passed places others list (rw e refl) in
        let one = first_side_lem.0 h.1 in
        let other = second_side_lem.0 h.2 in
        record {
          count = length list / 2;
          even = omega (arith, h.0);
          first_named = one.0;
          second_named = other.0;
          first_once = one.1;
          second_once = other.1;
        },
    λ p.
        let half : length list / 2 ≡ p.count = omega (arith, p.even) in
        let one = first_side_lem.1 (λ i h. p.first_named i (omega arith), λ i k l h. p.first_once i k l (omega arith)) in
        let other = second_side_lem.1 (λ i h. p.second_named i (omega arith), λ i k l h. p.second_once i k l (omega arith)) in
        rw (eq-eqb (length list % 2) 0 (omega (arith, p.even)), one, other) refl,
  )

module _ (a b : Net) (list : List ℕ) where
  -- the starts
  pub equal_exactly : (equal_starts a.start b.start (pairs_of list) ≡ true) ↔ EqualStarts a b list
  equal_exactly =
      let s = starts_exactly a.start b.start (pairs_of list) in (
        λ e i h.
            let l : i < length (pairs_of list) = omega (arith, length_pairs list) in
            rw (first_number list i l, second_number list i l) (s.0 e i l),
        λ h.
            s.1 (λ i l.
            let e = h i (omega (arith, length_pairs list)) in
            rw (first_number list i l, second_number list i l) at e),
      )

  -- the sizes
  abbrev size_test : Bool
  size_test = leb (joined_net a b (pairs_of list)).places 16 && leb (joined_net a b (pairs_of list)).transitions 32

  pub fits_exactly : Paired a.places b.places list → (size_test ≡ true) ↔ Fits a b list
  fits_exactly p =
      let j = joined_net a b (pairs_of list) in
      let passed = pairs_passed a.places b.places list (rw ((paired_exactly a.places b.places list).1 p) refl) in
      let each : j.places + length list / 2 ≡ a.places + b.places =
      omega (arith, unpaired_count b.places (pairs_of list) passed.2, length_pairs list) in (
        λ e.
            let h = (and-eq-true_iff (leb j.places 16) (leb j.transitions 32)).0 e in
            (omega (arith, leb-true j.places 16 h.0), leb-true j.transitions 32 h.1),
        λ h. rw (le-leb j.places 16 (omega (arith, h.0)), le-leb j.transitions 32 h.1) refl,
      )

-- ---- in this order
apart : {P : Type 0} (r q : Refusal) → eqb (number_of r) (number_of q) ≡ false → refusal r ≡ refusal q → P
apart r q n e = let same : r ≡ q = cc in absurd (eqb-false (number_of r) (number_of q) n (ap number_of same))

abbrev outcome : Bool → Bool → Bool → List ℕ → Outcome
outcome x y z text =
    written_if (also (cond x Passed (Err BadPairs)) (also (cond y Passed (Err UnequalStarts)) (cond z Passed (Err TooLarge)))) text

in_order : {X Y Z : Type 0} (text : List ℕ) (x y z : Bool) → (x ≡ true) ↔ X → (y ≡ true) ↔ Y → (X → (z ≡ true) ↔ Z)
    → ((outcome x y z text ≡ refusal BadPairs) ↔ (X → ⊥))
    × ((outcome x y z text ≡ refusal UnequalStarts) ↔ (X × (Y → ⊥)))
    × ((outcome x y z text ≡ refusal TooLarge) ↔ (X × Y × (Z → ⊥)))
    × (Answered (outcome x y z text) ↔ (X × Y × Z))
in_order text false y z f g h = (
  (λ e p. false≢true (f.1 p), λ n. refl),
  (λ e. apart BadPairs UnequalStarts refl e, λ n. absurd (false≢true (f.1 n.0))),
  (λ e. apart BadPairs TooLarge refl e, λ n. absurd (false≢true (f.1 n.0))),
  (λ e. absurd (no_answer e.1), λ n. absurd (false≢true (f.1 n.0))),
)
in_order text true false z f g h = (
  (λ e. apart UnequalStarts BadPairs refl e, λ n. absurd (n (f.0 refl))),
  (λ e. (f.0 refl, λ p. false≢true (g.1 p)), λ n. refl),
  (λ e. apart UnequalStarts TooLarge refl e, λ n. absurd (false≢true (g.1 n.1))),
  (λ e. absurd (no_answer e.1), λ n. absurd (false≢true (g.1 n.1))),
)
in_order text true true false f g h = (
  (λ e. apart TooLarge BadPairs refl e, λ n. absurd (n (f.0 refl))),
  (λ e. apart TooLarge UnequalStarts refl e, λ n. absurd (n.1 (g.0 refl))),
  (λ e. (f.0 refl, g.0 refl, λ p. false≢true ((h (f.0 refl)).1 p)), λ n. refl),
  (λ e. absurd (no_answer e.1), λ n. absurd (false≢true ((h n.0).1 n.2))),
)
in_order text true true true f g h = (
  (λ e. absurd (no_answer (sym e)), λ n. absurd (n (f.0 refl))),
  (λ e. absurd (no_answer (sym e)), λ n. absurd (n.1 (g.0 refl))),
  (λ e. absurd (no_answer (sym e)), λ n. absurd (n.2 ((h (f.0 refl)).0 refl))),
  (λ e. (f.0 refl, g.0 refl, (h (f.0 refl)).0 refl), λ n. (text, refl)),
)

pub refused_in_order : RefusedInOrder
refused_in_order a b list = (
  λ r e. rw e refl,
  λ r e q. rw (e, q) refl,
  λ e q.
      rw (e, q)
      (in_order (net_card.text (joined_net a b (pairs_of list))) (pairs_test a.places b.places list) (equal_starts a.start b.start (pairs_of list))
      (size_test a b list) (paired_exactly a.places b.places list) (equal_exactly a b list) (fits_exactly a b list)),
)
