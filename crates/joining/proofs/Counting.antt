-- Places that a list names, each once, and those that it leaves: how many there are, and where each stands among them.
use Rattle.std.specs.Prelude.{Err}
use Prim.Native.Nat.{ℕ, zero, suc, ◌+◌, ◌%◌, ◌≤◌, ◌<◌, suc-le-suc}
use native.Mathlib.Nat.{not-suc-le-zero, le_of_suc-le-suc, eq-or-lt_of_le}
use native.Mathlib.Omega.{arith}
use native.Mathlib.Decide.{dec_lt}
use mathlib.Core.Path.{◌≡◌, refl, sym, ap, ◌∙◌}
use mathlib.Core.Bool.{Bool, true, false, not, cond, ◌&&◌, ◌||◌, and-eq-true_iff, or-true}
use mathlib.Core.Logic.{◌↔◌, ⊎_elim}
use mathlib.Core.List.{List, [], ◌∷◌, ◌++◌, map}
use lib.ListN.{length, get_or, length-map, length-append, get_or-append, get_or-map}
use lib.Seq.{get_or-append_seam}
use lib.Dec.{ltb, eqb}
use borrow.Author.Tests.{eqb-true, eq-eqb, ne_eqb, ltb-true, lt-ltb, not-true}
use Rattle.laws.specs.Each.{Each, each_map, each_zip}
use Rattle.laws.specs.Slots.{get_d_within}
use Rattle.reply.specs.declared.Refusal.TheVariants.{BadPairs}
use Rattle.reply.specs.Respond.{Passed}
use Rattle.form.proofs.Found.{test_passed}
use Rattle.joining.specs.Joining.{pairs_of, firsts, seconds, among, distinct_places, equal_starts, unpaired, pairs_checked}
use Rattle.joining.specs.Claims.{first_at, second_at}
use Rattle.joining.specs.Code.{Named}
use Rattle.joining.proofs.Pairing.{length_pairs, pair_there}

-- ---- numbers of a list
-- one that stands there, by its index
pub record Listed (ps : List ℕ) (p : ℕ) : Type 0 where
  pub index : ℕ
  pub within : index < length ps
  pub here : get_or ps index 0 ≡ p

pub among_exactly : (p : ℕ) (ps : List ℕ) → (among p ps ≡ true) ↔ Listed ps p
unfolding among
among_exactly p ps = (to ps, λ h. back ps h.index h.within h.here)
  where
    to : (ps : List ℕ) → among p ps ≡ true → Listed ps p
    to [] e = let z : ◌≡◌ {A = ℕ} 0 1 = cc in absurd (omega arith)
    to (q ∷ ps) e = go (eqb p q) refl e (to ps)
      where
        go : (t : Bool) → eqb p q ≡ t → (t || among p ps) ≡ true → (among p ps ≡ true → Listed ps p) → Listed (q ∷ ps) p
        go true t e later = record { index = 0; within = omega arith; here = sym (eqb-true p q t) }
        go false t e later = let h = later e in record { index = suc h.index; within = suc-le-suc h.within; here = h.here }

    back : (ps : List ℕ) (i : ℕ) → i < length ps → get_or ps i 0 ≡ p → among p ps ≡ true
    back [] i l e = absurd (not-suc-le-zero l)
    back (q ∷ ps) zero l e = rw (eq-eqb p q (sym e)) refl
    back (q ∷ ps) (suc i) l e = rw (back ps i (le_of_suc-le-suc l) e) (or-true (eqb p q))

-- each names one of n places, and no two the same
pub record Distinct (n : ℕ) (ps : List ℕ) : Type 0 where
  pub below : (i : ℕ) → i < length ps → get_or ps i 0 < n
  pub once : (i k : ℕ) → i < k → k < length ps → get_or ps i 0 ≡ get_or ps k 0 → ⊥

-- the first of such places, and those behind it
pub distinct_next : (n p : ℕ) (ps : List ℕ) → distinct_places n (p ∷ ps) ≡ true → (p < n) × (among p ps ≡ false) × (distinct_places n ps ≡ true)
unfolding distinct_places
distinct_next n p ps e =
    let h = (and-eq-true_iff (ltb p n && not (among p ps)) (distinct_places n ps)).0 e in
    let k = (and-eq-true_iff (ltb p n) (not (among p ps))).0 h.0 in
    (ltb-true p n k.0, not-true (among p ps) k.1, h.1)

-- what is not among others is none of them
pub not_among : (p : ℕ) (ps : List ℕ) → among p ps ≡ false → Listed ps p → ⊥
not_among p ps e h = let e' = (among_exactly p ps).1 h in let z : ◌≡◌ {A = ℕ} 0 1 = cc in omega arith

pub none_among : (p : ℕ) (ps : List ℕ) → (Listed ps p → ⊥) → among p ps ≡ false
none_among p ps n = go (among p ps) refl
  where
    go : (t : Bool) → among p ps ≡ t → t ≡ false
    go true e = absurd (n ((among_exactly p ps).0 e))
    go false e = refl

pub distinct_exactly : (n : ℕ) (ps : List ℕ) → (distinct_places n ps ≡ true) ↔ Distinct n ps
unfolding distinct_places
distinct_exactly n ps = (λ e. record { below = below ps e; once = once ps e }, λ d. back ps d.below d.once)
  where
    below : (ps : List ℕ) → distinct_places n ps ≡ true → (i : ℕ) → i < length ps → get_or ps i 0 < n
    below [] e i l = absurd (not-suc-le-zero l)
    below (p ∷ ps) e zero l = (distinct_next n p ps e).0
    below (p ∷ ps) e (suc i) l = below ps (distinct_next n p ps e).2 i (le_of_suc-le-suc l)

    once : (ps : List ℕ) → distinct_places n ps ≡ true → (i k : ℕ) → i < k → k < length ps → get_or ps i 0 ≡ get_or ps k 0 → ⊥
    once [] e i k h l q = not-suc-le-zero l
    once (p ∷ ps) e i zero h l q = not-suc-le-zero h
    once (p ∷ ps) e zero (suc k) h l q =
        not_among p ps (distinct_next n p ps e).1 (record { index = k; within = le_of_suc-le-suc l; here = sym q })
    once (p ∷ ps) e (suc i) (suc k) h l q = once ps (distinct_next n p ps e).2 i k (le_of_suc-le-suc h) (le_of_suc-le-suc l) q

    back : (ps : List ℕ) → ((i : ℕ) → i < length ps → get_or ps i 0 < n) → ((i k : ℕ) → i < k → k < length ps → get_or ps i 0 ≡ get_or ps k 0 → ⊥)
        → distinct_places n ps ≡ true
    back [] b o = refl
    back (p ∷ ps) b o =
        let other : among p ps ≡ false = none_among p ps (λ h. o 0 (suc h.index) (omega arith) (suc-le-suc h.within) (sym h.here)) in
        rw (lt-ltb p n (b 0 (omega arith)), other)
        (back ps (λ i l. b (suc i) (suc-le-suc l)) (λ i k h l. o (suc i) (suc k) (suc-le-suc h) (suc-le-suc l)))

-- ---- the second net's places that are in no pair
-- one more place
unpaired_next : (vs : List (ℕ × ℕ)) (q : ℕ) → unpaired vs (suc q) ≡ unpaired vs q ++ cond (among q (seconds vs)) [] (q ∷ [])
unfolding unpaired
unpaired_next vs q = refl

module _ (vs : List (ℕ × ℕ)) where
  pub count_more : (q : ℕ) → length (unpaired vs (suc q)) ≡ length (unpaired vs q) + cond (among q (seconds vs)) 0 1
  count_more q = ap length (unpaired_next vs q) ∙ length-append (unpaired vs q) _ ∙ go (among q (seconds vs))
    where
      go : (t : Bool) → length (unpaired vs q) + length (cond t [] (q ∷ [])) ≡ length (unpaired vs q) + cond t 0 1
      go true = refl
      go false = refl

  -- one that is in no pair counts, and one that is in a pair does not
  pub count_one : (q : ℕ) → among q (seconds vs) ≡ false → length (unpaired vs (suc q)) ≡ length (unpaired vs q) + 1
  count_one q e = rw e at (count_more q)

  pub count_none : (q : ℕ) → among q (seconds vs) ≡ true → length (unpaired vs (suc q)) ≡ length (unpaired vs q)
  count_none q e = let h = rw e at (count_more q) in omega arith

  pub count_grows : (q r : ℕ) → q ≤ r → length (unpaired vs q) ≤ length (unpaired vs r)
  count_grows q zero l = let z : q ≡ 0 = omega arith in rw z (omega arith)
  count_grows q (suc r) l =
      ⊎_elim (λ (e : q ≡ suc r). rw e (omega arith))
      (λ (h : q < suc r). omega (arith, count_grows q r (le_of_suc-le-suc h), count_more r))
      (eq-or-lt_of_le l)

  -- so that those in no pair come in order
  pub count_less : (q r : ℕ) → q < r → among q (seconds vs) ≡ false → length (unpaired vs q) < length (unpaired vs r)
  count_less q r l e = omega (arith, count_one q e, count_grows (suc q) r l)

  -- each stands behind those below it
  pub unpaired_there : (n q : ℕ) → q < n → among q (seconds vs) ≡ false → get_or (unpaired vs n) (length (unpaired vs q)) 0 ≡ q
  unpaired_there zero q l e = absurd (not-suc-le-zero l)
  unpaired_there (suc n) q l e =
      rw (unpaired_next vs n)
      (⊎_elim (λ (h : q ≡ n). rw (← h, e) (get_or-append_seam (unpaired vs q) q [] 0))
      (λ (h : q < n). get_or-append (unpaired vs n) _ 0 (length (unpaired vs q)) (count_less q n h e) ∙ unpaired_there n q h e)
      (eq-or-lt_of_le (le_of_suc-le-suc l)))

  -- and nothing else stands there
  pub record Leaves (n i : ℕ) : Type 0 where
    pub place : ℕ
    pub here : get_or (unpaired vs n) i 0 ≡ place
    pub below : place < n
    pub alone : among place (seconds vs) ≡ false
    pub behind : length (unpaired vs place) ≡ i

  pub unpaired_at : (n i : ℕ) → i < length (unpaired vs n) → Leaves n i
  unfolding unpaired
  unpaired_at zero i l = absurd (not-suc-le-zero l)
  unpaired_at (suc n) i l = go (dec_lt i (length (unpaired vs n))) (unpaired_at n i)
    where
      more : Leaves n i → Leaves (suc n) i
      more h =
          let k : i < length (unpaired vs n) = omega (arith, count_less h.place n h.below h.alone, h.behind) in
          record {
            place = h.place;
            here = get_or-append (unpaired vs n) _ 0 i k ∙ h.here;
            below = omega (arith, h.below);
            alone = h.alone;
            behind = h.behind;
          }

      last : (t : Bool) → among n (seconds vs) ≡ t → length (unpaired vs n) ≡ i → Leaves (suc n) i
      last true t e = absurd (omega (arith, count_none n t))
      last false t e =
          record {
            place = n;
            here = rw (t, ← e) (get_or-append_seam (unpaired vs n) n [] 0);
            below = omega arith;
            alone = t;
            behind = e;
          }

      go : Dec (i < length (unpaired vs n)) → (i < length (unpaired vs n) → Leaves n i) → Leaves (suc n) i
      go (yes h) below = more (below h)
      go (no h) below = last (among n (seconds vs)) refl (omega (arith, count_more n, one (among n (seconds vs))))
        where
          one : (t : Bool) → cond t 0 1 ≤ 1
          one true = omega arith
          one false = omega arith

-- one pair more takes one place away, if it is there and was not yet taken
taken_past : (v : ℕ × ℕ) (vs : List (ℕ × ℕ)) (n : ℕ) → n ≤ v.1 → length (unpaired (v ∷ vs) n) ≡ length (unpaired vs n)
unfolding unpaired among
taken_past v vs zero l = refl
taken_past v vs (suc n) l =
    count_more (v ∷ vs) n ∙ rw (ne_eqb n v.1 (λ e. absurd (omega arith)), taken_past v vs n (omega arith)) (sym (count_more vs n))

taken_one : (v : ℕ × ℕ) (vs : List (ℕ × ℕ)) (n : ℕ) → v.1 < n → among v.1 (seconds vs) ≡ false
    → length (unpaired (v ∷ vs) n) + 1 ≡ length (unpaired vs n)
unfolding among
taken_one v vs zero l e = absurd (not-suc-le-zero l)
taken_one v vs (suc n) l e =
    ⊎_elim
    (λ (h : v.1 ≡ n).
    let one : among n (v.1 ∷ seconds vs) ≡ true = rw (eq-eqb n v.1 (sym h)) refl in
    let none : among n (seconds vs) ≡ false = rw h at e in
    omega (arith, count_none (v ∷ vs) n one, taken_past v vs n (omega arith), count_one vs n none))
    (λ (h : v.1 < n).
    let same : among n (v.1 ∷ seconds vs) ≡ among n (seconds vs) = rw (ne_eqb n v.1 (λ q. absurd (omega arith))) refl in
    let more = rw same at (count_more (v ∷ vs) n) in
    omega (arith, taken_one v vs n h e, count_more vs n))
    (eq-or-lt_of_le (le_of_suc-le-suc l))

pub count_all : (n : ℕ) → length (unpaired [] n) ≡ n
unfolding unpaired among
count_all zero = refl
count_all (suc n) = omega (arith, count_one [] n refl, count_all n)

-- each pair is one place of the second net
pub unpaired_count : (n : ℕ) (vs : List (ℕ × ℕ)) → distinct_places n (seconds vs) ≡ true → length (unpaired vs n) + length vs ≡ n
unpaired_count n [] e = omega (arith, count_all n)
unpaired_count n (v ∷ vs) e =
    let h = distinct_next n v.1 (seconds vs) e in
    omega (arith, taken_one v vs n h.0 h.1, unpaired_count n vs h.2)

-- ---- lists that pass
-- what the check asks of a list
abbrev pub pairs_test : ℕ → ℕ → List ℕ → Bool
pairs_test places others list =
    eqb (length list % 2) 0 && distinct_places places (firsts (pairs_of list)) && distinct_places others (seconds (pairs_of list))

-- the tests that a list passes
pub pairs_passed : (places others : ℕ) (list : List ℕ) → pairs_checked places others list ≡ Passed
    → (length list % 2 ≡ 0) × (distinct_places places (firsts (pairs_of list)) ≡ true) × (distinct_places others (seconds (pairs_of list)) ≡ true)
pairs_passed places others list e =
    let even = eqb (length list % 2) 0 in
    let one = distinct_places places (firsts (pairs_of list)) in
    let other = distinct_places others (seconds (pairs_of list)) in
    let h = (and-eq-true_iff (even && one) other).0 (test_passed (even && one && other) BadPairs e) in
    let k = (and-eq-true_iff even one).0 h.0 in
    (eqb-true (length list % 2) 0 k.0, k.1, h.1)

-- no list with more numbers than twice the places of a net
pub long_list : (places others : ℕ) (list : List ℕ) → places ≤ 16 → others ≤ 16 → 32 < length list → pairs_checked places others list ≡ Err BadPairs
long_list places others list few less long = go _ refl
  where
    go : (t : Bool) → pairs_test places others list ≡ t
        → cond t Passed (Err BadPairs) ≡ Err BadPairs
    go true t =
        let h = pairs_passed places others list (rw t refl) in
        absurd (omega (arith, h.0, unpaired_count others (pairs_of list) h.2, length_pairs list))
    go false t = refl

-- each of its numbers names a place
pub named_below : (f : ℕ × ℕ → ℕ) (n : ℕ) (vs : List (ℕ × ℕ)) → distinct_places n (map f vs) ≡ true → Each (λ v. f v < n) vs
named_below f n [] e = tt
named_below f n (v ∷ vs) e = let h = distinct_next n (f v) (map f vs) e in (h.0, named_below f n vs h.2)

pub pairs_below : (places others : ℕ) (list : List ℕ) → pairs_checked places others list ≡ Passed
    → Each (λ v. (v.0 < places) × (v.1 < others)) (pairs_of list)
pairs_below places others list e =
    let h = pairs_passed places others list e in
    each_zip (λ v l k. (l, k)) (pairs_of list) (named_below (λ (v : ℕ × ℕ). v.0) places (pairs_of list) h.1)
    (named_below (λ (v : ℕ × ℕ). v.1) others (pairs_of list) h.2)

-- and so a slot of an array
pub pairs_named : (places others : ℕ) (list : List ℕ) → places ≤ 16 → others ≤ 16 → pairs_checked places others list ≡ Passed → Each Named (pairs_of list)
pairs_named places others list few less e = each_map (λ v h. (omega (arith, h.0), omega (arith, h.1))) (pairs_of list) (pairs_below places others list e)

-- ---- pairs by their index
-- the numbers of a list
module _ (list : List ℕ) (i : ℕ) (h : i < length (pairs_of list)) where
  pub first_number : first_at list i ≡ (get_or (pairs_of list) i (0, 0)).0
  first_number = ap (λ (v : ℕ × ℕ). v.0) (pair_there list i h)

  pub second_number : second_at list i ≡ (get_or (pairs_of list) i (0, 0)).1
  second_number = ap (λ (v : ℕ × ℕ). v.1) (pair_there list i h)

-- a place of one side, and the pair that names it
module _ (f : ℕ × ℕ → ℕ) (vs : List (ℕ × ℕ)) where
  pub side_at : (i : ℕ) → i < length vs → get_or (map f vs) i 0 ≡ f (get_or vs i (0, 0))
  side_at i h = get_d_within (map f vs) i 0 (f (0, 0)) (omega (arith, length-map vs f)) ∙ get_or-map f vs i (0, 0)

  pub listed_at : (i : ℕ) → i < length vs → {p : ℕ} → f (get_or vs i (0, 0)) ≡ p → Listed (map f vs) p
  listed_at i h e = record { index = i; within = omega (arith, length-map vs f); here = side_at i h ∙ e }

  pub pair_of : {p : ℕ} → Listed (map f vs) p → (i : ℕ) × (i < length vs) × (f (get_or vs i (0, 0)) ≡ p)
  pair_of l = let h : l.index < length vs = omega (arith, length-map vs f, l.within) in (l.index, h, sym (side_at l.index h) ∙ l.here)

pub starts_exactly : (start other : List ℕ) (vs : List (ℕ × ℕ)) → (equal_starts start other vs ≡ true)
    ↔ ((i : ℕ) → i < length vs → get_or start (get_or vs i (0, 0)).0 0 ≡ get_or other (get_or vs i (0, 0)).1 0)
unfolding equal_starts
starts_exactly start other vs = (to vs, back vs)
  where
    to : (vs : List (ℕ × ℕ)) → equal_starts start other vs ≡ true
        → (i : ℕ) → i < length vs → get_or start (get_or vs i (0, 0)).0 0 ≡ get_or other (get_or vs i (0, 0)).1 0
    to [] e i h = absurd (not-suc-le-zero h)
    to (v ∷ vs) e zero h =
        eqb-true _ _ ((and-eq-true_iff (eqb (get_or start v.0 0) (get_or other v.1 0)) (equal_starts start other vs)).0 e).0
    to (v ∷ vs) e (suc i) h =
        to vs ((and-eq-true_iff (eqb (get_or start v.0 0) (get_or other v.1 0)) (equal_starts start other vs)).0 e).1 i (le_of_suc-le-suc h)

    back : (vs : List (ℕ × ℕ)) → ((i : ℕ) → i < length vs → get_or start (get_or vs i (0, 0)).0 0 ≡ get_or other (get_or vs i (0, 0)).1 0)
        → equal_starts start other vs ≡ true
    back [] h = refl
    back (v ∷ vs) h = rw (eq-eqb (get_or start v.0 0) (get_or other v.1 0) (h 0 (omega arith))) (back vs (λ i l. h (suc i) (suc-le-suc l)))
