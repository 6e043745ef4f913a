-- Pairs of a list, told by their index; the loops over them.
use Prim.Native.Nat.{ℕ, zero, suc, suc-le-suc, ◌+◌, ◌-◌, ◌*◌, ◌/◌, ◌≤◌, ◌<◌}
use native.Mathlib.Nat.{le_of_suc-le-suc, not-suc-le-zero}
use native.Mathlib.Omega.{arith}
use mathlib.Core.Path.{◌≡◌, refl, sym, ap, ◌∙◌}
use mathlib.Core.Bool.{Bool, true, false, not, cond, ◌&&◌, ◌||◌, and-false, and-eq-true_iff}
use mathlib.Core.List.{List, [], ◌∷◌, reverse}
use mathlib.Core.Option.{some}
use Rattle.std.specs.Prelude.{Option, Some, None, IsTrue, EachIndex, ◌↔◌}
use Rattle.std.specs.Simd.{first_chunks}
use Rattle.std.specs.Iterator.{Yields}
use Rattle.std.specs.Iterator.Adapters.{rev_source, rev_steps}
use Rattle.std.specs.Slice.Iter.{iter_rest, iter_steps_back}
use Rattle.std.specs.declared.iter.Rev.{Rev}
use Rattle.std.proofs.Common.{Iter}
use denote.Ref.{Bor}
use Rattle.std.proofs.lemmas.Iterator.Adapters.{YieldsList-from_rev_slice}
use Rattle.std.proofs.lemmas.Iterator.Consumers.{YieldsList-turn, YieldsList-end}
use Rattle.std.proofs.lemmas.List.{get_or-reverse, get_or_default, length-reverse}
use lib.ListN.{length, get_or, set, drop, replicate, length-map, length-set, get_or-map, drop_of_length-le}
use lib.Dec.{ltb, eqb}
use lib.Seq.{drop-cons, get_or-set_same, get_or-set_other}
use borrow.Author.Tests.{eqb-true, eqb-false, eq-eqb, lt-ltb, le-ltb}
use Rattle.laws.specs.Each.{Each, each_at}
use Rattle.laws.specs.Slots.{get_d_padded}
use Rattle.joining.specs.Joining.{pairs_of, firsts, seconds, among, distinct_places, equal_starts, partner}
use Rattle.joining.specs.Code.{pairs_in, numbers_on, Seen, Named, place_in, Partnered}
use Rattle.joining.specs.Layout.{Within}

-- ---- two by two
pub chunk_pairs : (l : List ℕ) → pairs_in (first_chunks 2 (length l / 2) l) ≡ pairs_of l
unfolding pairs_of
chunk_pairs [] = refl
chunk_pairs (p ∷ []) = refl
chunk_pairs (p ∷ q ∷ l) =
    let more : (suc (suc (length l))) / 2 ≡ suc (length l / 2) = omega arith in
    rw more (ap (λ (vs : List (ℕ × ℕ)). (p, q) ∷ vs) (chunk_pairs l))

pub length_pairs : (l : List ℕ) → length (pairs_of l) ≡ length l / 2
unfolding pairs_of
length_pairs [] = refl
length_pairs (p ∷ []) = refl
length_pairs (p ∷ q ∷ l) = omega (arith, length_pairs l)

pub pair_there : (l : List ℕ) (i : ℕ) → i < length (pairs_of l) → (get_or l (2 * i) 0, get_or l (2 * i + 1) 0) ≡ get_or (pairs_of l) i (0, 0)
unfolding pairs_of
pair_there [] i h = absurd (not-suc-le-zero h)
pair_there (p ∷ []) i h = absurd (not-suc-le-zero h)
pair_there (p ∷ q ∷ l) zero h = refl
pair_there (p ∷ q ∷ l) (suc i) h =
    let one : 2 * suc i + 1 ≡ suc (suc (2 * i + 1)) = omega arith in
    let e : 2 * suc i ≡ suc (suc (2 * i)) = omega arith in
    rw (one, e) (pair_there l i (le_of_suc-le-suc h))

-- the numbers of a side
pub numbers_first : (pairs : List (List ℕ)) → numbers_on 0 pairs ≡ firsts (pairs_in pairs)
numbers_first [] = refl
numbers_first (x ∷ pairs) = ap (λ (ps : List ℕ). get_or x 0 0 ∷ ps) (numbers_first pairs)

pub numbers_second : (pairs : List (List ℕ)) → numbers_on 1 pairs ≡ seconds (pairs_in pairs)
numbers_second [] = refl
numbers_second (x ∷ pairs) = ap (λ (ps : List ℕ). get_or x 1 0 ∷ ps) (numbers_second pairs)

pub length_in : (pairs : List (List ℕ)) → length (pairs_in pairs) ≡ length pairs
length_in pairs = length-map pairs (λ (pair : List ℕ). (get_or pair 0 0, get_or pair 1 0))

-- a pair by its index, and its number on one side
pub pair_at : (pairs : List (List ℕ)) (i : ℕ) {pair : List ℕ} → pair ≡ get_or pairs i [] → (get_or pair 0 0, get_or pair 1 0) ≡ get_or (pairs_in pairs) i (0, 0)
pair_at pairs i e = rw e (sym (get_or-map (λ (pair : List ℕ). (get_or pair 0 0, get_or pair 1 0)) pairs i []))

pub number_at : (side : ℕ) (pairs : List (List ℕ)) (i : ℕ) {pair : List ℕ} → pair ≡ get_or pairs i [] → get_or pair side 0 ≡ get_or (numbers_on side pairs) i 0
number_at side pairs i e = rw e (sym (get_or-map (λ (pair : List ℕ). get_or pair side 0) pairs i []))

-- a loop from the last to the first that has passed so many looks at the last of the others
pub turn_back : {A : Type 0} (l : List A) (passed : ℕ) (a d : A) → (passed < length (reverse l)) × (a ≡ get_or (reverse l) passed a)
    → (0 < length l - passed) × (a ≡ get_or l (length l - passed - 1) d)
turn_back l passed a d t =
    let inside : passed < length l = omega (arith, t.0, length-reverse l) in
    let back : length l - 1 - passed ≡ length l - passed - 1 = omega arith in
    (omega arith, t.1 ∙ get_or-reverse l passed a inside ∙ ap (λ (k : ℕ). get_or l k a) back ∙ get_or_default l (length l - passed - 1) a d (omega arith))

module _ (pairs : List (List ℕ)) (s t u : Rev (Iter (List ℕ))) (all : iter_rest (rev_source s) ≡ pairs) (passed : List (Bor (List ℕ)))
    (by : Yields (rev_steps iter_steps_back) s passed t) (r : Option (Bor (List ℕ))) where
  pub pair_back : (pair : Bor (List ℕ)) → r ≡ Some pair → rev_steps iter_steps_back t r u
      → (0 < length pairs - length passed) × (pair.now ≡ get_or pairs (length pairs - length passed - 1) [])
  pair_back pair is steps =
      turn_back pairs (length passed) pair.now [] (YieldsList-turn (YieldsList-from_rev_slice pairs all) passed t by r u pair is steps)

  pub pairs_end : r ≡ None → rev_steps iter_steps_back t r u → length pairs - length passed ≤ 0
  pairs_end is steps =
      let e = YieldsList-end (YieldsList-from_rev_slice pairs all) passed t by r u is steps in
      omega (arith, e.1, length-reverse pairs)

-- ---- the places of a side, looked at from the last to the first
-- a place further on that is wrong
tail_wrong : (places : ℕ) (ps : List ℕ) (i : ℕ) → distinct_places places (drop i ps) ≡ false → distinct_places places ps ≡ false
unfolding distinct_places
tail_wrong places ps zero e = e
tail_wrong places [] (suc i) e = e
tail_wrong places (p ∷ ps) (suc i) e = rw (tail_wrong places ps i e) (and-false (ltb p places && not (among p ps)))

-- those from i on are right, and marked
pub record Looked (places : ℕ) (ps : List ℕ) (named : List Bool) (i : ℕ) : Type 0 where
  pub within : i ≤ length ps
  pub right : distinct_places places (drop i ps) ≡ true
  pub long : length named ≡ 16
  pub marked : (p : ℕ) → p < 16 → get_or named p false ≡ among p (drop i ps)

pub looked_none : (places : ℕ) (ps : List ℕ) → Looked places ps (replicate 16 false) (length ps)
unfolding distinct_places among
looked_none places ps =
    let none : drop (length ps) ps ≡ [] = drop_of_length-le ps {i = length ps} (omega arith) in
    record { within = omega arith; right = rw none refl; long = refl; marked = λ p h. rw none (get_d_padded [] 16 false p) }

module _ {places : ℕ} {ps : List ℕ} {named : List Bool} {i : ℕ} (w : Looked places ps named i) (some : 0 < i) {p : ℕ} (e : p ≡ get_or ps (i - 1) 0) where
  next_place : drop (i - 1) ps ≡ p ∷ drop i ps
  next_place =
      let one : suc (i - 1) ≡ i = omega arith in
      rw one at (drop-cons ps (i - 1) 0 (omega (arith, w.within))) ∙ ap (λ (q : ℕ). q ∷ drop i ps) (sym e)

  -- a number that names no place
  pub looked_none_such : places ≤ p → distinct_places places ps ≡ false
  unfolding distinct_places
  looked_none_such h = tail_wrong places ps (i - 1) (rw (next_place, le-ltb p places h) refl)

  module _ (few : places ≤ 16) (h : p < places) where
    -- one that is named once more
    pub looked_twice : get_or named p false ≡ true → distinct_places places ps ≡ false
    unfolding distinct_places
    looked_twice t = tail_wrong places ps (i - 1) (rw (next_place, lt-ltb p places h, sym (w.marked p (omega arith)) ∙ t) refl)

    pub looked_more : get_or named p false ≡ false → Looked places ps (set named p true) (i - 1)
    unfolding distinct_places among
    looked_more t =
        record {
          within = omega (arith, w.within);
          right = rw (next_place, lt-ltb p places h, sym (w.marked p (omega arith)) ∙ t, w.right) refl;
          long = length-set named p true ∙ w.long;
          marked = λ q l. rw next_place (go q l (eqb q p) refl);
        }
      where
        go : (q : ℕ) → q < 16 → (t : Bool) → eqb q p ≡ t → get_or (set named p true) q false ≡ (t || among q (drop i ps))
        go q l true t = rw (eqb-true q p t) (get_or-set_same named p true false (omega (arith, w.long)))
        go q l false t = get_or-set_other named p q true false (eqb-false q p t) ∙ w.marked q l

-- what a side comes to
pub seen_right : {places : ℕ} {ps : List ℕ} {named : List Bool} {i : ℕ} → Looked places ps named i → i ≤ 0 → Seen places ps (Some named)
seen_right {ps = ps} {i = i} w h = let z : i ≡ 0 = omega arith in (rw z at w.right, λ p l. rw z at (w.marked p l))

-- ---- equal starts, pair by pair
module _ (start other : List ℕ) where
  -- the pair of an index starts with as many tokens
  abbrev pub StartsAt : List (List ℕ) → ℕ → Type 0
  StartsAt pairs k = get_or start (get_or (get_or pairs k []) 0 0) 0 ≡ get_or other (get_or (get_or pairs k []) 1 0) 0

  starts_each : (pairs : List (List ℕ)) → EachIndex pairs (StartsAt pairs) → equal_starts start other (pairs_in pairs) ≡ true
  unfolding equal_starts
  starts_each [] h = refl
  starts_each (x ∷ pairs) h =
      rw (eq-eqb (get_or start (get_or x 0 0) 0) (get_or other (get_or x 1 0) 0) (h 0 (omega arith))) (starts_each pairs (λ k l. h (suc k) (suc-le-suc l)))

  each_starts : (pairs : List (List ℕ)) → equal_starts start other (pairs_in pairs) ≡ true → EachIndex pairs (StartsAt pairs)
  unfolding equal_starts
  each_starts [] e k l = absurd (not-suc-le-zero l)
  each_starts (x ∷ pairs) e zero l =
      eqb-true (get_or start (get_or x 0 0) 0) (get_or other (get_or x 1 0) 0)
      ((and-eq-true_iff (eqb (get_or start (get_or x 0 0) 0) (get_or other (get_or x 1 0) 0)) (equal_starts start other (pairs_in pairs))).0 e).0
  each_starts (x ∷ pairs) e (suc k) l =
      each_starts pairs
      ((and-eq-true_iff (eqb (get_or start (get_or x 0 0) 0) (get_or other (get_or x 1 0) 0)) (equal_starts start other (pairs_in pairs))).0 e).1
      k (le_of_suc-le-suc l)

  pub starts_told : (pairs : List (List ℕ)) (b : Bool) → (IsTrue b ↔ EachIndex pairs (StartsAt pairs)) → b ≡ equal_starts start other (pairs_in pairs)
  starts_told pairs true h = sym (starts_each pairs (h.0 refl))
  starts_told pairs false h = go (equal_starts start other (pairs_in pairs)) refl
    where
      go : (t : Bool) → equal_starts start other (pairs_in pairs) ≡ t → false ≡ equal_starts start other (pairs_in pairs)
      go false e = sym e
      go true e = let no = h.1 (each_starts pairs e) in absurd (cc)

-- ---- partners, from the last pair to the first
pub record Partnering (vs : List (ℕ × ℕ)) (source : List (Option ℕ)) (i : ℕ) : Type 0 where
  pub inside : i ≤ length vs
  pub long : length source ≡ 16
  pub so_far : (p : ℕ) → p < 16 → place_in (get_or source p None) ≡ partner (drop i vs) p
  pub within : Within source

-- an array of no places
pub none_within : Within (replicate 16 None)
none_within p q e = let none = get_d_padded {A = Option ℕ} [] 16 None p in absurd (cc)

pub partnering_start : (vs : List (ℕ × ℕ)) → Partnering vs (replicate 16 None) (length vs)
unfolding partner
partnering_start vs =
    let none : drop (length vs) vs ≡ [] = drop_of_length-le vs {i = length vs} (omega arith) in
    record { inside = omega arith; long = refl; so_far = λ p h. rw (none, get_d_padded {A = Option ℕ} [] 16 None p) refl; within = none_within }

-- a place stored
pub within_set : (source : List (Option ℕ)) (i q : ℕ) → i < length source → Within source → q < 16 → Within (set source i (Some q))
within_set source i q l w h p q' = go (eqb p i) refl
  where
    go : (t : Bool) → eqb p i ≡ t → get_or (set source i (Some q)) p None ≡ Some q' → q' < 16
    go true t e = let same : Some q ≡ Some q' = sym (get_or-set_same source i (Some q) None l) ∙ rw (eqb-true p i t) at e in
        let is : q ≡ q' = cc in
        omega arith
    go false t e = w p q' (sym (get_or-set_other source i p (Some q) None (eqb-false p i t)) ∙ e)

module _ {vs : List (ℕ × ℕ)} {source : List (Option ℕ)} {i : ℕ} (w : Partnering vs source i) (more : 0 < i) {v : ℕ × ℕ} (e : v ≡ get_or vs (i - 1) (0, 0))
    (named : Named v) where
  pub partnering_more : Partnering vs (set source v.0 (Some v.1)) (i - 1)
  unfolding partner
  partnering_more =
      record {
        inside = omega (arith, w.inside);
        long = length-set source v.0 (Some v.1) ∙ w.long;
        so_far = λ p h. rw next_pair (go p h (eqb v.0 p) refl);
        within = within_set source v.0 v.1 (omega (arith, w.long, named.0)) w.within named.1;
      }
    where
      next_pair : drop (i - 1) vs ≡ v ∷ drop i vs
      next_pair =
          let one : suc (i - 1) ≡ i = omega arith in
          rw one at (drop-cons vs (i - 1) (0, 0) (omega (arith, w.inside))) ∙ ap (λ (x : ℕ × ℕ). x ∷ drop i vs) (sym e)

      go : (p : ℕ) → p < 16 → (t : Bool) → eqb v.0 p ≡ t → place_in (get_or (set source v.0 (Some v.1)) p None) ≡ cond t (some v.1) (partner (drop i vs) p)
      go p h true t = rw (← eqb-true v.0 p t, get_or-set_same source v.0 (Some v.1) None (omega (arith, w.long, named.0))) refl
      go p h false t = rw (get_or-set_other source v.0 p (Some v.1) None (λ q. eqb-false v.0 p t (sym q))) (w.so_far p h)

pub partnering_done : {vs : List (ℕ × ℕ)} {source : List (Option ℕ)} {i : ℕ} → Partnering vs source i → i ≤ 0 → Partnered vs source
partnering_done {vs} {source} {i} w h = let z : i ≡ 0 = omega arith in λ p l. w.so_far p l ∙ rw z refl

-- a pair that is among them
pub named_at : (vs : List (ℕ × ℕ)) (i : ℕ) {v : ℕ × ℕ} → Each Named vs → i < length vs → v ≡ get_or vs i (0, 0) → Named v
named_at vs i each h e = rw e (each_at Named (0, 0) vs each i h)

pub pair_named : (pairs : List (List ℕ)) (i : ℕ) → Each Named (pairs_in pairs) → i < length pairs
    → Named (get_or (get_or pairs i []) 0 0, get_or (get_or pairs i []) 1 0)
pair_named pairs i each h = named_at (pairs_in pairs) i each (omega (arith, length_in pairs)) (pair_at pairs i refl)
