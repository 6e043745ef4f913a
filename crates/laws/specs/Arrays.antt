-- Arrays whose first slots a function fills, and what the loops over them keep.
use Prim.Native.Nat.{ℕ, zero, suc, ◌+◌, ◌≤◌, ◌<◌}
use Rattle.std.proofs.Common.{le_refl, not-suc-le-zero, eq-or-lt_of_le, le_of_suc-le-suc, arith, sym, ap, ◌∙◌, eqb-true, get_or-set_same, ext_get_or}
use Rattle.std.proofs.Math.Numerals.{add-one}
use Rattle.std.proofs.Math.Decide.{dec_lt}
use Rattle.std.specs.Prelude.{◌≡◌, List, [], ◌∷◌, map, Bool, true, false, eqb, length, get_or, set}
use Rattle.std.proofs.Math.Path.{refl}
use Rattle.std.proofs.Math.Logic.{⊎_elim}
use Rattle.std.proofs.lemmas.Bool.{eqb-false}
use Rattle.std.proofs.Math.ListN.{length-set, get_or-eq_default}
use Rattle.std.proofs.Math.Seq.{get_or-set_other}
use Rattle.std.proofs.lemmas.List.{set-get_or}

module _ {A : Type 0} where
  -- the list with f of its number in each of the first n slots
  unfoldable pub filled : (ℕ → A) → ℕ → List A → List A
  filled f zero l = l
  filled f (suc n) l = set (filled f n l) n (f n)

  module _ (f : ℕ → A) (l : List A) where
    pub filled_none : filled f 0 l ≡ l
    unfolding filled
    filled_none = refl

    pub length_filled : (n : ℕ) → length (filled f n l) ≡ length l
    unfolding filled
    length_filled zero = refl
    length_filled (suc n) = length-set (filled f n l) n (f n) ∙ length_filled n

    -- one more
    pub filled_more : (n : ℕ) → filled f (n + 1) l ≡ set (filled f n l) n (f n)
    unfolding filled
    filled_more n = rw add-one refl

    -- behind the first n the list is what it was
    pub filled_past : (d : A) (n k : ℕ) → n ≤ k → get_or (filled f n l) k d ≡ get_or l k d
    unfolding filled
    filled_past d zero k h = refl
    filled_past d (suc n) k h = get_or-set_other (filled f n l) n k (f n) d (λ q. absurd (omega arith)) ∙ filled_past d n k (omega arith)

    -- each of the first n holds the value of f
    pub filled_at : (d : A) (n k : ℕ) → k < n → k < length l → get_or (filled f n l) k d ≡ f k
    unfolding filled
    filled_at d zero k h b = absurd (not-suc-le-zero h)
    filled_at d (suc n) k h b =
        ⊎_elim
        (λ (q : k ≡ n). rw q (get_or-set_same (filled f n l) n (f n) d (omega (arith, length_filled n))))
        (λ (lt : k < n). get_or-set_other (filled f n l) n k (f n) d (λ q. absurd (omega arith)) ∙ filled_at d n k lt b)
        (eq-or-lt_of_le (le_of_suc-le-suc h))

    -- one more that is what it was
    pub filled_keep : (d : A) (n : ℕ) → get_or l n d ≡ f n → filled f (n + 1) l ≡ filled f n l
    filled_keep d n e =
        filled_more n
        ∙ ap (set (filled f n l) n) (sym e ∙ sym (filled_past d n n (omega arith)))
        ∙ set-get_or (filled f n l) n d

  -- functions that agree below the bound
  pub filled_same : (f g : ℕ → A) (l : List A) (n : ℕ) → ((k : ℕ) → k < n → f k ≡ g k) → filled f n l ≡ filled g n l
  unfolding filled
  filled_same f g l zero h = refl
  filled_same f g l (suc n) h = rw (filled_same f g l n (λ k b. h k (omega arith)), h n (omega arith)) refl

  -- a function that says what is there changes nothing
  pub filled_idle : (f : ℕ → A) (l : List A) (d : A) (n : ℕ) → ((k : ℕ) → k < n → get_or l k d ≡ f k) → filled f n l ≡ l
  filled_idle f l d zero h = filled_none f l
  filled_idle f l d (suc n) h =
      sym (ap (λ (k : ℕ). filled f k l) (add-one n)) ∙ filled_keep f l d n (h n (omega arith)) ∙ filled_idle f l d n (λ k b. h k (omega arith))

  -- one slot more, over another function
  pub filled_set : (f g : ℕ → A) (l : List A) (d : A) (n i : ℕ) → i < n → ((k : ℕ) → k < n → (k ≡ i → ⊥) → f k ≡ g k)
      → set (filled f n l) i (g i) ≡ filled g n l
  filled_set f g l d n i h same =
      ext_get_or d (set (filled f n l) i (g i)) (filled g n l) (length-set (filled f n l) i (g i) ∙ length_filled f l n ∙ sym (length_filled g l n))
      (λ k c. at k (omega (arith, length-set (filled f n l) i (g i), length_filled f l n)) (dec_lt k n) (eqb k i) refl)
    where
      at : (k : ℕ) → k < length l → Dec (k < n) → (q : Bool) → eqb k i ≡ q → get_or (set (filled f n l) i (g i)) k d ≡ get_or (filled g n l) k d
      at k b (yes c) true q =
          let z = eqb-true k i q in
          rw z (get_or-set_same (filled f n l) i (g i) d (omega (arith, length_filled f l n)) ∙ sym (filled_at g l d n i h (omega arith)))
      at k b (yes c) false q =
          get_or-set_other (filled f n l) i k (g i) d (eqb-false k i q)
          ∙ filled_at f l d n k c (omega arith)
          ∙ same k c (eqb-false k i q)
          ∙ sym (filled_at g l d n k c (omega arith))
      at k b (no c) true q = absurd (omega (arith, eqb-true k i q))
      at k b (no c) false q =
          get_or-set_other (filled f n l) i k (g i) d (eqb-false k i q) ∙ filled_past f l d n k (omega arith) ∙ sym (filled_past g l d n k (omega arith))

module _ (f : ℕ → ℕ) (l : List ℕ) (n k : ℕ) (h : k < n) where
  -- a slot holds at most what fills it
  pub filled_most : get_or (filled f n l) k 0 ≤ f k
  filled_most = go (dec_lt k (length l))
    where
      go : Dec (k < length l) → get_or (filled f n l) k 0 ≤ f k
      go (yes b) = rw (filled_at f l 0 n k h b) (le_refl (f k))
      go (no b) = rw (get_or-eq_default (filled f n l) 0 {n = k} (omega (arith, length_filled f l n))) (omega arith)

  -- and at least that, if this is at most what was there
  pub filled_least : f k ≤ get_or l k 0 → f k ≤ get_or (filled f n l) k 0
  filled_least e = go (dec_lt k (length l))
    where
      go : Dec (k < length l) → f k ≤ get_or (filled f n l) k 0
      go (yes b) = rw (filled_at f l 0 n k h b) (le_refl (f k))
      go (no b) = omega (arith, get_or-eq_default l 0 {n = k} (omega arith))

-- what is made of each element
map_set : {A B : Type 0} (h : A → B) (l : List A) (i : ℕ) (a : A) → map h (set l i a) ≡ set (map h l) i (h a)
map_set h [] i a = refl
map_set h (b ∷ l) zero a = refl
map_set h (b ∷ l) (suc i) a = ap (λ (m : List _). h b ∷ m) (map_set h l i a)

pub filled_mapped : {A B : Type 0} (h : A → B) (f : ℕ → A) (l : List A) (n : ℕ) → map h (filled f n l) ≡ filled (λ i. h (f i)) n (map h l)
unfolding filled
filled_mapped h f l zero = refl
filled_mapped h f l (suc n) = map_set h (filled f n l) n (f n) ∙ ap (λ (m : List _). set m n (h (f n))) (filled_mapped h f l n)

-- ---- what a loop that fills an array keeps
pub record Filling {A : Type 0} (f : ℕ → A) (n : ℕ) (old : List A) (k : ℕ) (new : List A) : Type 0 where
  pub within : k ≤ n
  pub so_far : new ≡ filled f k old

pub fill_start : {A : Type 0} (f : ℕ → A) (n : ℕ) (old : List A) → Filling f n old 0 old
fill_start f n old = record { within = omega arith; so_far = sym (filled_none f old) }

module _ {A : Type 0} {f : ℕ → A} {n : ℕ} {old : List A} {k : ℕ} {new : List A} (s : Filling f n old k new) (l : k < n) where
  -- a store
  pub fill_store : {v : A} → v ≡ f k → Filling f n old (k + 1) (set new k v)
  fill_store e = record { within = omega arith; so_far = rw (e, s.so_far) (sym (filled_more f old k)) }

  -- a slot left as it was
  pub fill_keep : (d : A) → get_or old k d ≡ f k → Filling f n old (k + 1) new
  fill_keep d e = record { within = omega arith; so_far = s.so_far ∙ sym (filled_keep f old d k e) }

-- what is not passed is what it was
pub fill_ahead : {A : Type 0} {f : ℕ → A} {n : ℕ} {old : List A} {k : ℕ} {new : List A} → Filling f n old k new → (d : A) → get_or new k d ≡ get_or old k d
fill_ahead {f = f} {n} {old} {k} s d = rw s.so_far (filled_past f old d k k (omega arith))

pub fill_done : {A : Type 0} {f : ℕ → A} {n : ℕ} {old : List A} {k : ℕ} {new : List A} → Filling f n old k new → n ≤ k → new ≡ filled f n old
fill_done {f = f} {n} {old} {k} s l = let e : k ≡ n = omega (arith, s.within) in rw e at s.so_far
