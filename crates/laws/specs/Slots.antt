-- The slots of an array that count: the first so many elements of a list, and a list brought to a size.
use Prim.Native.Nat.{ℕ, zero, suc, ◌-◌, ◌≤◌, ◌<◌, ◌+◌}
use Rattle.std.proofs.Common.{not-suc-le-zero, le_of_suc-le-suc, arith, sym, ◌∙◌, length-append, add-one, ext_get_or, length-take-le, take-suc, drop-cons, eqb-true, eq-eqb, ne_eqb}
use mathlib.Core.List.{List, [], ◌∷◌, ◌++◌, map}
use Rattle.std.specs.Prelude.{◌≡◌, length, get_or, replicate, set, take, drop, Bool, true, false, eqb}
use Rattle.std.proofs.Math.Path.{refl, ap}
use Rattle.std.proofs.lemmas.List.{length-map, length-replicate}
use Rattle.std.proofs.Math.ListN.{get_or-map}
use Rattle.std.proofs.Math.Seq.{set-append_seam, append_snoc}
use Rattle.std.proofs.lemmas.Bool.{eqb-false}

-- ---- A list in an array: its first elements count, and the slots behind them hold a filler.

module _ {ℓ} {A : Type ℓ} where
  -- the first n elements, with d for each that is missing
  unfoldable pub first_of : ℕ → A → List A → List A
  first_of zero d l = []
  first_of (suc n) d [] = d ∷ first_of n d []
  first_of (suc n) d (a ∷ l) = a ∷ first_of n d l

  -- the list with d behind it up to a size
  abbrev pub pad_to : ℕ → A → List A → List A
  pad_to size d l = l ++ replicate (size - length l) d

  pub length_first : (n : ℕ) (d : A) (l : List A) → length (first_of n d l) ≡ n
  unfolding first_of
  length_first zero d l = refl
  length_first (suc n) d [] = ap suc (length_first n d [])
  length_first (suc n) d (a ∷ l) = ap suc (length_first n d l)

  pub get_d_first : (n : ℕ) (d : A) (l : List A) (i : ℕ) → i < n → get_or (first_of n d l) i d ≡ get_or l i d
  unfolding first_of
  get_d_first zero d l i h = absurd (not-suc-le-zero h)
  get_d_first (suc n) d [] zero h = refl
  get_d_first (suc n) d [] (suc i) h = get_d_first n d [] i (le_of_suc-le-suc h)
  get_d_first (suc n) d (a ∷ l) zero h = refl
  get_d_first (suc n) d (a ∷ l) (suc i) h = get_d_first n d l i (le_of_suc-le-suc h)

  -- within the list these are its front
  pub first_take : (n : ℕ) (d : A) (l : List A) → n ≤ length l → take n l ≡ first_of n d l
  unfolding first_of
  first_take zero d l h = refl
  first_take (suc n) d [] h = absurd (not-suc-le-zero h)
  first_take (suc n) d (a ∷ l) h = ap (λ (k : List A). a ∷ k) (first_take n d l (le_of_suc-le-suc h))

  -- lists that agree in the first n slots
  pub first_same : (n : ℕ) (d : A) (l m : List A) → ((i : ℕ) → i < n → get_or l i d ≡ get_or m i d) → first_of n d l ≡ first_of n d m
  first_same n d l m h =
      let long = length_first n d l in
      ext_get_or d (first_of n d l) (first_of n d m) (long ∙ sym (length_first n d m))
      (λ i b. let c : i < n = omega arith in get_d_first n d l i c ∙ h i c ∙ sym (get_d_first n d m i c))

  -- within the list the filler does not matter
  pub get_d_within : (l : List A) (i : ℕ) (d d' : A) → i < length l → get_or l i d ≡ get_or l i d'
  get_d_within [] i d d' h = absurd (not-suc-le-zero h)
  get_d_within (a ∷ l) zero d d' h = refl
  get_d_within (a ∷ l) (suc i) d d' h = get_d_within l i d d' (le_of_suc-le-suc h)

  -- what was padded is found again
  pub first_append : (d : A) (l m : List A) → first_of (length l) d (l ++ m) ≡ l
  unfolding first_of
  first_append d [] m = refl
  first_append d (a ∷ l) m = ap (λ (k : List A). a ∷ k) (first_append d l m)

  -- a list that fits is padded to the size
  pub length_pad : (size : ℕ) (d : A) (l : List A) → length l ≤ size → length (pad_to size d l) ≡ size
  length_pad size d l h = omega (arith, length-append l (replicate (size - length l) d), length-replicate (size - length l) d)

  pub first_pad : (n size : ℕ) (d : A) (l : List A) → length l ≡ n → first_of n d (pad_to size d l) ≡ l
  first_pad n size d l e = rw (← e) (first_append d l (replicate (size - length l) d))

  -- behind a list stands its filler, whether it is written out or not
  pub get_d_padded : (l : List A) (k : ℕ) (d : A) (i : ℕ) → get_or (l ++ replicate k d) i d ≡ get_or l i d
  get_d_padded [] zero d i = refl
  get_d_padded [] (suc k) d zero = refl
  get_d_padded [] (suc k) d (suc i) = get_d_padded [] k d i
  get_d_padded (a ∷ l) k d zero = refl
  get_d_padded (a ∷ l) k d (suc i) = get_d_padded l k d i

  -- a slot that counts is kept
  pub get_d_kept : (n size : ℕ) (d : A) (l : List A) (i : ℕ) → i < n → get_or (pad_to size d (first_of n d l)) i d ≡ get_or l i d
  get_d_kept n size d l i h = get_d_padded (first_of n d l) (size - length (first_of n d l)) d i ∙ get_d_first n d l i h

-- a slot that counts, after each element was changed by f
pub get_d_changed {ℓ} : {A : Type ℓ} (f : A → A) (n size : ℕ) (d : A) (l : List A) (i : ℕ) → i < n
    → get_or (pad_to size d (map f (first_of n d l))) i d ≡ f (get_or l i d)
get_d_changed f n size d l i h =
    let m = map f (first_of n d l) in
    let k : i < length m = rw (length-map (first_of n d l) f, length_first n d l) h in
    get_d_padded m (size - length m) d i ∙ get_d_within m i d (f d) k ∙ get_or-map f (first_of n d l) i d ∙ ap f (get_d_first n d l i h)

-- ---- One slot more of a list in an array: a store behind what is held makes it one longer, and behind each counted slot lies the next.

module _ {ℓ} {A : Type ℓ} where
  pub pad_more : (size : ℕ) (d : A) (l : List A) (a : A) → length l < size → set (pad_to size d l) (length l) a ≡ pad_to size d (l ++ (a ∷ []))
  pad_more size d l a h =
      let one : size - length l ≡ suc (size - length (l ++ (a ∷ []))) = omega (arith, length-append l (a ∷ [])) in
      rw one (set-append_seam l d (replicate (size - length (l ++ (a ∷ []))) d) a ∙ sym (append_snoc l a (replicate (size - length (l ++ (a ∷ []))) d)))

  -- a list stored one element after the other: one more
  pub pad_next : (size : ℕ) (d : A) (l : List A) (i : ℕ) → i < length l → length l ≤ size
      → set (pad_to size d (take i l)) i (get_or l i d) ≡ pad_to size d (take (i + 1) l)
  pad_next size d l i h few =
      let a = get_or l i d in
      let so_far : length (take i l) ≡ i = length-take-le i l (omega arith) in
      let one_more : take i l ++ (a ∷ []) ≡ take (i + 1) l = rw add-one (sym (take-suc l i d h)) in
      ap (λ (k : ℕ). set (pad_to size d (take i l)) k a) (sym so_far) ∙ pad_more size d (take i l) a (omega arith) ∙ ap (pad_to size d) one_more

  -- a store behind the counted slots
  pub first_set : (n : ℕ) (d a : A) (l : List A) → n < length l → first_of (suc n) d (set l n a) ≡ first_of n d l ++ (a ∷ [])
  unfolding first_of
  first_set n d a [] h = absurd (not-suc-le-zero h)
  first_set zero d a (b ∷ l) h = refl
  first_set (suc n) d a (b ∷ l) h = ap (λ (k : List A). b ∷ k) (first_set n d a l (le_of_suc-le-suc h))

  pub first_next : (n : ℕ) (d : A) (l : List A) (i : ℕ) → i < n → drop i (first_of n d l) ≡ get_or l i d ∷ drop (i + 1) (first_of n d l)
  first_next n d l i h =
      rw add-one (drop-cons (first_of n d l) i d (omega (arith, length_first n d l)) ∙ ap (λ (a : A). a ∷ drop (suc i) (first_of n d l)) (get_d_first n d l i h))

-- the last of a count, told by what is left
pub last_left : (i count : ℕ) → i < count → eqb (i + 1) count ≡ eqb (count - (i + 1)) 0
last_left i count h = go (eqb (i + 1) count) refl
  where
    go : (t : Bool) → eqb (i + 1) count ≡ t → t ≡ eqb (count - (i + 1)) 0
    go true e = let same = eqb-true (i + 1) count e in sym (eq-eqb (count - (i + 1)) 0 (omega arith))
    go false e = let other = eqb-false (i + 1) count e in sym (ne_eqb (count - (i + 1)) 0 (λ z. other (omega arith)))

-- ---- what is made of each element of the first slots
pub mapped_same : {A B : Type 0} (f : A → B) (n : ℕ) (d : A) (l m : List A) → ((i : ℕ) → i < n → f (get_or l i d) ≡ f (get_or m i d))
    → map f (first_of n d l) ≡ map f (first_of n d m)
mapped_same {A} f n d l m h =
    ext_get_or (f d) (map f (first_of n d l)) (map f (first_of n d m)) (long l ∙ sym (long m))
    (λ i b. let k : i < n = omega (arith, long l) in there l i k ∙ h i k ∙ sym (there m i k))
  where
    long : (x : List A) → length (map f (first_of n d x)) ≡ n
    long x = length-map (first_of n d x) f ∙ length_first n d x

    there : (x : List A) (i : ℕ) → i < n → get_or (map f (first_of n d x)) i (f d) ≡ f (get_or x i d)
    there x i k = get_or-map f (first_of n d x) i d ∙ ap f (get_d_first n d x i k)

pub first_mapped : {A B : Type 0} (f : A → B) (n : ℕ) (d : A) {e : B} → f d ≡ e → (l : List A) → first_of n e (map f l) ≡ map f (first_of n d l)
unfolding first_of
first_mapped f zero d p l = refl
first_mapped f (suc n) d p [] = λ i. sym p i ∷ first_mapped f n d p [] i
first_mapped f (suc n) d p (a ∷ l) = ap (λ (m : List _). f a ∷ m) (first_mapped f n d p l)
