-- A key that stands at a position: the list splits there, and what lies past the key does not matter.
use Prim.Native.Nat.{ℕ, zero, suc, ◌+◌, ◌-◌, ◌≤◌, zero-le, suc-le-suc}
use native.Mathlib.Nat.{not-suc-le-zero, le_of_suc-le-suc}
use native.Mathlib.Omega.{arith}
use mathlib.Core.List.{List, [], ◌∷◌, ◌++◌}
use mathlib.Core.Bool.{Bool, true, false, ◌&&◌, false≢true, and-eq-true_iff}
use mathlib.Core.Path.{◌≡◌, refl, sym, ap}
use lib.ListN.{length, take, drop, length-drop, drop_of_length-le}
use lib.Seq.{drop-drop, take_all}
use lib.Dec.{eqb}
use borrow.Author.Tests.{eqb-true, eqb-false, eq-eqb, ne_eqb}
use Rattle.std.specs.List.{starts_with}
use Rattle.laws.specs.Writing.{drop_take}
use Rattle.text.specs.Key.{begins_with}

pub begins_text : (key rest : List ℕ) → begins_with key (key ++ rest) ≡ true
unfolding begins_with
begins_text [] rest = refl
begins_text (k ∷ key) rest = rw (eq-eqb k k refl, begins_text key rest) refl

-- a list that begins with the key
begins_parts : (key t : List ℕ) → begins_with key t ≡ true → (t ≡ key ++ drop (length key) t) × (length key ≤ length t)
unfolding begins_with
begins_parts [] t e = (refl, zero-le)
begins_parts (k ∷ key) [] e = absurd (false≢true e)
begins_parts (k ∷ key) (b ∷ t) e =
    let h = (and-eq-true_iff (eqb b k) (begins_with key t)).0 e in
    let ih = begins_parts key t h.1 in
    let same : b ≡ k = eqb-true b k h.0 in
    let tail : t ≡ key ++ drop (length key) t = ih.0 in
    (cc, suc-le-suc ih.1)

pub begins_split : (key s : List ℕ) (at : ℕ) → begins_with key (drop at s) ≡ true → (drop at s ≡ key ++ drop (at + length key) s) × (length key ≤ length s - at)
begins_split key s at e =
    let h = begins_parts key (drop at s) e in
    (rw drop-drop at h.0, omega (arith, h.1, length-drop at s))

-- behind the end only the empty key stands
begins_nothing : (key : List ℕ) → eqb (length key) 0 ≡ begins_with key []
unfolding begins_with
begins_nothing [] = refl
begins_nothing (k ∷ key) = ne_eqb (suc (length key)) 0 (λ e. omega arith)

pub begins_behind : (s : List ℕ) (at : ℕ) (key : List ℕ) → length s ≤ at → eqb (length key) 0 ≡ begins_with key (drop at s)
begins_behind s at key h = rw (drop_of_length-le s h) (begins_nothing key)

-- two bytes are one whichever stands first
eqb_swap : (a b : ℕ) → eqb a b ≡ eqb b a
eqb_swap a b = go (eqb b a) refl
  where
    go : (t : Bool) → eqb b a ≡ t → eqb a b ≡ t
    go true e = eq-eqb a b (sym (eqb-true b a e))
    go false e = ne_eqb a b (λ q. eqb-false b a e (sym q))

-- the comparison of the library
starts_begins : (key t : List ℕ) → starts_with eqb t key ≡ begins_with key t
unfolding begins_with
starts_begins [] t = refl
starts_begins (k ∷ key) [] = refl
starts_begins (k ∷ key) (b ∷ t) = rw (eqb_swap k b, starts_begins key t) refl

pub begins_starts : (s : List ℕ) (at : ℕ) (key : List ℕ) → starts_with eqb (take (length s - at) (drop at s)) key ≡ begins_with key (drop at s)
begins_starts s at key = rw (take_all (length s - at) (drop at s) (omega (arith, length-drop at s))) (starts_begins key (drop at s))

-- only as many elements as the key has are looked at
begins_short : (key t : List ℕ) (n : ℕ) → length key ≤ n → begins_with key (take n t) ≡ begins_with key t
unfolding begins_with
begins_short [] t n h = refl
begins_short (k ∷ key) t zero h = absurd (not-suc-le-zero h)
begins_short (k ∷ key) [] (suc n) h = refl
begins_short (k ∷ key) (b ∷ t) (suc n) h = ap (λ (r : Bool). eqb b k && r) (begins_short key t n (le_of_suc-le-suc h))

pub begins_take : (key s : List ℕ) (k at : ℕ) → at + length key ≤ k → begins_with key (drop at (take k s)) ≡ begins_with key (drop at s)
begins_take key s k at h = rw (drop_take at k s) (begins_short key (drop at s) (k - at) (omega arith))
