-- Tests of every number, or of some number, below a bound, and what loops keep that ask them; and a test of two lists.
use Prim.Native.Nat.{ℕ, zero, suc, ◌+◌, ◌≤◌, ◌<◌}
use Rattle.std.proofs.Common.{le_of_suc-le-suc, not-suc-le-zero, eq-or-lt_of_le, arith, ap, ◌∙◌, sym, eqb-true, eq-eqb, ne_eqb}
use Rattle.std.proofs.Math.Nat.{lt_trans, lt-suc_self}
use Rattle.std.proofs.Math.Numerals.{add-one}
use Rattle.std.specs.Prelude.{Bool, ◌&&◌, ◌||◌, ◌↔◌, List, [], ◌∷◌, eqb}
use Rattle.std.proofs.Math.Bool.{true, false, and-false, and-eq-true_iff, not}
use Rattle.std.proofs.Math.Path.{◌≡◌, refl}
use Rattle.std.proofs.Math.Logic.{⊎_elim}
use Rattle.std.proofs.lemmas.Bool.{not-true, not-false, eqb-false}

-- ---- A test of every number below a bound, and what a loop that is left at the first failure needs of it.

-- f holds of every number below n
unfoldable pub all_below : (ℕ → Bool) → ℕ → Bool
all_below f zero = true
all_below f (suc n) = all_below f n && f n

module _ (f : ℕ → Bool) where
  -- one more that holds
  pub all_more : (n : ℕ) → all_below f n ≡ true → f n ≡ true → all_below f (n + 1) ≡ true
  unfolding all_below
  all_more n a h = rw (add-one, a) h

  last_fails : (p n : ℕ) → p ≡ n → f p ≡ false → (all_below f n && f n) ≡ false
  last_fails p n q e = rw (← q, e) (and-false (all_below f p))

  -- one that fails
  pub all_fails : (p n : ℕ) → f p ≡ false → p < n → all_below f n ≡ false
  unfolding all_below
  all_fails p zero e l = absurd (not-suc-le-zero l)
  all_fails p (suc n) e l = ⊎_elim (λ q. last_fails p n q e) (λ lt. rw (all_fails p n e lt) refl) (eq-or-lt_of_le (le_of_suc-le-suc l))

  -- each one below the bound holds
  pub all_at : (p n : ℕ) → all_below f n ≡ true → p < n → f p ≡ true
  unfolding all_below
  all_at p zero e l = absurd (not-suc-le-zero l)
  all_at p (suc n) e l =
      let h = (and-eq-true_iff (all_below f n) (f n)).0 e in
      ⊎_elim (λ q. rw q h.1) (λ lt. all_at p n h.0 lt) (eq-or-lt_of_le (le_of_suc-le-suc l))

  -- if each one holds, all do
  pub all_each : (n : ℕ) → ((p : ℕ) → p < n → f p ≡ true) → all_below f n ≡ true
  unfolding all_below
  all_each zero h = refl
  all_each (suc n) h = rw (all_each n (λ p l. h p (lt_trans l (lt-suc_self n))), h n (lt-suc_self n)) refl

  -- if not all do, one fails
  pub all_one : (n : ℕ) → all_below f n ≡ false → (p : ℕ) × (p < n) × (f p ≡ false)
  unfolding all_below
  all_one zero e = let z : ◌≡◌ {A = ℕ} 0 1 = cc in absurd (omega arith)
  all_one (suc n) e = go (all_below f n) refl (all_one n)
    where
      go : (b : Bool) → all_below f n ≡ b → (all_below f n ≡ false → (p : ℕ) × (p < n) × (f p ≡ false)) → (p : ℕ) × (p < suc n) × (f p ≡ false)
      go true q h = (n, lt-suc_self n, rw q at e)
      go false q h = let r = h q in (r.0, lt_trans r.1 (lt-suc_self n), r.2)

-- two tests that agree below the bound
pub all_same : (f g : ℕ → Bool) (n : ℕ) → ((p : ℕ) → p < n → f p ≡ g p) → all_below f n ≡ all_below g n
unfolding all_below
all_same f g zero h = refl
all_same f g (suc n) h = rw (all_same f g n (λ p l. h p (lt_trans l (lt-suc_self n))), h n (lt-suc_self n)) refl

-- ---- A test that some number below a bound passes.

-- f holds of some number below n
abbrev pub any_below : (ℕ → Bool) → ℕ → Bool
any_below f n = not (all_below (λ k. not (f k)) n)

module _ (f : ℕ → Bool) where
  pub any_start : any_below f 0 ≡ false
  unfolding all_below
  any_start = refl

  pub any_more : (n : ℕ) → any_below f (n + 1) ≡ (any_below f n || f n)
  unfolding all_below
  any_more n = rw add-one (go (all_below (λ k. not (f k)) n) (f n))
    where
      go : (a b : Bool) → not (a && not b) ≡ (not a || b)
      go true true = refl
      go true false = refl
      go false b = refl

  pub any_none : (n : ℕ) → any_below f n ≡ false → (k : ℕ) → k < n → f k ≡ false
  any_none n e k l = not-true (f k) (all_at (λ i. not (f i)) k n (not-false (all_below (λ i. not (f i)) n) e) l)

-- ---- A scan that is left at the first failure has found no failure so far.

pub all_next : (f : ℕ → Bool) (n : ℕ) → all_below f (n + 1) ≡ (all_below f n && f n)
unfolding all_below
all_next f n = rw add-one refl

pub record Scanned (f : ℕ → Bool) (n : ℕ) (ok : Bool) (p : ℕ) : Type 0 where
  pub within : p ≤ n
  pub so_far : ok ≡ true
  pub passed : all_below f p ≡ true

pub scan_start : (f : ℕ → Bool) (n : ℕ) → Scanned f n true 0
unfolding all_below
scan_start f n = record { within = omega arith; so_far = refl; passed = refl }

module _ {f : ℕ → Bool} {n : ℕ} {ok : Bool} {p : ℕ} (s : Scanned f n ok p) where
  pub scan_more : p < n → f p ≡ true → Scanned f n ok (p + 1)
  scan_more l e = record { within = omega arith; so_far = s.so_far; passed = all_more f p s.passed e }

  pub scan_done : n ≤ p → ok ≡ all_below f n
  scan_done l = let e : p ≡ n = omega (arith, s.within) in s.so_far ∙ sym (rw e at s.passed)

-- ---- Two lists of numbers that are the same, entry by entry.

unfoldable pub same_numbers : List ℕ → List ℕ → Bool
same_numbers [] [] = true
same_numbers [] (b ∷ l) = false
same_numbers (a ∷ k) [] = false
same_numbers (a ∷ k) (b ∷ l) = eqb a b && same_numbers k l

pub same_numbers_exactly : (k l : List ℕ) → (same_numbers k l ≡ true) ↔ (k ≡ l)
unfolding same_numbers
same_numbers_exactly [] [] = (λ e. refl, λ e. refl)
same_numbers_exactly [] (b ∷ l) = (λ e. let z : ◌≡◌ {A = ℕ} 0 1 = cc in absurd (omega arith), λ e. cc)
same_numbers_exactly (a ∷ k) [] = (λ e. let z : ◌≡◌ {A = ℕ} 0 1 = cc in absurd (omega arith), λ e. cc)
same_numbers_exactly (a ∷ k) (b ∷ l) = (
  λ e.
      let h = (and-eq-true_iff (eqb a b) (same_numbers k l)).0 e in
      rw (eqb-true a b h.0, (same_numbers_exactly k l).0 h.1) refl,
  λ e.
      let head : a ≡ b = cc in
      let tail : k ≡ l = cc in
      rw (eq-eqb a b head, (same_numbers_exactly k l).1 tail) refl,
)

-- lists that are not the same
pub not_same : (k l : List ℕ) → (k ≡ l → ⊥) → same_numbers k l ≡ false
not_same k l h = go (same_numbers k l) refl
  where
    go : (b : Bool) → same_numbers k l ≡ b → b ≡ false
    go true e = absurd (h ((same_numbers_exactly k l).0 e))
    go false e = refl

-- ---- Tests that say the same.

-- each gives the other
pub same_bool : (a b : Bool) → (a ≡ true → b ≡ true) → (b ≡ true → a ≡ true) → a ≡ b
same_bool true b f g = sym (f refl)
same_bool false true f g = g refl
same_bool false false f g = refl

-- numbers with one number added to both
pub eqb_shift : (T u t : ℕ) → eqb (T + u) (T + t) ≡ eqb u t
eqb_shift T u t = go (eqb u t) refl
  where
    go : (b : Bool) → eqb u t ≡ b → eqb (T + u) (T + t) ≡ b
    go true e = eq-eqb (T + u) (T + t) (ap (λ (k : ℕ). T + k) (eqb-true u t e))
    go false e = ne_eqb (T + u) (T + t) (λ q. eqb-false u t e (omega arith))
