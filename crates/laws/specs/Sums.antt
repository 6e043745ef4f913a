-- Sums of the first terms of a function, and sums that count.
use Rattle.std.specs.Prelude.{ℕ, zero, suc, ◌+◌, ◌-◌, ◌≤◌, ◌<◌, min, ◌≡◌, refl, ◌⊎◌}
use Rattle.std.proofs.Math.Path.{subst⁻¹}
use Rattle.std.proofs.Math.Logic.{inl, inr, ⊎_elim}
use Rattle.std.proofs.Math.Nat.{le-suc_iff}
use Rattle.std.proofs.Common.{le_refl}
use Rattle.std.proofs.Math.Decide.{dec_le}
use native.Mathlib.Omega.{arith}

pub le_or_lt : (m n : ℕ) → (m ≤ n) ⊎ (n < m)
le_or_lt m n = elim (dec_le m n) [ yes h ↦ inl h | no h ↦ inr (omega arith) ]

abbrev pub sum : (ℕ → ℕ) → ℕ → ℕ
sum f zero = f 0
sum f (suc n) = sum f n + f (suc n)

module _ (f g : ℕ → ℕ) where
  pub sum_le : (n : ℕ) → ((i : ℕ) → i ≤ n → f i ≤ g i) → sum f n ≤ sum g n
  sum_le zero h = h 0 (omega arith)
  sum_le (suc n) h = let k = sum_le n (λ i l. h i (omega arith)) in omega (arith, h (suc n) (omega arith))

  -- a term by term bound between equal sums is an equation term by term
  pub sum_same : (n : ℕ) → ((i : ℕ) → i ≤ n → f i ≤ g i) → sum g n ≤ sum f n → (i : ℕ) → i ≤ n → f i ≡ g i
  sum_same zero h s i l = let e : i ≡ 0 = omega arith in subst⁻¹ (λ (k : ℕ). f k ≡ g k) e (omega (arith, h 0 (omega arith)))
  sum_same (suc n) h s i l =
      let earlier : (k : ℕ) → k ≤ n → f k ≤ g k = λ k b. h k (omega arith) in
      let last = h (suc n) (omega arith) in
      let small = sum_le n earlier in
      ⊎_elim
      (λ b. sum_same n earlier (omega arith) i b)
      (λ e. subst⁻¹ (λ (k : ℕ). f k ≡ g k) e (omega arith))
      (le-suc_iff.0 l)

pub sum_term : (f : ℕ → ℕ) (n i : ℕ) → i ≤ n → f i ≤ sum f n
sum_term f zero i l = let e : i ≡ 0 = omega arith in subst⁻¹ (λ (k : ℕ). f k ≤ f 0) e (le_refl (f 0))
sum_term f (suc n) i l =
    ⊎_elim
    (λ b. let h = sum_term f n i b in omega arith)
    (λ e. subst⁻¹ (λ (k : ℕ). f k ≤ sum f n + f (suc n)) e (omega arith))
    (le-suc_iff.0 l)

pub sum_zero : (f : ℕ → ℕ) → ((i : ℕ) → f i ≡ 0) → (n : ℕ) → sum f n ≡ 0
sum_zero f h zero = h 0
sum_zero f h (suc n) = let k = sum_zero f h n in omega (arith, h (suc n))

sum_ones : (n : ℕ) → sum (λ i. 1) n ≡ suc n
sum_ones zero = refl
sum_ones (suc n) = let k = sum_ones n in omega arith

-- terms that are at most those of g, and at one place less
pub sum_less : (f g : ℕ → ℕ) (n u : ℕ) → u ≤ n → ((i : ℕ) → f i ≤ g i) → f u < g u → sum f n < sum g n
sum_less f g n u l h s =
    ⊎_elim
    (λ b. absurd (omega (arith, sum_same f g n (λ i k. h i) b u l)))
    (λ b. b)
    (le_or_lt (sum g n) (sum f n))

-- terms of 0 and 1, one of them 0, do not come to suc n
pub sum_not_all : (f : ℕ → ℕ) (n u : ℕ) → u ≤ n → f u ≡ 0 → ((i : ℕ) → f i ≤ 1) → sum f n ≤ n
sum_not_all f n u l z h = omega (arith, sum_less f (λ i. 1) n u l h (omega arith), sum_ones n)

-- 1 where r < s, and 0 elsewhere
pub less : ℕ → ℕ → ℕ
less r s = min 1 (s - r)

module _ (r s : ℕ) where
  pub less_cases : ((less r s ≡ 0) × (s ≤ r)) ⊎ ((less r s ≡ 1) × (r < s))
  unfolding less
  less_cases = ⊎_elim (λ h. inl (omega arith)) (λ h. inr (omega arith)) (le_or_lt s r)

  pub less_le : less r s ≤ 1
  unfolding less
  less_le = omega arith

  pub less_none : s ≤ r → less r s ≡ 0
  unfolding less
  less_none h = omega arith

  pub less_one : r < s → less r s ≡ 1
  unfolding less
  less_one h = omega arith

  pub none_less : less r s ≡ 0 → s ≤ r
  unfolding less
  none_less h = omega arith

pub less_mono : (r s t : ℕ) → s ≤ t → less r s ≤ less r t
unfolding less
less_mono r s t h = omega arith

pub less_anti : (r s t : ℕ) → r ≤ t → less t s ≤ less r s
unfolding less
less_anti r s t h = omega arith
