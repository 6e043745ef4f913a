-- A wait may be cut down to K where no lower bound is over K: between two firings either no wait was cut, or K is left. So the least instants are at
-- most K·i.
use Prim.Native.Nat.{ℕ, zero, suc, ◌+◌, ◌*◌, ◌-◌, ◌≤◌, ◌<◌}
use mathlib.Core.Path.{refl}
use mathlib.Core.Logic.{◌⊎◌, inl, inr, ⊎_elim}
use native.Mathlib.Decide.{le_ind}
use native.Mathlib.Omega.{arith}
use Rattle.laws.specs.Sums.{le_or_lt}
use Rattle.timing.specs.Timing.{Upper, at_most, below, unbounded, Win, Within, Meets, Feasible, LowsLe, Wellformed, capped}

-- from instant j to instant i: no time goes back, none is gained, and none is lost unless K is left
record Gap (K : ℕ) (S : ℕ → ℕ) (j i : ℕ) : Type 0 where
  up : capped K S j ≤ capped K S i
  shrinks : capped K S i + S j ≤ capped K S j + S i
  keeps : (capped K S j + S i ≤ capped K S i + S j) ⊎ (capped K S j + K ≤ capped K S i)

module _ (K : ℕ) (S : ℕ → ℕ) where
  gap_step : (j i : ℕ) → S i ≤ S (suc i) → Gap K S j i → Gap K S j (suc i)
  gap_step j i o g =
      record {
        up = omega arith;
        shrinks = omega arith;
        keeps =
            ⊎_elim
            (λ (e : capped K S j + S i ≤ capped K S i + S j). ⊎_elim (λ l. inl (omega arith)) (λ l. inr (omega arith)) (le_or_lt (S (suc i) - S i) K))
            (λ l. inr (omega arith))
            g.keeps;
      }

  gap : (j i : ℕ) → ((k : ℕ) → k < i → S k ≤ S (suc k)) → j ≤ i → Gap K S j i
  gap j i o h =
      le_ind (λ m. ((k : ℕ) → k < m → S k ≤ S (suc k)) → Gap K S j m)
      (λ f. record { up = omega arith; shrinks = omega arith; keeps = inl (omega arith) })
      (λ m l g f. gap_step j m (f m (omega arith)) (g (λ k b. f k (omega arith))))
      i h o

  pub capped_le : (i : ℕ) → capped K S i ≤ K * i
  capped_le zero = omega arith
  capped_le (suc i) = let h = capped_le i in omega arith

  cap_within : (D j i : ℕ) (u : Upper) → Gap K S j i → Within D u (S j) (S i) → Within D u (capped K S j) (capped K S i)
  cap_within D j i (at_most b) g h = omega arith
  cap_within D j i (below b) g h = omega arith
  cap_within D j i unbounded g h = tt

  module _ (D : ℕ) (W : ℕ → Win) (n : ℕ) (wf : Wellformed W n) (le : LowsLe K D W n) (f : Feasible D W n S) where
    cap_meets : (i : ℕ) → i < n → Meets D (capped K S) i (W i)
    cap_meets i h =
        let w = W i in
        let g = gap w.origin (suc i) (λ k b. (f.each k (omega arith)).ordered) (omega (arith, wf i h)) in
        record {
          ordered = omega arith;
          early = ⊎_elim (λ e. omega (arith, (f.each i h).early)) (λ e. omega (arith, le i h)) g.keeps;
          late = cap_within D w.origin (suc i) w.high g (f.each i h).late;
        }

    pub cap : Feasible D W n (capped K S)
    cap = record { starts = refl; each = cap_meets }
