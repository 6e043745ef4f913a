-- Where instants S meet the windows, so do the instants that are lowered, as far as x allows, until the last is that of x: every difference that only
-- shrinks still meets an upper bound, and what x holds meets the others. So the least instants leave the last firing where it entered.
use Prim.Native.Nat.{ℕ, suc, ◌-◌, ◌≤◌, ◌<◌, max}
use mathlib.Core.Path.{◌≡◌, subst⁻¹}
use mathlib.Core.List.{List}
use mathlib.Core.Logic.{⊎_elim}
use native.Mathlib.Omega.{arith}
use Rattle.laws.specs.Sums.{le_or_lt}
use Rattle.timing.specs.Timing.{Upper, at_most, below, unbounded, Win, Within, Meets, Feasible, Under}
use Rattle.timing.specs.Solve.{instant_at}
use Rattle.sweep.specs.Sweeps.{Entered, Unmet}
use Rattle.sweep.proofs.Raising.{asked_within}

-- an upper bound that both a, b and s, t meet
both_within : (u : Upper) (d a b s t : ℕ) → Within 1 u a b → Within 1 u s t → Within 1 u (max a (s - d)) (max b (t - d))
both_within (at_most c) d a b s t h l = omega arith
both_within (below c) d a b s t h l = omega arith
both_within unbounded d a b s t h l = tt

-- an upper bound that s, t meet, lowered until t is b
last_within : (u : Upper) (a b s t : ℕ) → b ≤ t → Within 1 u s t → Within 1 u (max a (s - (t - b))) (max b (t - (t - b)))
last_within (at_most c) a b s t h l = omega arith
last_within (below c) a b s t h l = omega arith
last_within unbounded a b s t h l = tt

module _ (W : ℕ → Win) (k : ℕ) (x : List ℕ) (e : Entered W k x) where
  module _ (S : ℕ → ℕ) (f : Feasible 1 W k S) where
    levelled : ℕ → ℕ
    levelled j = max (instant_at x j) (S j - (S k - instant_at x k))

    level_late : (i : ℕ) → i < k → Within 1 (W i).high (levelled (W i).origin) (levelled (suc i))
    unfolding levelled
    level_late i l =
        let o = (W i).origin in
        ⊎_elim
        (λ h.
        both_within (W i).high (S k - instant_at x k) (instant_at x o) (instant_at x (suc i)) (S o) (S (suc i))
        ((asked_within (W i).high (instant_at x o) (instant_at x (suc i))).0 (e.reaches i h)) (f.each i l).late)
        (λ h.
        let q : k ≡ suc i = omega arith in
        subst⁻¹ (λ (n : ℕ). Within 1 (W i).high (max (instant_at x o) (S o - (S n - instant_at x n)))
        (max (instant_at x (suc i)) (S (suc i) - (S n - instant_at x n)))) q
        (last_within (W i).high (instant_at x o) (instant_at x (suc i)) (S o) (S (suc i)) (e.under S f.each (suc i)) (f.each i l).late))
        (le_or_lt (suc (suc i)) k)

    level_meets : (i : ℕ) → i < k → Meets 1 levelled i (W i)
    unfolding levelled
    level_meets i l =
        let g = e.follows i l in
        let m = f.each i l in
        record { ordered = omega arith; early = omega arith; late = level_late i l }

    level_last : levelled k ≡ instant_at x k
    unfolding levelled
    level_last = omega (arith, e.under S f.each k)

  module _ (y : List ℕ) (under : (S : ℕ → ℕ) → ((j : ℕ) → j < k → Meets 1 S j (W j)) → Under (instant_at y) S) where
    -- instants below all that meet the windows do not pass the last of x
    pub above_unmet : instant_at x k < instant_at y k → Unmet W k
    above_unmet h S f = omega (arith, under (levelled S f) (level_meets S f) k, level_last S f)

    pub started_unmet : 0 < instant_at y 0 → Unmet W k
    started_unmet h S f = omega (arith, under S f.each 0, f.starts)
