-- Open upper bounds: instants at any D are carried to any denominator over n. The whole part stays, and the rest becomes its rank among the rests,
-- which keeps every strict and every weak order between them. No window of a net has such a bound yet: this waits for intervals whose upper end is excluded.
use Prim.Native.Nat.{ℕ, suc, ◌+◌, ◌*◌, ◌/◌, ◌%◌, ◌≤◌, ◌<◌}
use mathlib.Core.Path.{◌≡◌, ap, ◌∙◌}
use mathlib.Core.Logic.{◌⊎◌, inl, inr, ⊎_elim}
use native.Mathlib.Nat.{div-add-mod, mod-lt, zero-mod, zero-div, mul-le-mul_left, le_refl}
use native.Mathlib.Omega.{arith}
use Rattle.laws.specs.Sums.{le_or_lt, sum, sum_le, sum_zero, sum_not_all, sum_less, less, less_le, less_none, less_one, less_mono}
use Rattle.timing.specs.Timing.{Upper, at_most, below, unbounded, Win, Within, Feasible, Wellformed}

module _ (D : ℕ) (d : 0 < D) (S : ℕ → ℕ) (n : ℕ) where
  -- how many of the instants 0..n have a smaller rest than r
  rank : ℕ → ℕ
  rank r = sum (λ j. less (S j % D) r) n

  rank_le : (u : ℕ) → u ≤ n → rank (S u % D) ≤ n
  unfolding rank
  rank_le u l = sum_not_all (λ j. less (S j % D) (S u % D)) n u l (less_none (S u % D) (S u % D) (le_refl _)) (λ j. less_le (S j % D) (S u % D))

  rank_zero : rank 0 ≡ 0
  unfolding rank
  rank_zero = sum_zero (λ j. less (S j % D) 0) (λ j. less_none (S j % D) 0 (omega arith)) n

  rank_mono : (r s : ℕ) → r ≤ s → rank r ≤ rank s
  unfolding rank
  rank_mono r s h = sum_le (λ j. less (S j % D) r) (λ j. less (S j % D) s) n (λ j l. less_mono (S j % D) r s h)

  rank_less : (u s : ℕ) → u ≤ n → S u % D < s → rank (S u % D) < rank s
  unfolding rank
  rank_less u s l h =
      sum_less (λ j. less (S j % D) (S u % D)) (λ j. less (S j % D) s) n u l
      (λ j. less_mono (S j % D) (S u % D) s (omega arith))
      (omega (arith, less_none (S u % D) (S u % D) (le_refl _), less_one (S u % D) s h))

  module _ (N : ℕ) (big : n < N) where
    pub ranked : ℕ → ℕ
    ranked k = N * (S k / D) + rank (S k % D)

    -- the constraint x + D·p + t ≤ y + D·q, on whole parts and rests
    compared : (u v p q t : ℕ) → S u + D * p + t ≤ S v + D * q
        → (S u / D + p < S v / D + q) ⊎ ((S u / D + p ≡ S v / D + q) × (S u % D + t ≤ S v % D))
    compared u v p q t h =
        let du = div-add-mod (S u) D in
        let dv = div-add-mod (S v) D in
        let lv = mod-lt (S v) d in
        ⊎_elim
        (λ (l : suc (S u / D + p) ≤ S v / D + q). inl l)
        (λ (l : S v / D + q < suc (S u / D + p)).
        let e : S u / D + p ≡ S v / D + q =
        ⊎_elim (λ (m : suc (S v / D + q) ≤ S u / D + p). absurd (omega (arith, mul-le-mul_left D m))) (λ m. omega arith)
        (le_or_lt (suc (S v / D + q)) (S u / D + p)) in
        inr (e, omega (arith, ap (λ (k : ℕ). D * k) e)))
        (le_or_lt (suc (S u / D + p)) (S v / D + q))

    apart : (u v p q : ℕ) → u ≤ n → S u / D + p < S v / D + q → ranked u + N * p < ranked v + N * q
    unfolding ranked
    apart u v p q l h = omega (arith, mul-le-mul_left N h, rank_le u l)

    ranked_le : (u v p q : ℕ) → u ≤ n → S u + D * p ≤ S v + D * q → ranked u + N * p ≤ ranked v + N * q
    unfolding ranked
    ranked_le u v p q l h =
        ⊎_elim
        (λ c. omega (arith, apart u v p q l c))
        (λ c. omega (arith, ap (λ (k : ℕ). N * k) c.0, rank_mono (S u % D) (S v % D) (omega arith)))
        (compared u v p q 0 (omega arith))

    ranked_lt : (u v p q : ℕ) → u ≤ n → S u + D * p < S v + D * q → ranked u + N * p < ranked v + N * q
    unfolding ranked
    ranked_lt u v p q l h =
        ⊎_elim
        (λ c. apart u v p q l c)
        (λ c. omega (arith, ap (λ (k : ℕ). N * k) c.0, rank_less u (S v % D) l (omega arith)))
        (compared u v p q 1 (omega arith))

    ranked_within : (u : Upper) (o k : ℕ) → k ≤ n → Within D u (S o) (S k) → Within N u (ranked o) (ranked k)
    ranked_within (at_most b) o k l h = omega (arith, ranked_le k o 0 b l (omega arith))
    ranked_within (below b) o k l h = omega (arith, ranked_lt k o 0 b l (omega arith))
    ranked_within unbounded o k l h = tt

    ranked_zero : S 0 ≡ 0 → ranked 0 ≡ 0
    unfolding ranked
    ranked_zero z =
        let q : S 0 / D ≡ 0 = ap (λ (k : ℕ). k / D) z ∙ zero-div D in
        let r : S 0 % D ≡ 0 = ap (λ (k : ℕ). k % D) z ∙ zero-mod D in
        rw (q, r) (omega (arith, rank_zero))

    pub rank_feasible : (W : ℕ → Win) → Wellformed W n → Feasible D W n S → Feasible N W n ranked
    rank_feasible W wf f =
        record {
          starts = ranked_zero f.starts;
          each = λ i h.
              let m = f.each i h in
              let o = wf i h in
              record {
                ordered = omega (arith, ranked_le i (suc i) 0 0 (omega arith) (omega arith));
                early = omega (arith, ranked_le (W i).origin (suc i) (W i).low 0 (omega arith) (omega arith));
                late = ranked_within (W i).high (W i).origin (suc i) h m.late;
              };
        }
