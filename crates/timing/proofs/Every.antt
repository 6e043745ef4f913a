-- One denominator decides for all: 1 where every window is closed, and any over n where some are open.
use Prim.Native.Nat.{ℕ, ◌*◌, ◌/◌, ◌≤◌, ◌<◌}
use mathlib.Core.Logic.{◌↔◌}
use mathlib.Core.List.{List}
use mathlib.Core.Option.{none}
use native.Mathlib.Nat.{le_trans, mul-le-mul_left, mul-div-le}
use native.Mathlib.Omega.{arith}
use Rattle.timing.specs.Timing.{Win, Feasible, Wellformed, AllClosed}
use Rattle.timing.specs.Solve.{instant_at}
use Rattle.timing.specs.Claims.{Possible, LeastInstants, Answers, FirstFail}
use Rattle.timing.proofs.Scale.{round, scale}
use Rattle.timing.proofs.Strict.{ranked, rank_feasible}

module _ (W : ℕ → Win) (n : ℕ) where
  module _ (c : AllClosed W n) where
    pub closed_iff : (D : ℕ) → 0 < D → Possible 1 W n ↔ Possible D W n
    closed_iff D d = (λ p. (_, scale D d p.1), λ p. (_, round D d c p.1))

    pub least_every : (x : List ℕ) → LeastInstants 1 W n x → (D : ℕ) → 0 < D → (S : ℕ → ℕ) → Feasible D W n S → (i : ℕ) → D * instant_at x i ≤ S i
    least_every x l D d S f i = le_trans (mul-le-mul_left D (l.least (λ k. S k / D) (round D d c f) i)) (mul-div-le (S i) D)

    pub first_every : (k : ℕ) → FirstFail 1 W n k → (D : ℕ) → 0 < D → (S : ℕ → ℕ) → Feasible D W k S → ⊥
    first_every k r D d S f = r.fails_at_lem (λ j. S j / D) (round D d (λ i l. c i (omega (arith, r.reached))) f)

  -- for intervals whose upper end is excluded, which no net has yet
  module _ (wf : Wellformed W n) (N : ℕ) (big : n < N) where
    pub open_possible : (D : ℕ) → 0 < D → Possible D W n → Possible N W n
    open_possible D d p = (ranked D d p.0 n N big, rank_feasible D d p.0 n N big W wf p.1)

    pub open_none_every : Answers N W n none → (D : ℕ) → 0 < D → (S : ℕ → ℕ) → Feasible D W n S → ⊥
    open_none_every a D d S f = a (ranked D d S n N big) (rank_feasible D d S n N big W wf f)

    pub open_first_every : (k : ℕ) → FirstFail N W n k → (D : ℕ) → 0 < D → (S : ℕ → ℕ) → Feasible D W k S → ⊥
    open_first_every k r D d S f =
        let l = r.reached in
        let b : k < N = omega arith in
        r.fails_at_lem (ranked D d S k N b) (rank_feasible D d S k N b W (λ i h. wf i (omega arith)) f)
