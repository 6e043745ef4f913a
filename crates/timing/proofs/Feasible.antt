-- Whether instants meet the first n windows depends on these windows and on the instants 0..n only: a window is measured from an earlier firing.
use Prim.Native.Nat.{ℕ, suc, ◌≤◌, ◌<◌}
use mathlib.Core.Path.{◌≡◌, sym, subst, subst₂, ◌∙◌}
use mathlib.Core.Logic.{◌↔◌}
use native.Mathlib.Omega.{arith}
use Rattle.timing.specs.Timing.{Win, Within, Meets, Feasible, Wellformed}

-- what meets the windows meets the first of them
pub restrict : {D : ℕ} {W : ℕ → Win} {n : ℕ} {S : ℕ → ℕ} (m : ℕ) → m ≤ n → Feasible D W n S → Feasible D W m S
restrict m l f = record { starts = f.starts; each = λ i b. f.each i (omega arith) }

-- the same windows
pub feasible_windows : (D : ℕ) {W V' : ℕ → Win} (n : ℕ) {S : ℕ → ℕ} → ((i : ℕ) → i < n → W i ≡ V' i) → Feasible D W n S → Feasible D V' n S
feasible_windows D n {S} e f = record { starts = f.starts; each = λ i l. subst (λ (w : Win). Meets D S i w) (e i l) (f.each i l) }

module _ (D : ℕ) (W : ℕ → Win) (n : ℕ) (wf : Wellformed W n) where
  same_feasible : (S T : ℕ → ℕ) → ((i : ℕ) → i ≤ n → S i ≡ T i) → Feasible D W n S → Feasible D W n T
  same_feasible S T e f =
      record {
        starts = sym (e 0 (omega arith)) ∙ f.starts;
        each = λ i l.
            let m = f.each i l in
            let o = e (W i).origin (omega (arith, wf i l)) in
            let a = e i (omega arith) in
            let b = e (suc i) l in
            record { ordered = omega arith; early = omega arith; late = subst₂ (λ (x y : ℕ). Within D (W i).high x y) o b m.late };
      }

  -- two functions that are equal on 0..n are feasible together
  pub feasible_same : (S T : ℕ → ℕ) → ((i : ℕ) → i ≤ n → S i ≡ T i) → Feasible D W n S ↔ Feasible D W n T
  feasible_same S T e = (same_feasible S T e, same_feasible T S (λ i l. sym (e i l)))
