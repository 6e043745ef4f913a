-- Rounding: instants in parts of which D make a tick may be cut down to whole ticks, since x + D·a ≤ y gives x/D + a ≤ y/D, and so for upper bounds.
-- Scaling: whole units are instants at any D.
use Prim.Native.Nat.{ℕ, ◌*◌, ◌/◌, ◌<◌}
use mathlib.Core.Path.{ap, ◌∙◌}
use native.Mathlib.Nat.{zero-div, mul-zero, mul-le-mul_left}
use native.Mathlib.Omega.{arith}
use Rattle.laws.specs.Division.{div_le, div_add_le, div_le_add}
use Rattle.timing.specs.Timing.{Upper, at_most, below, unbounded, Win, Within, Meets, Feasible, Closed, AllClosed}

module _ (D : ℕ) (d : 0 < D) where
  round_within : (x y : ℕ) (u : Upper) → Closed u → Within D u x y → Within 1 u (x / D) (y / D)
  round_within x y (at_most b) c h = let k = div_le_add D d x b h in omega arith
  round_within x y (below b) c h = absurd c
  round_within x y unbounded c h = tt

  round_meets : {S : ℕ → ℕ} {i : ℕ} {w : Win} → Closed w.high → Meets D S i w → Meets 1 (λ k. S k / D) i w
  round_meets {S} {i} {w} c m =
      let k = div_add_le D d (S w.origin) w.low m.early in
      record { ordered = div_le D d m.ordered; early = omega arith; late = round_within _ _ w.high c m.late }

  pub round : {W : ℕ → Win} {n : ℕ} {S : ℕ → ℕ} → AllClosed W n → Feasible D W n S → Feasible 1 W n (λ k. S k / D)
  round c f = record { starts = ap (λ (x : ℕ). x / D) f.starts ∙ zero-div D; each = λ i h. round_meets (c i h) (f.each i h) }

  scale_within : (x y : ℕ) (u : Upper) → Within 1 u x y → Within D u (D * x) (D * y)
  scale_within x y (at_most b) h = let k = mul-le-mul_left D h in omega arith
  scale_within x y (below b) h = let k = mul-le-mul_left D h in omega arith
  scale_within x y unbounded h = tt

  scale_meets : {S : ℕ → ℕ} {i : ℕ} {w : Win} → Meets 1 S i w → Meets D (λ k. D * S k) i w
  scale_meets {S} {i} {w} m =
      let k = mul-le-mul_left D m.early in
      record { ordered = mul-le-mul_left D m.ordered; early = omega arith; late = scale_within _ _ w.high m.late }

  pub scale : {W : ℕ → Win} {n : ℕ} {S : ℕ → ℕ} → Feasible 1 W n S → Feasible D W n (λ k. D * S k)
  scale f = record { starts = ap (λ (x : ℕ). D * x) f.starts ∙ mul-zero D; each = λ i h. scale_meets (f.each i h) }
