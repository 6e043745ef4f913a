-- Whole parts: what is known of numbers of parts, and what is known of their whole parts.
use Rattle.std.specs.Prelude.{ℕ, ◌+◌, ◌*◌, ◌/◌, ◌≤◌, ◌<◌, ◌-◌, ◌≡◌}
use Rattle.std.proofs.Common.{le_trans, le-div_iff_mul-le, div-mul-le_self, mod-lt, mul-le-mul_right, mul-add, arith, ap, ◌∙◌}
use Rattle.std.proofs.Math.Nat.{add-mul-div_left, div-add-mod}

-- ---- The whole part of x / D grows with x, and a multiple of D passes through it: what is known of parts is known of their whole parts.

module _ (D : ℕ) (d : 0 < D) where
  pub div_le : {x y : ℕ} → x ≤ y → x / D ≤ y / D
  div_le {x} h = (le-div_iff_mul-le d).1 (le_trans (div-mul-le_self x D) h)

  pub div_add_le : (x a : ℕ) {y : ℕ} → x + D * a ≤ y → x / D + a ≤ y / D
  div_add_le x a h = rw (← add-mul-div_left x a d) (div_le h)

  pub div_le_add : (x b : ℕ) {y : ℕ} → y ≤ x + D * b → y / D ≤ x / D + b
  div_le_add x b h = rw (← add-mul-div_left x b d) (div_le h)

-- ---- The whole part of a number of parts is less than one unit below it, so the difference of two whole parts is less than one unit off the
-- difference.

module _ (D : ℕ) (d : 0 < D) where
  -- whole parts are no further apart than the numbers
  pub div_sum_le : (x w : ℕ) → (x + w) / D ≤ x / D + w
  div_sum_le x w = let more : 1 * w ≤ D * w = mul-le-mul_right w d in div_le_add D d x w (omega arith)

  pub whole_near : (x : ℕ) → (D * (x / D) ≤ x) × (x < D * (x / D) + D)
  whole_near x = (omega (arith, div-add-mod x D), omega (arith, div-add-mod x D, mod-lt x d))

  pub difference_near : (x y : ℕ) → x ≤ y → (D * (y / D - x / D) < y - x + D) × (y - x < D * (y / D - x / D) + D)
  difference_near x y h =
      let k = y / D - x / D in
      let up : x / D ≤ y / D = div_le D d h in
      let split : y / D ≡ x / D + k = omega arith in
      let apart : D * (y / D) ≡ D * (x / D) + D * k = ap (λ (n : ℕ). D * n) split ∙ mul-add D (x / D) k in
      let a = whole_near x in
      let b = whole_near y in
      (omega arith, omega arith)
