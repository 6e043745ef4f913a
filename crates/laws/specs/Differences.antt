-- The difference of two numbers as an integer: its value, what it says of them, and that it is a signed number of the machine where both are small.
use Rattle.std.specs.Prelude.{ℕ, zero, suc, ◌+◌, ◌-◌, ◌^◌, ◌≤◌, ◌<◌, ◌≡◌, refl, ◌↔◌, ℤ, pos, negsuc, neg_ℤ, ◌+ℤ◌, ◌-ℤ◌}
use Rattle.std.proofs.Common.{lt_trans, arith, ap, subst, ◌∙◌, to_z-of_z, lt-ltb, le-ltb}
use Rattle.std.proofs.Math.Decide.{dec_lt}
use Rattle.std.proofs.Math.Path.{subst⁻¹}
use Rattle.std.proofs.Math.IntN.{neg_ℤ-neg_ℤ, neg_ℤ-+ℤ, +ℤ_comm}
use Rattle.std.specs.Int.Signed.{mag}
use Rattle.std.specs.Int.{Width}
use mir.Val.{SFits, to_z, of_z, hbits}
use Rattle.std.proofs.Math.Facts.{to_z_pos}

-- ---- its value
pub difference_less : (a b : ℕ) → a < b → pos a -ℤ pos b ≡ negsuc (b - suc a)
difference_less a zero l = absurd (omega arith)
difference_less a (suc b) l = rw (lt-ltb a (suc b) l) refl

pub difference_more : (a b : ℕ) → b ≤ a → pos a -ℤ pos b ≡ pos (a - b)
difference_more a zero l = ap pos (omega arith)
difference_more a (suc b) l = rw (le-ltb a (suc b) l) refl

-- ---- what it says
-- of two numbers whose difference it is
abbrev Compares : ℕ → ℕ → ℤ → Type 0
Compares a b (pos zero) = a ≡ b
Compares a b (pos (suc n)) = b < a
Compares a b (negsuc n) = a < b

-- a is b and k more
compares_rest : (a b k : ℕ) → a ≡ b + k → Compares a b (pos k)
compares_rest a b zero e = omega arith
compares_rest a b (suc k) e = omega arith

module _ (a b : ℕ) where
  compares : Compares a b (pos a -ℤ pos b)
  compares = go (dec_lt a b)
    where
      go : Dec (a < b) → Compares a b (pos a -ℤ pos b)
      go (yes l) = subst⁻¹ (Compares a b) (difference_less a b l) l
      go (no l) = subst⁻¹ (Compares a b) (difference_more a b (omega arith)) (compares_rest a b (a - b) (omega arith))

  -- it is 0, negative or positive exactly as the numbers compare, and negated the other way round
  pub same_exactly : (pos a -ℤ pos b ≡ pos 0) ↔ (a ≡ b)
  same_exactly = (
    λ e. subst (Compares a b) e compares,
    λ e. let none : a - b ≡ 0 = omega arith in difference_more a b (omega arith) ∙ ap pos none,
  )

  pub less_exactly : ((n : ℕ) × (pos a -ℤ pos b ≡ negsuc n)) ↔ (a < b)
  less_exactly = (λ e. subst (Compares a b) e.1 compares, λ l. (b - suc a, difference_less a b l))

  pub more_exactly : ((n : ℕ) × (pos a -ℤ pos b ≡ pos (suc n))) ↔ (b < a)
  more_exactly = (
    λ e. subst (Compares a b) e.1 compares,
    λ l. let some : a - b ≡ suc (a - suc b) = omega arith in (a - suc b, difference_more a b (omega arith) ∙ ap pos some),
  )

  pub difference_negated : neg_ℤ (pos a -ℤ pos b) ≡ pos b -ℤ pos a
  difference_negated =
      neg_ℤ-+ℤ (pos a) (neg_ℤ (pos b))
      ∙ ap (λ (z : ℤ). neg_ℤ (pos a) +ℤ z) (neg_ℤ-neg_ℤ (pos b))
      ∙ +ℤ_comm (neg_ℤ (pos a)) (pos b)

  -- ---- how large it is
  pub difference_small : (n : ℕ) → a < n → b < n → mag (pos a -ℤ pos b) < n
  difference_small n h k = go (dec_lt a b)
    where
      go : Dec (a < b) → mag (pos a -ℤ pos b) < n
      go (yes l) = rw (difference_less a b l) (omega arith)
      go (no l) = rw (difference_more a b (omega arith)) (omega arith)

-- of two numbers below one that fits it fits, and is read as it is
module _ (w : Width) {n : ℕ} (s : n < 2 ^ hbits w) {a b : ℕ} (h : a < n) (k : b < n) where
  read_exactly : {m : ℕ} → m < n → to_z w m ≡ pos m
  read_exactly l = to_z_pos w (lt_trans l s)

  pub difference_fits : SFits w (to_z w a -ℤ to_z w b)
  difference_fits = rw (read_exactly h, read_exactly k) (record { sfits = lt_trans (difference_small a b n h k) s })

  pub difference_told : to_z w (of_z w (to_z w a -ℤ to_z w b)) ≡ pos a -ℤ pos b
  difference_told = to_z-of_z difference_fits ∙ rw (read_exactly h, read_exactly k) refl
