-- A number is written from its highest digit down. Each digit is how often its power of ten is subtracted, and what is left has the digits behind it.
use Prim.Native.Nat.{ℕ, suc, ◌+◌, ◌-◌, ◌*◌, ◌^◌, ◌≤◌, ◌<◌}
use native.Mathlib.Nat.{lt_of_mul-lt-mul_right, add-mul, one-mul, pow-suc}
use native.Mathlib.Omega.{arith}
use mathlib.Core.List.{List, [], ◌∷◌, ◌++◌, append_assoc}
use mathlib.Core.Logic.{◌⊎◌, inl, inr}
use mathlib.Core.Path.{◌≡◌, refl, ap, ◌∙◌}
use Rattle.text.specs.declared.Writer.{Writer}
use Rattle.text.specs.Writer.{Writes}
use Rattle.text.specs.Decimal.{digits, width, decimal}
use Rattle.text.proofs.Writing.{writes_none, writes_then}
use Rattle.text.proofs.DecimalLaws.{Width, width_unique, width_right, width_most, decimal_wide, digits_first, digits_one}

-- ---- A power p that was subtracted d times from v, where `left` is left.

-- of a number below ten powers d is a digit
pub times_digit : (v p d left : ℕ) → v ≡ d * p + left → v < 10 * p → d < 10
times_digit v p d left e h = lt_of_mul-lt-mul_right p (omega arith)

pub times_more : (v p d left : ℕ) → v ≡ d * p + left → p ≤ left → v ≡ (d + 1) * p + (left - p)
times_more v p d left e h = omega (arith, add-mul d 1 p, one-mul p)

-- a number of k + 1 digits is below ten times the k-th power
pub below_ten : (v k p : ℕ) → p ≡ 10 ^ k → v < 10 ^ suc k → v < 10 * p
below_ten v k p e h = omega (arith, pow-suc 10 k)

-- ---- The highest digit.

pub highest_width : (n k : ℕ) → n < 10 ^ 20 → (k ≡ 0) ⊎ (10 ^ k ≤ n) → n < 10 ^ suc k → suc k ≡ width 19 n
highest_width n k s l h = width_unique n (suc k) (width 19 n) (record { enough = h; one = omega arith; least = go l }) (width_right 19 n s)
  where
    less : suc k - 1 ≡ k
    less = omega arith

    go : (k ≡ 0) ⊎ (10 ^ k ≤ n) → (suc k ≡ 1) ⊎ (10 ^ (suc k - 1) ≤ n)
    go (inl e) = inl (ap suc e)
    go (inr m) = inr (rw less m)

-- ---- Numbers of two and of three digits, by what `subtract` promises.

digits_two : (v d left : ℕ) → (v ≡ d * 10 + left) × (left < 10) → digits 2 v ≡ (48 + d) ∷ (48 + left) ∷ []
digits_two v d left e = digits_first 1 v d left e.0 e.1 ∙ ap (λ (t : List ℕ). (48 + d) ∷ t) (digits_one left)

pub decimal_two : (n d left : ℕ) → (10 ≤ n) × (n < 100) → (n ≡ d * 10 + left) × (left < 10) → decimal n ≡ (48 + d) ∷ (48 + left) ∷ []
decimal_two n d left h e =
    decimal_wide n 2 (record { enough = h.1; one = omega arith; least = inr h.0 }) (omega (arith, h.1)) ∙ digits_two n d left e

pub decimal_three : (n c low d left : ℕ) →
    (100 ≤ n) × (n < 1000) →
    (n ≡ c * 100 + low) × (low < 100) →
    (low ≡ d * 10 + left) × (left < 10) →
    decimal n ≡ (48 + c) ∷ (48 + d) ∷ (48 + left) ∷ []
decimal_three n c low d left h e e' =
    decimal_wide n 3 (record { enough = h.1; one = omega arith; least = inr h.0 }) (omega (arith, h.1))
    ∙ digits_first 2 n c low e.0 e.1
    ∙ ap (λ (t : List ℕ). (48 + c) ∷ t) (digits_two low d left e')

-- ---- The state of a writer: it has put the digits of n that stand before the last k + 1, and those are the digits of `left`.

pub record WritesDigits (n : ℕ) (start now : Writer) (left k : ℕ) : Type 0 where
  pub before : List ℕ
  pub all : decimal n ≡ before ++ digits (suc k) left
  pub few : k ≤ 19
  pub small : left < 10 ^ suc k
  pub writes : Writes start before now

pub digits_start : (n : ℕ) (w : Writer) (k : ℕ) → n < 10 ^ 20 → suc k ≡ width 19 n → WritesDigits n w w n k
digits_start n w k h e =
    let wide : Width n (suc k) = rw e (width_right 19 n h) in
    record {
      before = [];
      all = decimal_wide n (suc k) wide h;
      few = omega (arith, width_most 19 n);
      small = wide.enough;
      writes = writes_none w;
    }

module _ {n : ℕ} {start now : Writer} {left k : ℕ} (w : WritesDigits n start now left k) where
  -- one digit more
  pub digits_more : (d rest : ℕ) {after : Writer} →
      0 < k → left ≡ d * 10 ^ k + rest → rest < 10 ^ k → Writes now ((48 + d) ∷ []) after → WritesDigits n start after rest (k - 1)
  digits_more d rest h e l p =
      let same : suc (k - 1) ≡ k = omega arith in
      record {
        before = w.before ++ ((48 + d) ∷ []);
        all = w.all ∙ rw (digits_first k left d rest e l, same, append_assoc) refl;
        few = omega (arith, w.few);
        small = rw same l;
        writes = writes_then w.writes p;
      }

  -- a single digit is left at the end
  pub digits_last : k ≤ 0 → left < 10
  digits_last h = let none : k ≡ 0 = omega arith in rw none at w.small

  pub digits_done : {after : Writer} → k ≤ 0 → Writes now ((48 + left) ∷ []) after → Writes start (decimal n) after
  digits_done h p =
      let none : k ≡ 0 = omega arith in
      rw (w.all, none, digits_one left) (writes_then w.writes p)
