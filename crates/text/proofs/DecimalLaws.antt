-- How many digits a number has: the one width that is enough for it while no smaller one is. The highest digit is how often its power of ten is in
-- the number, and the others are the digits of what is left.
use Prim.Native.Nat.{ℕ, zero, suc, ◌+◌, ◌-◌, ◌*◌, ◌%◌, ◌^◌, ◌≤◌, ◌<◌}
use native.Mathlib.Nat.{pow-le-pow_right, one-le-pow, le_antisymm, div-one}
use native.Mathlib.Omega.{arith}
use mathlib.Core.Bool.{Bool, true, false, cond}
use mathlib.Core.Logic.{◌⊎◌, inl, inr}
use mathlib.Core.Path.{◌≡◌, refl, ap, ◌∙◌}
use mathlib.Core.List.{[], ◌∷◌}
use lib.ListN.{length, length-append}
use lib.Arith.{digits_div, digits_mod}
use lib.Dec.{leb, lit<, lit≤}
use borrow.Author.Tests.{leb-true, leb-false}
use Rattle.text.specs.Number.{separator}
use Rattle.text.specs.Decimal.{digits, width, decimal, field}

pub length_digits : (k n : ℕ) → length (digits k n) ≡ k
unfolding digits
length_digits zero n = refl
length_digits (suc k) n = ap suc (length_digits k (n % 10 ^ k))

-- n has w digits: w are enough, and one less is not unless w is 1
pub record Width (n w : ℕ) : Type 0 where
  pub enough : n < 10 ^ w
  pub one : 1 ≤ w
  pub least : (w ≡ 1) ⊎ (10 ^ (w - 1) ≤ n)

-- no width that is enough is smaller
pub width_least : (n v w : ℕ) → Width n v → n < 10 ^ w → 1 ≤ w → v ≤ w
width_least n v w a h o = go (leb v w) refl a.least
  where
    go : (t : Bool) → leb v w ≡ t → (v ≡ 1) ⊎ (10 ^ (v - 1) ≤ n) → v ≤ w
    go true e _ = leb-true v w e
    go false e (inl q) = omega arith
    go false e (inr l) =
        let m = leb-false v w e in
        let p : 10 ^ w ≤ 10 ^ (v - 1) = pow-le-pow_right {n = 10} (lit< tt) (omega arith) in
        absurd (omega arith)

pub width_unique : (n v w : ℕ) → Width n v → Width n w → v ≡ w
width_unique n v w a b = le_antisymm (width_least n v w a b.enough b.one) (width_least n w v b a.enough a.one)

pub width_most : (k n : ℕ) → width k n ≤ suc k
unfolding width
width_most zero n = omega arith
width_most (suc k) n = go (width_most k n) (leb (10 ^ suc k) n)
  where
    go : width k n ≤ suc k → (t : Bool) → cond t (suc (suc k)) (width k n) ≤ suc (suc k)
    go h true = omega arith
    go h false = omega arith

pub width_right : (k n : ℕ) → n < 10 ^ suc k → Width n (width k n)
unfolding width
width_right zero n h = record { enough = h; one = omega arith; least = inl refl }
width_right (suc k) n h = go (width_right k n) (leb (10 ^ suc k) n) refl
  where
    go : (n < 10 ^ suc k → Width n (width k n)) → (t : Bool) → leb (10 ^ suc k) n ≡ t → Width n (cond t (suc (suc k)) (width k n))
    go w true e =
        let one_less : suc (suc k) - 1 ≡ suc k = omega arith in
        record { enough = h; one = omega arith; least = inr (rw one_less (leb-true (10 ^ suc k) n e)) }
    go w false e = w (leb-false (10 ^ suc k) n e)

pub decimal_width : (n : ℕ) → length (decimal n) ≡ width 19 n
unfolding decimal
decimal_width n = length_digits (width 19 n) n

pub length_decimal_small : (n : ℕ) → n < 10 ^ 9 → length (decimal n) ≤ 9
length_decimal_small n h = omega (arith, decimal_width n, width_least n (width 19 n) 9 (width_right 19 n (omega arith)) h (lit≤ tt))

-- with its separator no number takes more than 21 bytes
pub field_short : (n : ℕ) (last : Bool) → length (field n last) ≤ 21
field_short n last = omega (arith, length-append (decimal n) (separator last ∷ []), decimal_width n, width_most 19 n)

-- a number below 10 ^ w has at most w digits
pub digits_few : (w n : ℕ) → 1 ≤ w → w ≤ 20 → n < 10 ^ w → length (decimal n) ≤ w
digits_few w n o m h =
    let p : 10 ^ w ≤ 10 ^ 20 = pow-le-pow_right {n = 10} (lit< tt) m in
    omega (arith, decimal_width n, width_least n (width 19 n) w (width_right 19 n (omega arith)) h o)

-- ---- the digits
pub power_positive : (k : ℕ) → 0 < 10 ^ k
power_positive k = one-le-pow k 10 (lit< tt)

-- a number is written with as many digits as it has
pub decimal_wide : (n w : ℕ) → Width n w → n < 10 ^ 20 → decimal n ≡ digits w n
unfolding decimal
decimal_wide n w a h = rw (width_unique n (width 19 n) w (width_right 19 n h) a) refl

-- the highest of k + 1 digits is how often 10 ^ k is in the number, and the others are those of what is left
pub digits_first : (k v d left : ℕ) → v ≡ d * 10 ^ k + left → left < 10 ^ k → digits (suc k) v ≡ (48 + d) ∷ digits k left
unfolding digits
digits_first k v d left e h = rw (e, digits_div d h, digits_mod d h) refl

pub digits_one : (v : ℕ) → digits 1 v ≡ (48 + v) ∷ []
unfolding digits
digits_one v = ap (λ (d : ℕ). (48 + d) ∷ []) (div-one v)

pub decimal_one : (n : ℕ) → n < 10 → decimal n ≡ (48 + n) ∷ []
decimal_one n h = decimal_wide n 1 (record { enough = h; one = omega arith; least = inl refl }) (omega arith) ∙ digits_one n
