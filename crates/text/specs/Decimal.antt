-- How a number is written: its decimal digits, the highest first, and none of them a leading zero.
use Rattle.std.specs.Prelude.{ℕ, zero, suc, ◌+◌, ◌/◌, ◌%◌, ◌^◌, List, [], ◌∷◌, ◌++◌, Bool, cond, leb}
use Rattle.text.specs.Number.{separator}

-- k digits of n, as bytes
unfoldable pub digits : ℕ → ℕ → List ℕ
digits zero n = []
digits (suc k) n = (48 + n / 10 ^ k) ∷ digits k (n % 10 ^ k)

-- how many digits n has, where k + 1 are enough
unfoldable pub width : ℕ → ℕ → ℕ
width zero n = 1
width (suc k) n = cond (leb (10 ^ suc k) n) (suc (suc k)) (width k n)

-- 20 digits are enough for every number below 2 ^ 64
unfoldable pub decimal : ℕ → List ℕ
decimal n = digits (width 19 n) n

-- a number with its separator
abbrev pub field : ℕ → Bool → List ℕ
field n last = decimal n ++ (separator last ∷ [])
