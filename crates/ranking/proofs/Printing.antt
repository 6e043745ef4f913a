-- The text of a ranking: a lead is the difference of two numbers, told by its sign and its digits, and leads of numbers below 2 ^ 40 have few.
use Prim.Native.Nat.{ℕ, zero, suc, ◌-◌, ◌^◌, ◌≤◌, ◌<◌}
use native.Mathlib.Omega.{arith}
use native.Mathlib.Decide.{dec_lt}
use mathlib.Core.Path.{◌≡◌, ap, ◌∙◌}
use mathlib.Core.List.{List, ◌∷◌, ◌++◌}
use lib.ListN.{length, length-append}
use lib.Dec.{lit≤}
use lib.IntN.{ℤ, pos, negsuc, ◌-ℤ◌}
use Rattle.laws.specs.Differences.{difference_less, difference_more}
use Rattle.reply.specs.Respond.{answer}
use Rattle.text.specs.Key.{bytes}
use Rattle.text.specs.Decimal.{decimal}
use Rattle.text.proofs.DecimalLaws.{digits_few}
use Rattle.operations.proofs.Answers.{answer_bytes}
use Rattle.ranking.specs.Lead.{sign_of}
use Rattle.ranking.specs.Ranking.{Ranked, signed, printed}

-- ---- with its sign
module _ (x y : ℕ) where
  pub signed_less : x < y → signed (pos x -ℤ pos y) ≡ 45 ∷ decimal (y - x)
  signed_less l = let e : suc (y - suc x) ≡ y - x = omega arith in ap signed (difference_less x y l) ∙ ap (λ (n : ℕ). 45 ∷ decimal n) e

  pub signed_more : y ≤ x → signed (pos x -ℤ pos y) ≡ decimal (x - y)
  signed_more l = ap signed (difference_more x y l)

-- ---- how long
-- a rank: one digit and its sign
digits_1 : (n : ℕ) → n ≤ 1 → length (decimal n) ≤ 1
digits_1 n l = digits_few 1 n (lit≤ tt) (lit≤ tt) (omega arith)

sign_short : (z : ℤ) → length (signed (sign_of z)) ≤ 2
sign_short (pos zero) = omega (arith, digits_1 0 (lit≤ tt))
sign_short (pos (suc n)) = omega (arith, digits_1 1 (lit≤ tt))
sign_short (negsuc n) = omega (arith, digits_1 1 (lit≤ tt))

-- a lead: 13 digits and its sign
digits_13 : (n : ℕ) → n < 2 ^ 40 → length (decimal n) ≤ 13
digits_13 n l = digits_few 13 n (lit≤ tt) (lit≤ tt) (omega arith)

signed_short : (x y : ℕ) → x < 2 ^ 40 → y < 2 ^ 40 → length (signed (pos x -ℤ pos y)) ≤ 14
signed_short x y l m = go (dec_lt x y)
  where
    go : Dec (x < y) → length (signed (pos x -ℤ pos y)) ≤ 14
    go (yes h) = rw (signed_less x y h) (omega (arith, digits_13 (y - x) (omega arith)))
    go (no h) = rw (signed_more x y (omega arith)) (omega (arith, digits_13 (x - y) (omega arith)))

-- the answer: the lines `rank` and `lead`
abbrev pub lead_text : ℤ → List ℕ
lead_text z = (bytes "rank=" ++ (signed (sign_of z) ++ bytes "\n")) ++ (bytes "lead=" ++ (signed z ++ bytes "\n"))

module _ (x y : ℕ) (l : x < 2 ^ 40) (m : y < 2 ^ 40) where
  pub lead_short : length (lead_text (pos x -ℤ pos y)) ≤ 28
  lead_short = simp length-append (omega (arith, sign_short (pos x -ℤ pos y), signed_short x y l m))

  pub ranked_short : (text : List ℕ) → printed (Ranked (sign_of (pos x -ℤ pos y)) (pos x -ℤ pos y)) ≡ answer text → length text ≤ 32
  ranked_short text e = omega (arith, lead_short, ap length (answer_bytes e))
