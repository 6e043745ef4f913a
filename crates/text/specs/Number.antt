-- Document 01, "Cards": a number is one to nine decimal digits without a leading zero, 0 itself excepted.
use Rattle.std.specs.Prelude.{ℕ, ◌+◌, ◌-◌, ◌*◌, List, [], ◌∷◌, Bool, not, cond, ◌&&◌, ◌||◌, length, get_or, drop, leb, eqb, None, Option, Some}
use Rattle.text.specs.declared.ByteClass.{ByteClass}
use Rattle.text.specs.declared.ByteClass.TheVariants.{Zero, Digit, Comma, LineEnd, Other}
use Rattle.text.specs.Key.{begins_with}

-- the byte of a decimal digit
abbrev pub is_digit : ℕ → Bool
is_digit b = leb 48 b && leb b 57

-- what a byte is to a reader of cards: a zero has a class of its own, since no longer number begins with it
abbrev pub class_of : ℕ → ByteClass
class_of b = cond (is_digit b) (cond (eqb b 48) Zero (Digit (b - 48))) (cond (eqb b 44) Comma (cond (eqb b 10) LineEnd Other))

-- the digits that a list begins with, as numbers
unfoldable pub digits_of : List ℕ → List ℕ
digits_of [] = []
digits_of (b ∷ s) = cond (is_digit b) ((b - 48) ∷ digits_of s) []

-- the number v with more digits written behind it
unfoldable pub value_of : ℕ → List ℕ → ℕ
value_of v [] = v
value_of v (d ∷ ds) = value_of (v * 10 + d) ds

-- one to nine digits, and no leading zero but in 0 itself
abbrev pub well_formed : List ℕ → Bool
well_formed ds = leb 1 (length ds) && leb (length ds) 9 && (eqb (length ds) 1 || not (eqb (get_or ds 0 0) 0))

-- the number that the digits from a position on make, and the position behind it
abbrev pub read_digits : List ℕ → ℕ → Option (ℕ × ℕ)
read_digits ds at = cond (well_formed ds) (Some (value_of 0 ds, at + length ds)) None

-- the number that stands at a position, and the position behind it
abbrev pub number_at : List ℕ → ℕ → Option (ℕ × ℕ)
number_at s at = read_digits (digits_of (drop at s)) at

-- what stands behind a number: a comma between the numbers of a list, and byte 10 behind the last of a line
abbrev pub separator : Bool → ℕ
separator last = cond last 10 44

-- a number counts where its separator stands behind it
abbrev pub closed : List ℕ → Bool → Option (ℕ × ℕ) → Option (ℕ × ℕ)
closed s last None = None
closed s last (Some (v, next)) = cond (begins_with (separator last ∷ []) (drop next s)) (Some (v, next + 1)) None

-- the number that stands at a position with its separator, and the position behind both
unfoldable pub field_at : List ℕ → ℕ → Bool → Option (ℕ × ℕ)
field_at s at last = closed s last (number_at s at)
