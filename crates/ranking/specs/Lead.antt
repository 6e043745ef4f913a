-- Document 02, "Ranking two answers": the instants of two runs, and the lead of one over the other.
use Rattle.std.specs.Prelude.{ℕ, zero, suc, ◌*◌, Bool, cond, ◌&&◌, length, ltb, ℤ, pos, negsuc, ◌-ℤ◌}
use Rattle.laws.specs.Tests.{same_numbers}
use Rattle.run.specs.declared.Run.{Run}
use Rattle.run.specs.Run.{memory_text, firings_of, order_of}
use Rattle.timing.specs.Rounding.{end_instant}
use Rattle.operations.specs.Claims.{instants_of}

-- "runs of one order": one memory word, and one order of firings
abbrev pub of_one_order : Run → Run → Bool
of_one_order x y = same_numbers (memory_text x.memory) (memory_text y.memory) && same_numbers (order_of (firings_of x)) (order_of (firings_of y))

-- the instant of firing i + 1 of a run, in parts; behind the last firing that of the end
unfoldable pub instant_of : Run → ℕ → ℕ
instant_of r i = cond (ltb i (length (firings_of r))) (instants_of r (suc i)) (end_instant r)

-- "the signed lead of X over Y .., negative when X is earlier, in parts of one tick over the product of the two denominators": at instant i
unfoldable pub lead_at : Run → Run → ℕ → ℤ
lead_at x y i = pos (instant_of x i * y.denominator) -ℤ pos (instant_of y i * x.denominator)

-- a lead that is not 0 decides
abbrev pub unless_level : ℤ → ℤ → ℤ
unless_level (pos zero) later = later
unless_level (pos (suc n)) later = pos (suc n)
unless_level (negsuc n) later = negsuc n

-- the first of n leads from i on that is not 0; 0 where there is none
unfoldable pub lead_from : Run → Run → ℕ → ℕ → ℤ
lead_from x y i zero = pos 0
lead_from x y i (suc n) = unless_level (lead_at x y i) (lead_from x y (suc i) n)

-- "at the deciding instant": the firings first, then the end
unfoldable pub lead_of : Run → Run → ℤ
lead_of x y = lead_from x y 0 (suc (length (firings_of x)))

-- −1, 0 or 1
abbrev pub sign_of : ℤ → ℤ
sign_of (pos zero) = pos 0
sign_of (pos (suc n)) = pos 1
sign_of (negsuc n) = negsuc 0
