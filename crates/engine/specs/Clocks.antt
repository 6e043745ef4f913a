-- The line of a clock.
use Rattle.std.specs.Prelude.{ℕ, ◌-◌, Bool, true, false, cond, List, ◌++◌, get_or, Option, Some, None}
use Rattle.text.specs.Key.{bytes}
use Rattle.text.specs.Decimal.{field}

-- What it has behind its key: the clock, or the word for none.
abbrev pub clock_value : Option ℕ → List ℕ
clock_value (Some n) = field n true
clock_value None = bytes "off\n"

-- The whole line, from the arrays that the code holds.
abbrev pub clock_line : List Bool → List ℕ → ℕ → ℕ → List ℕ
clock_line flags since now u = bytes "clock=" ++ cond (get_or flags u false) (field (now - get_or since u 0) true) (bytes "off\n")
