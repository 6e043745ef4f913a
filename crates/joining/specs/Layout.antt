-- What holds of a layout: its places are within the array, and each place in it is one of sixteen.
use Rattle.std.specs.Prelude.{ℕ, ◌≤◌, ◌<◌, ◌≡◌, List, Option, Some, None, get_or}
use Rattle.joining.specs.declared.Layout.TheInside.{Inside}

abbrev pub Within : List (Option ℕ) → Type 0
Within source = (p q : ℕ) → get_or source p None ≡ Some q → q < 16

pub record IsLayout (at : Inside) : Type 0 where
  pub few : at.places ≤ 16
  pub within : Within at.source
