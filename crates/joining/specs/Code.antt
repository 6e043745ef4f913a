-- What the functions of this crate hold, for the definitions.
use Rattle.std.specs.Prelude.{ℕ, ◌+◌, ◌≤◌, ◌<◌, ◌≡◌, Bool, true, false, List, ◌++◌, map, length, get_or, take, Option, Some, None, MatchOption}
use Rattle.std.proofs.Math.Option.{Option as Place, none, some}
use Rattle.laws.specs.Slots.{first_of, pad_to}
use Rattle.form.specs.Form.{Found, found, refused}
use Rattle.net.specs.declared.Net.{Net}
use Rattle.net.specs.Net.{Row, no_row, take_of, give_of, rows_of}
use Rattle.joining.specs.declared.Pairs.{Pairs}
use Rattle.joining.specs.declared.Rows.{Rows}
use Rattle.joining.specs.Joining.{seconds, among, distinct_places, partner, unpaired, sources, moved_row, joined_net}

-- pairs as arrays of two numbers, and their numbers on one side
abbrev pub pairs_in : List (List ℕ) → List (ℕ × ℕ)
pairs_in pairs = map (λ (pair : List ℕ). (get_or pair 0 0, get_or pair 1 0)) pairs

abbrev pub numbers_on : ℕ → List (List ℕ) → List ℕ
numbers_on side pairs = map (λ (pair : List ℕ). get_or pair side 0) pairs

-- what was found of the places that pairs name on one side: which they are, if they are right
abbrev pub Seen : ℕ → List ℕ → Option (List Bool) → Type 0
Seen places ps r =
    MatchOption r (distinct_places places ps ≡ false)
    (λ named. (distinct_places places ps ≡ true) × ((p : ℕ) → p < 16 → get_or named p false ≡ among p ps))

-- numbers that name slots of an array
abbrev pub Named : ℕ × ℕ → Type 0
Named v = (v.0 < 16) × (v.1 < 16)

-- a place, if there is one
abbrev pub place_in : Option ℕ → Place ℕ
place_in None = none
place_in (Some q) = some q

abbrev pub places_in : List (Option ℕ) → List (Place ℕ)
places_in at = map place_in at

-- the partner of each place of the first net
abbrev pub Partnered : List (ℕ × ℕ) → List (Option ℕ) → Type 0
Partnered vs source = (p : ℕ) → p < 16 → place_in (get_or source p None) ≡ partner vs p

-- the second net's places that no pair names laid out behind those of the first, whatever the pairs are by which they were named; or they are too many
pub record LaidOut (source : List (Option ℕ)) (places : ℕ) (named : List Bool) (r : Option (List (Option ℕ))) : Type 0 where
  pub laid : (vs : List (ℕ × ℕ)) → ((q : ℕ) → q < length named → get_or named q false ≡ among q (seconds vs)) → Partnered vs source
      → let others = length named in
      MatchOption r (16 < places + length (unpaired vs others)) (λ at. (length at ≤ 16) × (places_in at ≡ sources vs places others))

-- the arrays of rows
pub record Holds (rs : List Row) (r : Rows) : Type 0 where
  pub takes : r.take ≡ take_of (pad_to 32 no_row rs)
  pub gives : r.give ≡ give_of (pad_to 32 no_row rs)
  pub intervals : r.table ≡ map (λ (x : Row). x.interval) (pad_to 32 no_row rs)

-- the rows of a net added behind those that the arrays hold, at the places of a layout
pub record Added (net : Net) (at : List (Option ℕ)) (behind : ℕ) (old new : Rows) : Type 0 where
  pub rows : (rs : List Row) → length rs ≡ behind → Holds rs old
      → Holds (rs ++ map (moved_row (places_in at)) (first_of net.transitions no_row (rows_of net))) new

-- the joined net, if a layout is that of the second net's places in it
pub record JoinedBy (a b : Net) (at : List (Option ℕ)) (r : Net) : Type 0 where
  pub joined : (vs : List (ℕ × ℕ)) → places_in at ≡ sources vs a.places b.places → r ≡ joined_net a b vs

-- a list as it is kept: how long it is, and the first 32 of its numbers; and such a list where one was found
abbrev pub kept : List ℕ → Pairs
kept list = record { count = length list; list = pad_to 32 0 (take 32 list) }

abbrev pub pairs_read : Found (List ℕ) → Found Pairs
pairs_read (found list next) = found (kept list) next
pairs_read (refused r) = refused r
