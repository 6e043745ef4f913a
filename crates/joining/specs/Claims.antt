-- Document 02, "Sorter and changer on one drawing": which lists join two nets, and what the joined net is, told by numbers alone.
use Rattle.std.specs.Prelude.{ℕ, ◌+◌, ◌*◌, ◌/◌, ◌≤◌, ◌<◌, ◌≡◌, List, length, get_or}
use Rattle.net.specs.declared.Net.{Net}
use Rattle.net.specs.Net.{no_transition, takes_in, gives_in}

-- the numbers of pair i: "first net's place then second's"
abbrev pub first_at : List ℕ → ℕ → ℕ
first_at list i = get_or list (2 * i) 0

abbrev pub second_at : List ℕ → ℕ → ℕ
second_at list i = get_or list (2 * i + 1) 0

-- no odd list, no pair naming no place, and no place twice on its side
pub record Paired (places others : ℕ) (list : List ℕ) : Type 0 where
  pub count : ℕ
  pub even : length list ≡ 2 * count
  pub first_named : (i : ℕ) → i < count → first_at list i < places
  pub second_named : (i : ℕ) → i < count → second_at list i < others
  pub first_once : (i k : ℕ) → i < k → k < count → first_at list i ≡ first_at list k → ⊥
  pub second_once : (i k : ℕ) → i < k → k < count → second_at list i ≡ second_at list k → ⊥

-- no paired places with unequal starts
abbrev pub EqualStarts : Net → Net → List ℕ → Type 0
EqualStarts a b list = (i : ℕ) → 2 * i + 1 < length list → get_or a.start (first_at list i) 0 ≡ get_or b.start (second_at list i) 0

-- not above 16 places or 32 transitions: each pair is one place
abbrev pub Fits : Net → Net → List ℕ → Type 0
Fits a b list = (a.places + b.places ≤ 16 + length list / 2) × (a.transitions + b.transitions ≤ 32)

-- the second net's place q is in no pair
abbrev pub Unpaired : List ℕ → ℕ → Type 0
Unpaired list q = (i : ℕ) → 2 * i + 1 < length list → second_at list i ≡ q → ⊥

-- "the first's places, then the second's unpaired ones in order, and likewise all transitions; it takes the first's sheet"
pub record OnOneDrawing (a b : Net) (list : List ℕ) (j : Net) : Type 0 where
  pub sheet : j.sheet ≡ a.sheet
  pub places : j.places + length list / 2 ≡ a.places + b.places
  pub transitions : j.transitions ≡ a.transitions + b.transitions
  -- where the second net's places stand; the first's keep their numbers
  pub at : ℕ → ℕ
  pub paired : (i : ℕ) → 2 * i + 1 < length list → at (second_at list i) ≡ first_at list i
  pub behind : (q : ℕ) → q < b.places → Unpaired list q → (a.places ≤ at q) × (at q < j.places)
  pub in_order : (q r : ℕ) → q < r → r < b.places → Unpaired list q → Unpaired list r → at q < at r
  pub first_start : (p : ℕ) → p < a.places → get_or j.start p 0 ≡ get_or a.start p 0
  pub second_start : (q : ℕ) → q < b.places → get_or j.start (at q) 0 ≡ get_or b.start q 0
  -- the first net's transitions keep their numbers, and the second's stand behind them
  pub first_interval : (t : ℕ) → t < a.transitions → get_or j.table t no_transition ≡ get_or a.table t no_transition
  pub first_take : (t p : ℕ) → t < a.transitions → p < a.places → takes_in j.take t p ≡ takes_in a.take t p
  pub first_give : (t p : ℕ) → t < a.transitions → p < a.places → gives_in j.give t p ≡ gives_in a.give t p
  pub first_else : (t p : ℕ) → t < a.transitions → a.places ≤ p → p < j.places → (takes_in j.take t p ≡ 0) × (gives_in j.give t p ≡ 0)
  pub second_interval : (t : ℕ) → t < b.transitions → get_or j.table (a.transitions + t) no_transition ≡ get_or b.table t no_transition
  pub second_take : (t q : ℕ) → t < b.transitions → q < b.places → takes_in j.take (a.transitions + t) (at q) ≡ takes_in b.take t q
  pub second_give : (t q : ℕ) → t < b.transitions → q < b.places → gives_in j.give (a.transitions + t) (at q) ≡ gives_in b.give t q
  pub second_else : (t p : ℕ) → t < b.transitions → p < j.places → ((q : ℕ) → q < b.places → at q ≡ p → ⊥)
      → (takes_in j.take (a.transitions + t) p ≡ 0) × (gives_in j.give (a.transitions + t) p ≡ 0)
