-- Document 01, "Process": how a causal process is printed.
use Rattle.std.specs.Prelude.{ℕ, Bool, true, false, cond, List, [], ◌∷◌, ◌++◌, map}
use Rattle.text.specs.Key.{bytes}
use Rattle.text.specs.Decimal.{decimal, field}
use Rattle.net.specs.declared.Net.{Net}
use Rattle.causal.specs.Process.{Item, Event, events, left}
use Rattle.causal.specs.Free.{free}

-- "place.producer.count"
abbrev pub item_text : Item → List ℕ
item_text x = decimal x.place ++ (46 ∷ []) ++ decimal x.producer ++ (46 ∷ []) ++ decimal x.count

-- texts joined by commas; a comma stands before the first too where something stands before it
unfoldable pub joined_by : Bool → List (List ℕ) → List ℕ
joined_by first [] = []
joined_by first (x ∷ texts) = cond first [] (44 ∷ []) ++ x ++ joined_by false texts

-- a list and the line's end; "an empty list is `none`"
unfoldable pub list_text : List (List ℕ) → List ℕ
list_text [] = bytes "none" ++ (10 ∷ [])
list_text (x ∷ texts) = joined_by true (x ∷ texts) ++ (10 ∷ [])

-- the lines of a firing
abbrev pub event_text : Event → List ℕ
event_text e = bytes "fire=" ++ field e.fire true ++ bytes "from=" ++ list_text (map item_text e.from)

unfoldable pub events_text : List Event → List ℕ
events_text [] = []
events_text (e ∷ later) = event_text e ++ events_text later

-- the process of an order
unfoldable pub process_text : Net → List ℕ → List ℕ
process_text net order =
    events_text (events net order) ++ bytes "left=" ++ list_text (map item_text (left net order))
    ++ bytes "free=" ++ list_text (map decimal (free (events net order)))
