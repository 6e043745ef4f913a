-- What the functions of a process's writer make of the line, of the queue of a place, and of the queues of all places.
use Rattle.std.specs.Prelude.{ℕ, zero, suc, ◌-◌, ◌≤◌, ◌<◌, ◌≡◌, Bool, false, cond, ◌||◌, List, [], ◌∷◌, ◌++◌, map, length, get_or}
use Rattle.laws.specs.Writing.{Output, put}
use Rattle.text.specs.Key.{bytes}
use Rattle.net.specs.Net.{takes_in}
use Rattle.causal.specs.Process.{Queues, Item, Event, oldest, without, items_from, items_of}
use Rattle.causal.specs.Free.{took_from}
use Rattle.causal.specs.Print.{item_text}
use Rattle.text.specs.declared.Writer.{Writer}
use Rattle.engine.specs.declared.process_text.Line.{Line}

-- ---- a list's line
-- the comma before what is not the first
abbrev pub comma : Bool → List ℕ
comma first = cond first [] (44 ∷ [])

-- the end of the line; an empty list is `none`
abbrev pub list_end : Bool → List ℕ
list_end first = cond first (bytes "none\n") (10 ∷ [])

-- what is left of the line where these texts are left, and whether they are its first
unfoldable pub line_from : Bool → List (List ℕ) → List ℕ
line_from first [] = list_end first
line_from first (x ∷ texts) = comma first ++ x ++ line_from false texts

-- the output of a writer that goes on with that
abbrev pub lined : Writer → Bool → List (List ℕ) → Output
lined w first texts = put (record { to = w.at; bytes = w.out.now }) (line_from first texts)

-- some of the texts are written: whatever comes behind them, what is left leads to the same line
pub record Listing (before : Writer) (first : Bool) (texts : List (List ℕ)) (after : Writer) (none : Bool) (left : List (List ℕ)) : Type 0 where
  pub output : after.out.ghost_name ≡ before.out.ghost_name
  pub same : (later : List (List ℕ)) → lined before first (texts ++ later) ≡ lined after none (left ++ later)

-- ---- queues
-- the queue of each place
abbrev pub queue_of : List (List ℕ) → Queues
queue_of queues p = get_or queues p []

-- ---- taking
-- the items of the oldest tokens of a place, so many
abbrev pub items_drawn : ℕ → ℕ → List ℕ → List Item
items_drawn place need queue = items_from place 0 (oldest need queue)

-- what taking them makes of the writer, the line and the queue
pub record Took (before : Writer) (line : Line) (place need : ℕ) (queue left : List ℕ) (after : Writer) (r : Line) : Type 0 where
  pub here : left ≡ without need queue
  pub newest : r.newest ≡ (line.newest || took_from (length queue - 1) (items_drawn place need queue))
  pub listed : Listing before line.first (map item_text (items_drawn place need queue)) after r.first []

-- what a firing of t takes from each place, and the firing
abbrev pub taken_in : List ℕ → ℕ → List (List ℕ) → Queues
taken_in take t queues p = oldest (takes_in take t p) (queue_of queues p)

abbrev pub event_in : List ℕ → ℕ → List (List ℕ) → Event
event_in take t queues = record { fire = t; from = items_of (taken_in take t queues) (length queues) }

-- what its taking makes of the queues, and whether it took tokens of the newest producer, where all have as many producers
pub record TookAll (take : List ℕ) (t : ℕ) (queues after : List (List ℕ)) (newest : Bool) : Type 0 where
  pub size : length after ≡ length queues
  pub left : (p : ℕ) → p < length queues → queue_of after p ≡ without (takes_in take t p) (queue_of queues p)
  pub linked : (producers : ℕ) → ((p : ℕ) → p < length queues → length (queue_of queues p) ≡ producers)
      → newest ≡ took_from (producers - 1) (items_of (taken_in take t queues) (length queues))

-- ---- giving
-- what giving makes of the queues; a weight is a byte
pub record Gave (queues : List (List ℕ)) (weights : List ℕ) (after : List (List ℕ)) : Type 0 where
  pub size : length after ≡ length queues
  pub longer : (p : ℕ) → p < length queues → queue_of after p ≡ queue_of queues p ++ (get_or weights p 0 ∷ [])
  pub small : (p : ℕ) → p < length queues → get_or weights p 0 ≤ 255

-- ---- free neighbours
-- the numbers i, i + 1, .., n of them, whose flag is down
unfoldable pub unset : List Bool → ℕ → ℕ → List ℕ
unset flags i zero = []
unset flags i (suc n) = let more = unset flags (suc i) n in cond (get_or flags i false) more (i ∷ more)
