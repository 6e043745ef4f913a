-- What is claimed of a causal process beyond its definition: counts of tokens by place and producer.
use Rattle.std.specs.Prelude.{ℕ, zero, suc, ◌+◌, ◌≤◌, ◌<◌, ◌≡◌, cond, ◌&&◌, List, [], ◌∷◌, ◌⊎◌, ◌↔◌, eqb, length, get_or}
use Rattle.laws.specs.Each.{Each}
use Rattle.net.specs.declared.Net.{Net}
use Rattle.firing.specs.Semantics.{arcs_of, takes, gives}
use Rattle.causal.specs.Process.{Item, Event, events}

-- the tokens of place p among items
unfoldable pub tokens_of : ℕ → List Item → ℕ
tokens_of p [] = 0
tokens_of p (x ∷ items) = cond (eqb x.place p) x.count 0 + tokens_of p items

-- those of them that producer i gave
unfoldable pub produced_by : ℕ → ℕ → List Item → ℕ
produced_by i p [] = 0
produced_by i p (x ∷ items) = cond (eqb x.place p && eqb x.producer i) x.count 0 + produced_by i p items

-- the tokens of producer i and place p that firings take, all together
unfoldable pub taken_of : ℕ → ℕ → List Event → ℕ
taken_of i p [] = 0
taken_of i p (e ∷ later) = produced_by i p e.from + taken_of i p later

-- the tokens that producer i gives to place p: those of the start, or of firing i
abbrev pub given_by : Net → List ℕ → ℕ → ℕ → ℕ
given_by net order zero p = get_or net.start p 0
given_by net order (suc i) p = gives (arcs_of net) (get_or order i 0) p

-- the items that a firing takes, with i firings before it
abbrev pub no_event : Event
no_event = record { fire = 0; from = [] }

abbrev pub from_at : Net → List ℕ → ℕ → List Item
from_at net order i = (get_or (events net order) i no_event).from

-- places ascend, and producers within a place
abbrev pub Before : Item → Item → Type 0
Before x y = (x.place < y.place) ⊎ ((x.place ≡ y.place) × (x.producer < y.producer))

pub data Ascending : List Item → Type 0 where
  none : Ascending []
  one : {x : Item} {items : List Item} → Each (Before x) items → Ascending items → Ascending (x ∷ items)

-- an item of a firing with k firings before it: some tokens of a place, given by the start or by one of those firings
pub record Produced (net : Net) (order : List ℕ) (k : ℕ) (x : Item) : Type 0 where
  pub in_net : x.place < (arcs_of net).places
  pub earlier : x.producer ≤ k
  pub some : 0 < x.count
  pub given : x.count ≤ given_by net order x.producer x.place

-- where both are of one place, the tokens of x came no later than those of y
abbrev pub CameNoLater : Item → Item → Type 0
CameNoLater x y = x.place ≡ y.place → x.producer ≤ y.producer

-- i is in the list
abbrev pub Listed : ℕ → List ℕ → Type 0
Listed i l = (k : ℕ) × (k < length l) × (get_or l k 0 ≡ i)

-- what document 01 asks of the process of an order, sentence by sentence, whatever makes it: its firings, what is left, and the free neighbours
pub record IsProcess (net : Net) (order : List ℕ) (firings : List Event) (remaining : List Item) (neighbours : List ℕ) : Type 0 where
  -- "For each firing in order the process prints `fire` and `from`"
  pub many : length firings ≡ length order
  pub fires : (i : ℕ) → i < length order → (get_or firings i no_event).fire ≡ get_or order i 0
  -- `from` has as many tokens of each place as the firing takes, each given by the start or an earlier firing
  pub takes_all : (i p : ℕ) → i < length order → p < (arcs_of net).places
      → tokens_of p (get_or firings i no_event).from ≡ takes (arcs_of net) (get_or order i 0) p
  pub earlier : (i : ℕ) → i < length order → Each (Produced net order i) (get_or firings i no_event).from
  -- "`left` lists the remaining tokens": of each producer and place what was given is taken or left
  pub left_earlier : Each (Produced net order (length order)) remaining
  pub taken_once : (i p : ℕ) → i ≤ length order → p < (arcs_of net).places → taken_of i p firings + produced_by i p remaining ≡ given_by net order i p
  -- "Tokens in a place are taken oldest first"
  pub oldest_first : (i j : ℕ) → i < j → j < length order
      → Each (λ x. Each (CameNoLater x) (get_or firings j no_event).from) (get_or firings i no_event).from
  pub left_last : (i : ℕ) → i < length order → Each (λ x. Each (CameNoLater x) remaining) (get_or firings i no_event).from
  -- "places ascending, then producers ascending"
  pub ascends : (i : ℕ) → i < length order → Ascending (get_or firings i no_event).from
  pub left_ascends : Ascending remaining
  -- "`free` lists, ascending, each i for which firing i+1 exists and took no token given by firing i"
  pub free_ascends : (j k : ℕ) → j < k → k < length neighbours → get_or neighbours j 0 < get_or neighbours k 0
  pub free_exactly : (i : ℕ) → Listed i neighbours
      ↔ ((1 ≤ i) × (i < length order) × Each (λ x. x.producer ≡ i → ⊥) (get_or firings i no_event).from)
