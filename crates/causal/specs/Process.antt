-- Document 01, "Process": the causal process of a firing order. Each token has a producer: 0 for the start, or the firing that gave it.
use Rattle.std.specs.Prelude.{ℕ, zero, suc, ◌-◌, min, cond, List, [], ◌∷◌, ◌++◌, eqb, get_or}
use Rattle.net.specs.declared.Net.{Net}
use Rattle.firing.specs.Semantics.{arcs_of, takes, gives}

-- The queue of a place, oldest tokens first: how many remain of those that the start gave, that firing 1 gave, that firing 2 gave, ..

-- "Tokens in a place are taken oldest first": of each producer, how many are among the n oldest
unfoldable pub oldest : ℕ → List ℕ → List ℕ
oldest n [] = []
oldest n (c ∷ queue) = min n c ∷ oldest (n - c) queue

-- the queue without its n oldest tokens
unfoldable pub without : ℕ → List ℕ → List ℕ
without n [] = []
without n (c ∷ queue) = (c - n) ∷ without (n - c) queue

-- the queue of each place
abbrev pub Queues : Type 0
Queues = ℕ → List ℕ

-- at the start
abbrev pub start_queues : Net → Queues
start_queues net p = get_or net.start p 0 ∷ []

-- what a firing of t takes, and what it leaves: tokens taken leave, then tokens given arrive
abbrev pub taken_by : Net → Queues → ℕ → Queues
taken_by net queues t p = oldest (takes (arcs_of net) t p) (queues p)

abbrev pub queues_after : Net → Queues → ℕ → Queues
queues_after net queues t p = without (takes (arcs_of net) t p) (queues p) ++ (gives (arcs_of net) t p ∷ [])

-- tokens of one place that have one producer
pub record Item : Type 0 where
  pub place : ℕ
  pub producer : ℕ
  pub count : ℕ

-- the items of place p, producers ascending from i; an item counts at least one token
unfoldable pub items_from : ℕ → ℕ → List ℕ → List Item
items_from p i [] = []
items_from p i (c ∷ counts) = let more = items_from p (suc i) counts in cond (eqb c 0) more (record { place = p; producer = i; count = c } ∷ more)

-- the items of the first places, places ascending
unfoldable pub items_of : Queues → ℕ → List Item
items_of tokens zero = []
items_of tokens (suc p) = items_of tokens p ++ items_from p 0 (tokens p)

-- a firing: its transition, and where the tokens that it takes are from
pub record Event : Type 0 where
  pub fire : ℕ
  pub from : List Item

-- the firings of an order from queues on, and the queues behind them
unfoldable pub events_from : Net → List ℕ → Queues → List Event
events_from net [] queues = []
events_from net (t ∷ order) queues =
    record { fire = t; from = items_of (taken_by net queues t) (arcs_of net).places } ∷ events_from net order (queues_after net queues t)

unfoldable pub queues_behind : Net → List ℕ → Queues → Queues
queues_behind net [] queues = queues
queues_behind net (t ∷ order) queues = queues_behind net order (queues_after net queues t)

-- the process of an order: its firings, and the tokens left
unfoldable pub events : Net → List ℕ → List Event
events net order = events_from net order (start_queues net)

unfoldable pub left : Net → List ℕ → List Item
left net order = items_of (queues_behind net order (start_queues net)) (arcs_of net).places
