-- What the functions of this crate return, for what the forms find.
use Rattle.reply.specs.declared.Refusal.{Refusal}
use Rattle.std.specs.Prelude.{ℕ, ◌+◌, ◌*◌, List, [], ◌∷◌, set, Option, Result, Ok, Err}
use Rattle.laws.specs.Slots.{first_of}
use Rattle.text.specs.Key.{bytes}
use Rattle.form.specs.Form.{Found, found, refused, and_then, Form, keyed, chain, held}
use Rattle.form.specs.Line.{ranged, number}
use Rattle.net.specs.declared.Transition.{Transition}
use Rattle.net.specs.declared.Net.{Net}
use Rattle.net.specs.Net.{latest, Row, to_net}
use Rattle.net_card.specs.declared.counts.Heading.{Heading}
use Rattle.net_card.specs.declared.counts.Slots.{Slots}

-- ---- a transition's interval
-- its two lines
abbrev pub interval_lines : Form (ℕ × Option ℕ)
interval_lines = chain (keyed (bytes "earliest=") (number (ranged 0 1000))) (λ earliest. keyed (bytes "latest=") (latest earliest))

-- the interval that they say
abbrev pub to_interval : ℕ × Option ℕ → Transition
to_interval v = record { earliest = v.0; latest = v.1 }

abbrev pub interval : Form Transition
interval = held to_interval (λ t. (t.earliest, t.latest)) interval_lines

-- ---- lists of weights
-- what was found, where its value stands in lent arrays; of a refusal they say nothing
abbrev pub found_in : {A : Type 0} → Result ℕ Refusal → A → Found A
found_in (Ok next) a = found a next
found_in (Err r) a = refused r

-- numbers stored in an array: the first in a slot, and each next one a step further
unfoldable pub spread : List ℕ → ℕ → ℕ → List ℕ → List ℕ
spread [] slot step l = l
spread (n ∷ ns) slot step l = spread ns (slot + step) step (set l slot n)

-- a list of so many numbers that was found, stored in an array from a slot on
abbrev pub stored_at : ℕ → ℕ → ℕ → List ℕ → Found (List ℕ) → Found (List ℕ)
stored_at count slot step l f = and_then f (λ ns next. found (spread (first_of count 0 ns) slot step l) next)

-- stored in slots
abbrev pub stored_in : Slots → List ℕ → Found (List ℕ) → Found (List ℕ)
stored_in to l f = stored_at to.count to.first to.step l f

-- the lists of transition t that were found, stored in the two arrays of a net
abbrev pub stored_as : ℕ → ℕ → List ℕ → List ℕ → Found (List ℕ × List ℕ) → Found (List ℕ × List ℕ)
stored_as places t take give f =
    and_then f (λ w next. found (spread (first_of places 0 w.0) t 32 take, spread (first_of places 0 w.1) (16 * t) 1 give) next)

-- ---- a net
-- a net from its sheet and what the lines behind that say
abbrev pub behind_sheet : ℕ → Found (ℕ × (ℕ × (List ℕ × List Row))) → Found Net
behind_sheet sheet f = and_then f (λ v next. found (to_net (sheet, v)) next)

-- from its counts too and what the lines behind them say
abbrev pub with_counts : ℕ → ℕ → ℕ → Found (List ℕ × List Row) → Found Net
with_counts sheet places transitions f = and_then f (λ b next. found (to_net (sheet, (places, (transitions, b)))) next)

-- the counts in a heading
abbrev pub behind_counts : Heading → Found (List ℕ × List Row) → Found Net
behind_counts head f = with_counts head.sheet head.places head.transitions f

-- and from its tokens and what the lines of its transitions say
abbrev pub started : Heading → List ℕ → Found (List Row) → Found Net
started head start f = and_then f (λ rs next. found (to_net (head.sheet, (head.places, (head.transitions, (start, rs))))) next)

-- where the unread remainder of an input starts: behind the card, or at the front where the card is refused
abbrev pub remainder_start : Result ℕ Refusal → ℕ
remainder_start (Ok next) = next
remainder_start (Err r) = 0
