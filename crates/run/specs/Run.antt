-- Document 01, "Cards", and document 02, Q-3: the run card and the order card of a net on a sheet and with so many transitions, line by line.
use Rattle.reply.specs.Respond.{Passed}
use Rattle.std.specs.Prelude.{ℕ, ◌+◌, min, cond, List, map, length, drop}
use Rattle.laws.specs.Slots.{first_of}
use Rattle.reply.specs.declared.Refusal.TheVariants.{Malformed}
use Rattle.text.specs.Key.{bytes, begins_with}
use Rattle.form.specs.Form.{found, refused, Form, keyed, chain, times, held}
use Rattle.form.specs.Line.{ranged, listed, number}
use Rattle.form.specs.Sheet.{on_sheet}
use Rattle.run.specs.declared.Memory.{Memory}
use Rattle.run.specs.declared.Memory.TheVariants.{Intermediate, Atomic, Carry}
use Rattle.run.specs.declared.Firing.{Firing}
use Rattle.run.specs.declared.Run.{Run}
use Rattle.run.specs.declared.Order.{Order}

-- `memory`: one of the words
abbrev pub memory_text : Memory → List ℕ
memory_text Intermediate = bytes "intermediate\n"
memory_text Atomic = bytes "atomic\n"
memory_text Carry = bytes "carry\n"

abbrev pub memory : Form Memory
memory =
    record {
      text = memory_text;
      lines = λ m. 1;
      check = λ m line. Passed;
      read = λ s at line.
          cond (begins_with (bytes "intermediate\n") (drop at s)) (found Intermediate (at + length (bytes "intermediate\n")))
          (cond (begins_with (bytes "atomic\n") (drop at s)) (found Atomic (at + length (bytes "atomic\n")))
          (cond (begins_with (bytes "carry\n") (drop at s)) (found Carry (at + length (bytes "carry\n"))) (refused (Malformed line))));
      clean = λ m. m;
    }

-- `firings` N (0 to 64)
abbrev pub firings : Form ℕ
firings = keyed (bytes "firings=") (number (ranged 0 64))

-- `fire`: a transition number; one that is not in the net is 4
abbrev pub fire : ℕ → Form ℕ
fire transitions = keyed (bytes "fire=") (number (listed transitions))

-- waits and rest are 0 to 10,000,000 parts
abbrev pub parts : List ℕ → Form ℕ
parts key = keyed key (number (ranged 0 10000000))

-- a firing: `wait` and `fire`
abbrev pub firing_lines : ℕ → Form (ℕ × ℕ)
firing_lines transitions = chain (parts (bytes "wait=")) (λ _. fire transitions)

abbrev pub to_firing : ℕ × ℕ → Firing
to_firing v = record { wait = v.0; fire = v.1 }

abbrev pub from_firing : Firing → ℕ × ℕ
from_firing f = (f.wait, f.fire)

abbrev pub firing : ℕ → Form Firing
firing transitions = held to_firing from_firing (firing_lines transitions)

abbrev pub no_firing : Firing
no_firing = record { wait = 0; fire = 0 }

-- the firings of a run card, and last `rest`
abbrev pub steps : ℕ → ℕ → Form (List Firing × ℕ)
steps transitions count = chain (times count 64 no_firing (firing transitions)) (λ _. parts (bytes "rest="))

-- a run card: the net's `sheet`, `memory`, `denominator` D (1 to 1,000), `firings`, the firings, `rest`
abbrev pub run_lines : ℕ → Form (Memory × (ℕ × (ℕ × (List Firing × ℕ))))
run_lines transitions =
    chain (keyed (bytes "memory=") memory)
    (λ _. chain (keyed (bytes "denominator=") (number (ranged 1 1000))) (λ _. chain firings (λ count. steps transitions count)))

abbrev pub to_run : ℕ × (Memory × (ℕ × (ℕ × (List Firing × ℕ)))) → Run
to_run v =
    record {
      sheet = v.0;
      memory = v.1.0;
      denominator = v.1.1.0;
      count = v.1.1.1.0;
      firings = v.1.1.1.1.0;
      rest = v.1.1.1.1.1;
    }

abbrev pub from_run : Run → ℕ × (Memory × (ℕ × (ℕ × (List Firing × ℕ))))
from_run r = (r.sheet, (r.memory, (r.denominator, (r.count, (r.firings, r.rest)))))

abbrev pub run_card : ℕ → ℕ → Form Run
run_card sheet transitions = held to_run from_run (on_sheet sheet (run_lines transitions))

-- an order card: the net's `sheet`, `memory`, `firings`, then the `fire` lines
abbrev pub order_lines : ℕ → Form (Memory × (ℕ × List ℕ))
order_lines transitions =
    chain (keyed (bytes "memory=") memory) (λ _. chain firings (λ count. times count 64 0 (fire transitions)))

abbrev pub to_order : ℕ × (Memory × (ℕ × List ℕ)) → Order
to_order v = record { sheet = v.0; memory = v.1.0; count = v.1.1.0; fires = v.1.1.1 }

abbrev pub from_order : Order → ℕ × (Memory × (ℕ × List ℕ))
from_order o = (o.sheet, (o.memory, (o.count, o.fires)))

abbrev pub order_card : ℕ → ℕ → Form Order
order_card sheet transitions = held to_order from_order (on_sheet sheet (order_lines transitions))

-- ---- what counts of a value
-- the firings of a run, and the fired transitions of an order
unfoldable pub firings_of : Run → List Firing
firings_of r = first_of (min r.count 64) no_firing r.firings

unfoldable pub fires_of : Order → List ℕ
fires_of o = first_of (min o.count 64) 0 o.fires

-- the fired transitions of firings, and the waits before them
unfoldable pub order_of : List Firing → List ℕ
order_of fs = map (λ (f : Firing). f.fire) fs

unfoldable pub waits_of : List Firing → List ℕ
waits_of fs = map (λ (f : Firing). f.wait) fs
