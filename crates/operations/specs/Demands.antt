-- The three demands as statements, each under its sentence and in the customer's order (docs/DEMANDS.md); proofs/Demands.antt proves each of them under the
-- same name in small letters. The contract of an operation is `Responded` with its outcome, for the reply and the output at exit.
use Rattle.std.specs.Prelude.{ℕ, ◌≤◌, ◌<◌, ◌≡◌, ◌↔◌, List, ◌++◌, length, get_or, take, Err}
use Rattle.reply.specs.declared.Refusal.{Refusal}
use Rattle.reply.specs.declared.Refusal.TheVariants.{Untimable}
use Rattle.reply.specs.Respond.{answer, refusal, Answered, reply_to, Passed}
use Rattle.reply.specs.Demanded.{Demanded}
use Rattle.form.specs.Form.{found, refused}
use Rattle.net.specs.declared.Net.{Net}
use Rattle.net.specs.Net.{net_card, net_text}
use Rattle.net.specs.Same.{SameNet, writable_net}
use Rattle.run.specs.declared.Run.{Run}
use Rattle.run.specs.declared.Order.{Order}
use Rattle.run.specs.declared.Memory.{Memory}
use Rattle.run.specs.Run.{firings_of, fires_of, run_card, order_card}
use Rattle.run.specs.Same.{SameRun, SameOrder, writable_run, writable_order}
use Rattle.firing.specs.Semantics.{arcs_of, Restart, Timed, start_marking, rule_of, Initial, Allowed}
use Rattle.firing.specs.Replay.{replay}
use Rattle.firing.specs.Tokens.{tokens}
use Rattle.firing.specs.Claims.{FirstRefused}
use Rattle.timing.specs.Windows.{windows, windows_of, last_restart, Timing, Timable}
use Rattle.timing.specs.Rounding.{zip_firings}
use Rattle.timing.specs.Claims.{FirstUntimable}
use Rattle.cards.specs.Cards.{input_of, read_run, read_order, run_cards, order_cards, run_checked, order_checked, run_text, order_text}
use Rattle.operations.specs.Replay.{end_text}
use Rattle.operations.specs.Timetable.{timetable_by, timetable_values, timetable_cards}
use Rattle.operations.specs.Round.{round_by}
use Rattle.operations.specs.Outcomes.{OnRun, replaying, rounding, Operation, values_of, cards_of, outcome_of}
use Rattle.operations.specs.Claims.{WholeTickRun, EarliestRun, RoundedDown}

-- the rule of the memory word of a run
abbrev pub rule_for : Net → Memory → Restart
rule_for net memory = rule_of (arcs_of net) memory

-- ======== demand 1
-- what is asked of every reply (reply/specs/Demanded.antt)
abbrev pub EveryReply : Type 0
EveryReply = (op : Operation) → Demanded (outcome_of op)

-- "by the printed order of checks": cards before firings, and of a value the refusal of its card, in which a number too long to write is outside its range
abbrev pub RunAsCards : Type 0
RunAsCards = (what : OnRun) (net : Net) (r : Run) → values_of what net r ≡ cards_of what (input_of run_card (writable_net net) (writable_run r))

abbrev pub OrderAsCards : Type 0
OrderAsCards = (net : Net) (o : Order) → timetable_values net o ≡ timetable_cards (input_of order_card (writable_net net) (writable_order o))

-- and so are a net, a run and an order refused where their cards are asked for
abbrev pub ValuesRefusedAsCards : Type 0
ValuesRefusedAsCards =
    ((net : Net) (rest : List ℕ) (e : Refusal) → (net_text net ≡ refusal e) ↔ (net_card.read (net_card.text (writable_net net) ++ rest) 0 1 ≡ refused e))
    × ((net : Net) (r : Run) (e : Refusal) → (run_text net r ≡ refusal e) ↔ (run_cards (input_of run_card (writable_net net) (writable_run r)) ≡ refused e))
    × ((net : Net) (o : Order) (e : Refusal)
    → (order_text net o ≡ refusal e) ↔ (order_cards (input_of order_card (writable_net net) (writable_order o)) ≡ refused e))

abbrev pub CardsFirst : Type 0
CardsFirst =
    ((what : OnRun) (s : List ℕ) (r : Refusal) → run_cards s ≡ refused r → cards_of what s ≡ refusal r)
    × ((s : List ℕ) (r : Refusal) → order_cards s ≡ refused r → timetable_cards s ≡ refusal r)

-- "Slots past its counts are no part of it"
abbrev pub SlotsNoPart : Type 0
SlotsNoPart =
    ((what : OnRun) (a b : Net) (r q : Run) → SameNet a b → SameRun r q → values_of what a r ≡ values_of what b q)
    × ((a b : Net) (o q : Order) → SameNet a b → SameOrder o q → timetable_values a o ≡ timetable_values b q)

-- the first 14,035 bytes of an input decide; 13,038 for a timetable
abbrev pub PrefixDecides : Type 0
PrefixDecides =
    ((what : OnRun) (s : List ℕ) (k : ℕ) → 14035 ≤ k → cards_of what (take k s) ≡ cards_of what s)
    × ((s : List ℕ) (k : ℕ) → 13038 ≤ k → timetable_cards (take k s) ≡ timetable_cards s)

-- ======== demand 2
-- "a timed run within the card limits is accepted if, and only if, the published weak semantics allows every firing in it"
abbrev pub Allows : Net → Run → Type 0
Allows net r = (end : Timed) × Allowed net (rule_for net r.memory) r.denominator (firings_of r) r.rest end

abbrev pub AcceptedExactly : Type 0
AcceptedExactly = (what : OnRun) (net : Net) (r : Run) → Answered (values_of what net r) ↔ ((run_checked net r ≡ Passed) × Allows net r)

abbrev pub AcceptedCardsExactly : Type 0
AcceptedCardsExactly =
    (what : OnRun) (s : List ℕ) → Answered (cards_of what s) ↔ ((net : Net) × (r : Run) × (run_cards s ≡ found (net, r) (length s)) × Allows net r)

-- and otherwise refused, at the first firing that is not allowed, with 5, 7 or 6, from whatever initial state the semantics starts
abbrev pub RefusedAt : Net → Run → Timed → Refusal → Type 0
RefusedAt net r S e = FirstRefused net (rule_for net r.memory) r.denominator (firings_of r) S 0 e

abbrev pub RefusedAtExactly : Type 0
RefusedAtExactly =
    (what : OnRun) (net : Net) (r : Run) (S : Timed) → run_checked net r ≡ Passed → Initial net S → (e : Refusal)
    → (values_of what net r ≡ refusal e) ↔ RefusedAt net r S e

abbrev pub RefusedAtCardsExactly : Type 0
RefusedAtCardsExactly =
    (what : OnRun) (s : List ℕ) (net : Net) (r : Run) (next : ℕ) (S : Timed) → run_cards s ≡ found (net, r) next → Initial net S → (e : Refusal)
    → (cards_of what s ≡ refusal e) ↔ RefusedAt net r S e

-- the printed end is the end of the published semantics, over values and over cards
abbrev pub PrintedEnd : Type 0
PrintedEnd =
    (net : Net) (r : Run) (end : Timed) → Allowed net (rule_for net r.memory) r.denominator (firings_of r) r.rest end
    → (run_checked net r ≡ Passed → values_of replaying net r ≡ answer (end_text net end))
    × ((s : List ℕ) (next : ℕ) → run_cards s ≡ found (net, r) next → cards_of replaying s ≡ answer (end_text net end))

-- "Reading a card and writing it again gives back its bytes"
abbrev pub ReadWritten : Type 0
ReadWritten =
    ((s : List ℕ) (net : Net) (next : ℕ) → net_card.read s 0 1 ≡ found net next → net_text net ≡ answer (take next s))
    × ((s : List ℕ) (net : Net) (r : Run) (next : ℕ) → read_run net s ≡ found r next → run_text net r ≡ answer s)
    × ((s : List ℕ) (net : Net) (o : Order) (next : ℕ) → read_order net s ≡ found o next → order_text net o ≡ answer s)

abbrev pub InputsReadWritten : Type 0
InputsReadWritten =
    ((s : List ℕ) (net : Net) (r : Run) (next : ℕ) → run_cards s ≡ found (net, r) next → input_of run_card net r ≡ s)
    × ((s : List ℕ) (net : Net) (o : Order) (next : ℕ) → order_cards s ≡ found (net, o) next → input_of order_card net o ≡ s)

-- "and writing a net or run and reading it gives back the same one", whatever stands behind a net card
abbrev pub WrittenRead : Type 0
WrittenRead =
    ((net : Net) (bytes rest : List ℕ) → net_text net ≡ answer bytes
    → (back : Net) × (net_card.read (bytes ++ rest) 0 1 ≡ found back (length bytes)) × SameNet back net)
    × ((net : Net) (r : Run) (bytes : List ℕ) → run_text net r ≡ answer bytes → (back : Run) × (read_run net bytes ≡ found back (length bytes)) × SameRun back r)
    × ((net : Net) (o : Order) (bytes : List ℕ) → order_text net o ≡ answer bytes
    → (back : Order) × (read_order net bytes ≡ found back (length bytes)) × SameOrder back o)

abbrev pub InputsWrittenRead : Type 0
InputsWrittenRead =
    ((net : Net) (r : Run) → run_checked net r ≡ Passed
    → (n : Net) × (q : Run) × (run_cards (input_of run_card net r) ≡ found (n, q) (length (input_of run_card net r))) × SameNet n net × SameRun q r)
    × ((net : Net) (o : Order) → order_checked net o ≡ Passed
    → (n : Net) × (q : Order) × (order_cards (input_of order_card net o) ≡ found (n, q) (length (input_of order_card net o))) × SameNet n net × SameOrder q o)

-- ======== demand 3, for any restart rule; each memory word has one (`rule_for`)
-- "a timing in whole ticks exists exactly when one in parts of a tick at that denominator does": any order, those that the tokens forbid included
abbrev pub TicksExactlyParts : Type 0
TicksExactlyParts = (net : Net) (restarts : Restart) (order : List ℕ) (D : ℕ) → 0 < D → Timable net restarts 1 order ↔ Timable net restarts D order

-- a timing is a run of the published semantics with these waits and no rest
abbrev pub TimingsAreRuns : Type 0
TimingsAreRuns =
    (net : Net) (memory : Memory) (D : ℕ) (order waits : List ℕ) → Timing net (rule_for net memory) D order waits
    ↔ ((length waits ≡ length order) × ((end : Timed) × Allowed net (rule_for net memory) D (zip_firings waits order) 0 end))

-- each window is measured from the last restart of its transition before it
abbrev pub OriginsAreRestarts : Type 0
OriginsAreRestarts =
    (net : Net) (restarts : Restart) (order : List ℕ) (i : ℕ) → i < length order → get_or order i 0 < (arcs_of net).transitions
    → (windows (windows_of net restarts order) i).origin ≡ last_restart net restarts order i (get_or order i 0)

-- the operations under the memory word named, over values and over cards
abbrev pub TimetableByMemory : Type 0
TimetableByMemory =
    ((net : Net) (o : Order) → order_checked net o ≡ Passed → timetable_values net o ≡ timetable_by net (rule_for net o.memory) o)
    × ((s : List ℕ) (net : Net) (o : Order) (next : ℕ) → order_cards s ≡ found (net, o) next
    → (order_checked net o ≡ Passed) × (timetable_cards s ≡ timetable_by net (rule_for net o.memory) o))

abbrev pub RoundByMemory : Type 0
RoundByMemory =
    ((net : Net) (r : Run) → run_checked net r ≡ Passed → values_of rounding net r ≡ round_by net (rule_for net r.memory) r)
    × ((s : List ℕ) (net : Net) (r : Run) (next : ℕ) → run_cards s ≡ found (net, r) next
    → (run_checked net r ≡ Passed) × (cards_of rounding s ≡ round_by net (rule_for net r.memory) r))

module _ (net : Net) (restarts : Restart) (o : Order) where
  -- "a timetable is returned, output allowing, exactly when a timing exists at some denominator"
  abbrev pub TimetableExactly : Type 0
  TimetableExactly = Answered (timetable_by net restarts o) ↔ ((D : ℕ) × (0 < D) × Timable net restarts D (fires_of o))

  -- "For an order, 5 and 6 through all firings, then 8": whatever the output
  abbrev pub TokensFirst : Type 0
  TokensFirst =
      (r : Refusal) → tokens net (fires_of o) (start_marking net) 0 ≡ Err r → (out : List ℕ) → reply_to (timetable_by net restarts o) out ≡ Err r

  -- "whatever the output, the order is refused as untimable .. at the first firing up to which there is none"
  abbrev pub UntimableExactlyAt : Type 0
  UntimableExactlyAt =
      (k : ℕ) (out : List ℕ) → (reply_to (timetable_by net restarts o) out ≡ Err (Untimable k))
      ↔ ((tokens net (fires_of o) (start_marking net) 0 ≡ Passed) × FirstUntimable net restarts (fires_of o) k)

  -- ".. exactly when none does", of those orders that the tokens allow
  abbrev pub UntimableWhenNone : Type 0
  UntimableWhenNone =
      tokens net (fires_of o) (start_marking net) 0 ≡ Passed → (out : List ℕ)
      → ((k : ℕ) × (reply_to (timetable_by net restarts o) out ≡ Err (Untimable k))) ↔ ((D : ℕ) → 0 < D → Timable net restarts D (fires_of o) → ⊥)

  -- "The timetable is a whole-tick run of that order, and in every timing at any denominator each firing is at the timetable's instant or later"
  abbrev pub TimetableEarliest : Type 0
  TimetableEarliest =
      order_checked net o ≡ Passed → (bytes : List ℕ) → timetable_by net restarts o ≡ answer bytes
      → (r : Run) × WholeTickRun net restarts bytes r × EarliestRun net restarts o r

module _ (net : Net) (restarts : Restart) (r : Run) where
  -- "every run accepted under 2, whatever its denominator, comes back"
  abbrev pub RoundExactly : Type 0
  RoundExactly = Answered (round_by net restarts r) ↔ ((replay net restarts r).checked ≡ Passed)

  -- "with each firing and the end at its instant rounded down, still a run, with the same order and the same marking after every firing"
  abbrev pub RoundWhole : Type 0
  RoundWhole =
      run_checked net r ≡ Passed → (bytes : List ℕ) → round_by net restarts r ≡ answer bytes
      → (q : Run) × WholeTickRun net restarts bytes q × RoundedDown net restarts r q
