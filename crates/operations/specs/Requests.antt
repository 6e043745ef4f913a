-- The change requests of document 02 as statements, each under its sentence; proofs/Requests.antt proves each of them under the same name in small letters.
use Rattle.std.specs.Prelude.{ℕ, suc, ◌-◌, ◌≤◌, ◌<◌, ◌≡◌, true, false, ◌↔◌, List, ◌++◌, length, get_or}
use Rattle.reply.specs.declared.Refusal.TheVariants.{AnotherSheet}
use Rattle.reply.specs.Respond.{Answered, refusal, Passed}
use Rattle.form.specs.Form.{found, refused}
use Rattle.form.specs.Sheet.{sheet}
use Rattle.net.specs.declared.Net.{Net}
use Rattle.net.specs.Net.{counted_lines, from_net, net_card}
use Rattle.run.specs.declared.Memory.{Memory}
use Rattle.run.specs.declared.Memory.TheVariants.{Carry}
use Rattle.run.specs.declared.Run.{Run}
use Rattle.run.specs.declared.Order.{Order}
use Rattle.run.specs.Run.{run_lines, from_run, run_card, order_lines, from_order, order_card, firings_of, order_of, waits_of}
use Rattle.firing.specs.Semantics.{Arcs, arcs_of, Restart, Timed, enabled, after, rule_of, Fires}
use Rattle.firing.specs.Replay.{replay}
use Rattle.firing.specs.Claims.{Restarting}
use Rattle.timing.specs.Windows.{windows, windows_of, last_restart, Timing}
use Rattle.timing.specs.Rounding.{end_instant}
use Rattle.cards.specs.Cards.{card_of, read_run, read_order, run_cards, order_cards, run_checked}
use Rattle.cards.specs.Claims.{OnAnotherSheet}
use Rattle.operations.specs.Timetable.{timetable_values, timetable_cards}
use Rattle.operations.specs.Outcomes.{OnRun, values_of, cards_of}
use Rattle.operations.specs.Claims.{instants_of, clock_at, end_clock}
use Rattle.operations.specs.Demands.{rule_for}

-- ======== Q-1, a third memory
-- "a clock restarts only if its transition was not enabled before the firing", and then if it is enabled after it
abbrev pub CarryExactly : Type 0
CarryExactly = (a : Arcs) (m : List ℕ) (t u : ℕ) → (rule_of a Carry m t u ≡ true) ↔ ((enabled a (after a m t) u ≡ true) × (enabled a m u ≡ false))

-- "The fired transition then keeps its clock too, if still enabled": the rule does not restart it, and the published firing leaves its clock
abbrev pub CarryKeeps : Type 0
CarryKeeps =
    ((a : Arcs) (m : List ℕ) (t : ℕ) → enabled a m t ≡ true → rule_of a Carry m t t ≡ false)
    × ((net : Net) (D : ℕ) (S S' : Timed) (t : ℕ) → Fires net (rule_for net Carry) D S t S' → enabled (arcs_of net) S'.marking t ≡ true
    → S'.clock t ≡ S.clock t)

-- "under all three words": each restarts what was not enabled before, which is all that demand 2 asks of a rule
abbrev pub CarryRestarting : Type 0
CarryRestarting = (net : Net) (memory : Memory) → Restarting net (rule_for net memory)

-- "Acceptance .. shown once for any restart rule that looks only at the markings and at which transition fired": a run is accepted exactly when its waits are a
-- timing of its order. Rounding and earliest timetables are demand 3, which is about any such rule
abbrev pub AnyRuleAccepts : Type 0
AnyRuleAccepts =
    (net : Net) (restarts : Restart) (r : Run)
    → ((replay net restarts r).checked ≡ Passed) ↔ Timing net restarts r.denominator (order_of (firings_of r)) (waits_of (firings_of r))

-- so do the operations under the word named, over values and over cards
abbrev pub WithTiming : Net → Run → Type 0
WithTiming net r = Timing net (rule_for net r.memory) r.denominator (order_of (firings_of r)) (waits_of (firings_of r))

abbrev pub WordAccepts : Type 0
WordAccepts =
    ((what : OnRun) (net : Net) (r : Run) → Answered (values_of what net r) ↔ ((run_checked net r ≡ Passed) × WithTiming net r))
    × ((what : OnRun) (s : List ℕ) → Answered (cards_of what s) ↔ ((net : Net) × (r : Run) × (run_cards s ≡ found (net, r) (length s)) × WithTiming net r))

-- "each clock there counts from o, as in 01's windows": right before each firing and at the end a clock is the time since the last restart of its transition, and
-- that of the transition to fire is the time since the origin of its window
pub record CountsFromRestarts (net : Net) (restarts : Restart) (r : Run) : Type 0 where
  pub each_clock : (i u : ℕ) → i < length (firings_of r) → u < (arcs_of net).transitions
      → clock_at net restarts r i u ≡ instants_of r (suc i) - instants_of r (last_restart net restarts (order_of (firings_of r)) i u)
  pub next_clock : (i : ℕ) → i < length (firings_of r) → let order = order_of (firings_of r) in
      clock_at net restarts r i (get_or order i 0) ≡ instants_of r (suc i) - instants_of r (windows (windows_of net restarts order) i).origin
  pub end_clock_lem : (u : ℕ) → u < (arcs_of net).transitions
      → end_clock net restarts r u ≡ end_instant r - instants_of r (last_restart net restarts (order_of (firings_of r)) (length (firings_of r)) u)

abbrev pub ClockCounts : Type 0
ClockCounts = (net : Net) (restarts : Restart) (r : Run) → (replay net restarts r).checked ≡ Passed → CountsFromRestarts net restarts r

-- ======== Q-3, sheet numbers. "run cards written as answers copy it": `sheet` of `EarliestRun` and of `RoundedDown`, in demand 3
-- "Every net, run and order card gets a new first line `sheet`"
abbrev pub SheetFirst : Type 0
SheetFirst =
    (net : Net)
    → ((rest : List ℕ) × (net_card.text net ≡ sheet.text net.sheet ++ rest))
    × ((r : Run) → (rest : List ℕ) × ((card_of run_card net).text r ≡ sheet.text r.sheet ++ rest))
    × ((o : Order) → (rest : List ℕ) × ((card_of order_card net).text o ≡ sheet.text o.sheet ++ rest))

-- "line places move down by one": where the sheet is in range, and the net's, the lines of document 01 are checked as they were, from line 2 on
abbrev pub LinesMoved : Type 0
LinesMoved =
    (net : Net) → net.sheet ≤ 9999
    → (net_card.check net 1 ≡ counted_lines.check (from_net net).1 2)
    × ((r : Run) → r.sheet ≡ net.sheet → (card_of run_card net).check r 1 ≡ (run_lines net.transitions).check (from_run r).1 2)
    × ((o : Order) → o.sheet ≡ net.sheet → (card_of order_card net).check o 1 ≡ (order_lines net.transitions).check (from_order o).1 2)

-- "demand 2 speaks of runs on their net's sheet": whatever is answered, and whatever cards are read, are on one sheet
abbrev pub AcceptedSheet : Type 0
AcceptedSheet =
    ((what : OnRun) (net : Net) (r : Run) → Answered (values_of what net r) → r.sheet ≡ net.sheet)
    × ((net : Net) (o : Order) → Answered (timetable_values net o) → o.sheet ≡ net.sheet)
    × ((s : List ℕ) (net : Net) (r : Run) (next : ℕ) → run_cards s ≡ found (net, r) next → r.sheet ≡ net.sheet)
    × ((s : List ℕ) (net : Net) (o : Order) (next : ℕ) → order_cards s ≡ found (net, o) next → o.sheet ≡ net.sheet)

-- "A run or order whose sheet isn't its net's is refused as 11 at its line 1", whatever else is wrong with it
abbrev pub WrongSheet : Type 0
WrongSheet =
    (net : Net) → net_card.check net 1 ≡ Passed
    → ((what : OnRun) (r : Run) → r.sheet ≤ 9999 → (r.sheet ≡ net.sheet → ⊥) → values_of what net r ≡ refusal (AnotherSheet 1))
    × ((o : Order) → o.sheet ≤ 9999 → (o.sheet ≡ net.sheet → ⊥) → timetable_values net o ≡ refusal (AnotherSheet 1))

-- "checked as soon as that line is read and in range": whatever bytes stand behind the line
abbrev pub WrongSheetAtOnce : Type 0
WrongSheetAtOnce =
    (net : Net) → net_card.check net 1 ≡ Passed → (n : ℕ) → n ≤ 9999 → (n ≡ net.sheet → ⊥) → (rest : List ℕ) → let line = sheet.text n ++ rest in
    ((what : OnRun) → cards_of what (net_card.text net ++ line) ≡ refusal (AnotherSheet 1))
    × (timetable_cards (net_card.text net ++ line) ≡ refusal (AnotherSheet 1))
    × (read_run net line ≡ refused (AnotherSheet 1))
    × (read_order net line ≡ refused (AnotherSheet 1))

-- and 11 at line 1 is told of nothing else, over values and over cards
abbrev pub Elsewhere : Net → ℕ → Type 0
Elsewhere net n = (net_card.check net 1 ≡ Passed) × (n ≤ 9999) × (n ≡ net.sheet → ⊥)

abbrev pub WrongSheetExactly : Type 0
WrongSheetExactly =
    ((what : OnRun) (net : Net) (r : Run) → (values_of what net r ≡ refusal (AnotherSheet 1)) ↔ Elsewhere net r.sheet)
    × ((net : Net) (o : Order) → (timetable_values net o ≡ refusal (AnotherSheet 1)) ↔ Elsewhere net o.sheet)
    × ((what : OnRun) (s : List ℕ) → (cards_of what s ≡ refusal (AnotherSheet 1)) ↔ OnAnotherSheet s)
    × ((s : List ℕ) → (timetable_cards s ≡ refusal (AnotherSheet 1)) ↔ OnAnotherSheet s)
