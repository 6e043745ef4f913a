-- What demand 3 asks of a timetable and of a rounded run.
use Rattle.reply.specs.Respond.{Passed}
use Rattle.std.specs.Prelude.{ℕ, ◌+◌, ◌*◌, ◌/◌, ◌≤◌, ◌<◌, ◌≡◌, List, length, get_or, take}
use Rattle.form.specs.Form.{found}
use Rattle.net.specs.declared.Net.{Net}
use Rattle.run.specs.declared.Run.{Run}
use Rattle.run.specs.declared.Order.{Order}
use Rattle.firing.specs.Semantics.{Restart, Timed, Allowed}
use Rattle.run.specs.Run.{firings_of, fires_of, order_of, waits_of}
use Rattle.firing.specs.Replay.{start_state, waited, clock_of, play, replay}
use Rattle.timing.specs.Windows.{instants, Timing}
use Rattle.timing.specs.Rounding.{end_instant}
use Rattle.cards.specs.Cards.{read_run, run_checked}

-- the instants S0, S1, .. of a run's firings, in parts
abbrev pub instants_of : Run → ℕ → ℕ
instants_of r = instants (waits_of (firings_of r))

-- the marking after the first i firings of a run
abbrev pub marking_at : Net → Restart → Run → ℕ → List ℕ
marking_at net restarts r i = (play net restarts r.denominator (take i (firings_of r)) (start_state net) 0).state.marking

-- the clock of u right before firing i + 1 of a run, and at its end
abbrev pub clock_at : Net → Restart → Run → ℕ → ℕ → ℕ
clock_at net restarts r i u =
    clock_of (waited (play net restarts r.denominator (take i (firings_of r)) (start_state net) 0).state (get_or (waits_of (firings_of r)) i 0)) u

abbrev pub end_clock : Net → Restart → Run → ℕ → ℕ
end_clock net restarts r u = clock_of (replay net restarts r).state u

-- c ticks and d parts, D to the tick, are less than a tick apart
abbrev pub LessThanATick : ℕ → ℕ → ℕ → Type 0
LessThanATick D c d = (D * c < d + D) × (d < D * c + D)

-- bytes are the card of a whole-tick run: the engine accepts it, and the published semantics allows it
pub record WholeTickRun (net : Net) (restarts : Restart) (bytes : List ℕ) (r : Run) : Type 0 where
  pub is_card : read_run net bytes ≡ found r (length bytes)
  pub whole_ticks : r.denominator ≡ 1
  pub checked : run_checked net r ≡ Passed
  pub accepted : (replay net restarts r).checked ≡ Passed
  pub allowed : (end : Timed) × Allowed net restarts 1 (firings_of r) r.rest end

-- r is the earliest timetable of an order, on the net's sheet: no timing at any denominator has any firing earlier
pub record EarliestRun (net : Net) (restarts : Restart) (o : Order) (r : Run) : Type 0 where
  pub sheet : r.sheet ≡ net.sheet
  pub memory : r.memory ≡ o.memory
  pub order : order_of (firings_of r) ≡ fires_of o
  pub no_rest : r.rest ≡ 0
  pub earliest : (D : ℕ) → 0 < D → (waits : List ℕ) → Timing net restarts D (fires_of o) waits → (i : ℕ) → i ≤ length (fires_of o)
      → D * instants_of r i ≤ instants waits i
  pub early : (i : ℕ) → instants_of r i ≤ 64000

-- q is the run r, on the net's sheet, with every instant, the end included, rounded down to whole ticks
pub record RoundedDown (net : Net) (restarts : Restart) (r q : Run) : Type 0 where
  pub sheet : q.sheet ≡ net.sheet
  pub memory : q.memory ≡ r.memory
  pub order : order_of (firings_of q) ≡ order_of (firings_of r)
  pub instant : (i : ℕ) → instants_of q i ≡ instants_of r i / r.denominator
  pub end : end_instant q ≡ end_instant r / r.denominator
  pub markings : (i : ℕ) → marking_at net restarts q i ≡ marking_at net restarts r i
  -- "Each clock and each instant moves by less than one tick"
  pub instants_near : (i : ℕ) → LessThanATick r.denominator (instants_of q i) (instants_of r i)
  pub end_near : LessThanATick r.denominator (end_instant q) (end_instant r)
  pub clocks_near : (i u : ℕ) → i < length (firings_of r) → LessThanATick r.denominator (clock_at net restarts q i u) (clock_at net restarts r i u)
  pub end_clocks_near : (u : ℕ) → LessThanATick r.denominator (end_clock net restarts q u) (end_clock net restarts r u)
