-- Windows held in a slice, what is asked of them, and the answer that a verdict is.
use Rattle.std.specs.Prelude.{ℕ, ◌≤◌, ◌<◌, ◌^◌, ◌≡◌, min, List, get_or, length, Result, Ok, Err}
use Rattle.laws.specs.Slots.{pad_to}
use Rattle.timing.specs.declared.Window.{Window}
use Rattle.timing.specs.Timing.{Win, Wellformed}
use Rattle.timing.specs.Windows.{no_window, windows, upper_of}
use Rattle.timing.specs.Solve.{Verdict, met_by, fails_at, solve_prefixes}

-- the instants that meet all windows, with zeros in all other slots, or how many windows cannot be met together
abbrev pub earliest_by : Verdict → Result (List ℕ) ℕ
earliest_by (met_by x) = Ok (pad_to 65 0 x)
earliest_by (fails_at k) = Err k

-- window i of windows that anyone may hand over: the origin counts as far as it is an earlier firing
abbrev pub clipped_at : List Window → ℕ → Win
clipped_at ws i =
    let w = get_or ws i no_window in
    record { origin = min w.origin i; low = w.interval.earliest; high = upper_of w.interval.latest }

-- at most 64 windows count, and each is measured from an earlier firing
unfoldable pub earliest_of : List Window → ℕ → Result (List ℕ) ℕ
earliest_of ws count = earliest_by (solve_prefixes 1 (clipped_at ws) (min count 64))

-- ---- windows in a slice

-- vs is ws with each window measured from an earlier firing
pub record Clipped (ws vs : List Window) : Type 0 where
  pub size : length vs ≡ length ws
  pub same : (i : ℕ) → i < length ws → windows vs i ≡ clipped_at ws i

-- at most 64 windows, each measured from an earlier firing
pub record Listed (ws : List Window) : Type 0 where
  pub few : length ws ≤ 64
  pub earlier : Wellformed (windows ws) (length ws)

-- the lower bounds of the first n windows are below 2 ^ 32
abbrev pub Short : List Window → ℕ → Type 0
Short ws n = (i : ℕ) → i < n → (windows ws i).low < 2 ^ 32
