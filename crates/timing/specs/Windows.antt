-- Document 01, "Windows and instants": the window of each firing of an order, and the timings that meet them.
use Rattle.reply.specs.Respond.{Passed}
use Rattle.std.specs.Prelude.{ℕ, zero, suc, ◌+◌, ◌≡◌, cond, List, [], ◌∷◌, length, get_or, take, None, Option, Some}
use Rattle.net.specs.declared.Net.{Net}
use Rattle.net.specs.Net.{no_transition}
use Rattle.firing.specs.declared.State.{State}
use Rattle.firing.specs.Semantics.{Restart, transition_at, start_marking}
use Rattle.firing.specs.Replay.{start_state, waited, fired}
use Rattle.firing.specs.Tokens.{tokens, marking_after}
use Rattle.timing.specs.declared.Window.{Window}
use Rattle.timing.specs.Timing.{Upper, at_most, unbounded, Win, Feasible}

abbrev pub upper_of : Option ℕ → Upper
upper_of None = unbounded
upper_of (Some b) = at_most b

-- window i of a list, as bounds on instants
abbrev pub no_window : Window
no_window = record { origin = 0; interval = no_transition }

abbrev pub win_of : Window → Win
win_of w = record { origin = w.origin; low = w.interval.earliest; high = upper_of w.interval.latest }

abbrev pub windows : List Window → ℕ → Win
windows ws i = win_of (get_or ws i no_window)

-- Along an order a state's instants count firings: `since` of a transition is the firing o at which it last restarted, 0 for the beginning.
-- The window of a firing of t: earliest and latest, counted from firing o.
abbrev pub window_at : Net → State → ℕ → Window
window_at net st t = record { origin = get_or st.since t 0; interval = transition_at net t }

unfoldable pub windows_from : Net → Restart → List ℕ → State → List Window
windows_from net restarts [] st = []
windows_from net restarts (t ∷ ts) st = window_at net st t ∷ windows_from net restarts ts (fired net restarts (waited st 1) t)

unfoldable pub windows_of : Net → Restart → List ℕ → List Window
windows_of net restarts order = windows_from net restarts order (start_state net)

-- "last restarted, before firing i, at firing o (0 for the beginning)": the last of the first i firings at which u restarted, from order, markings and rule
unfoldable pub last_restart : Net → Restart → List ℕ → ℕ → ℕ → ℕ
last_restart net restarts order zero u = 0
last_restart net restarts order (suc i) u =
    cond (restarts (marking_after net (start_marking net) (take i order)) (get_or order i 0) u) (suc i) (last_restart net restarts order i u)

-- S0 = 0, and Si is the sum of the first i waits
unfoldable pub instants : List ℕ → ℕ → ℕ
instants [] i = 0
instants (w ∷ ws) zero = 0
instants (w ∷ ws) (suc i) = w + instants ws i

-- a timing of an order at denominator D: a wait for each firing, in parts, together meeting all windows, where the tokens allow the order
pub record Timing (net : Net) (restarts : Restart) (D : ℕ) (order : List ℕ) (waits : List ℕ) : Type 0 where
  pub allowed : tokens net order (start_marking net) 0 ≡ Passed
  pub complete : length waits ≡ length order
  pub meets : Feasible D (windows (windows_of net restarts order)) (length order) (instants waits)

-- some timing exists
abbrev pub Timable : Net → Restart → ℕ → List ℕ → Type 0
Timable net restarts D order = (waits : List ℕ) × Timing net restarts D order waits
