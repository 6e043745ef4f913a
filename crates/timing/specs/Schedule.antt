-- The earliest timing of a firing order, and the rounding of waits to whole ticks, computed.
use Rattle.reply.specs.Respond.{Checked, Passed}
use Rattle.std.specs.Prelude.{ℕ, ◌+◌, ◌-◌, ◌/◌, List, [], ◌∷◌, length, Err}
use Rattle.reply.specs.declared.Refusal.{Refusal}
use Rattle.reply.specs.declared.Refusal.TheVariants.{Untimable}
use Rattle.net.specs.declared.Net.{Net}
use Rattle.firing.specs.Semantics.{Restart, start_marking}
use Rattle.firing.specs.Tokens.{tokens}
use Rattle.timing.specs.Windows.{windows, windows_of}
use Rattle.timing.specs.Solve.{Verdict, met_by, fails_at, solve_prefixes}

-- the least instants S0, S1, .. in whole ticks that meet the windows of an order, or the first firing up to which there are none
unfoldable pub verdict_of : Net → Restart → List ℕ → Verdict
verdict_of net restarts order =
    let ws = windows_of net restarts order in
    solve_prefixes 1 (windows ws) (length order)

-- "Si is the sum of the first i waits": the waits that lead from instant s to each of the next
unfoldable pub waits_from : ℕ → List ℕ → List ℕ
waits_from s [] = []
waits_from s (t ∷ ts) = (t - s) ∷ waits_from t ts

-- the waits between the instants S0, S1, ..
unfoldable pub waits_between : List ℕ → List ℕ
waits_between [] = []
waits_between (s ∷ ts) = waits_from s ts

-- the waits of a timetable, or why there is none
pub data Scheduled : Type 0 where
  timed : List ℕ → Scheduled
  unschedulable : Refusal → Scheduled

-- the verdict on the windows: the waits, or 8
abbrev pub scheduled_by : Verdict → Scheduled
scheduled_by (met_by x) = timed (waits_between x)
scheduled_by (fails_at k) = unschedulable (Untimable k)

-- the verdict counts where the tokens allow the order: otherwise it is 5 or 6
abbrev pub scheduled_after : Checked → Verdict → Scheduled
scheduled_after Passed v = scheduled_by v
scheduled_after (Err r) v = unschedulable r

-- "For an order, 5 and 6 through all firings, then 8": the waits of the earliest instants of an order
unfoldable pub schedule : Net → Restart → List ℕ → Scheduled
schedule net restarts order = let v = verdict_of net restarts order in scheduled_after (tokens net order (start_marking net) 0) v

-- "wait i becomes the whole part of Si/D less that of S(i−1)/D": the waits from instant s on, in parts at denominator D
unfoldable pub rounded_from : ℕ → ℕ → List ℕ → List ℕ
rounded_from D s [] = []
rounded_from D s (w ∷ ws) = ((s + w) / D - s / D) ∷ rounded_from D (s + w) ws

unfoldable pub rounded_waits : ℕ → List ℕ → List ℕ
rounded_waits D ws = rounded_from D 0 ws
