-- The earliest timetable of an order value as a run value, or why there is none.
use Rattle.reply.specs.Respond.{Checked, Passed}
use Rattle.std.specs.Prelude.{ℕ, ◌+◌, ◌-◌, min, List, get_or, replicate, Result, Ok, Err}
use Rattle.laws.specs.Arrays.{filled}
use Rattle.reply.specs.declared.Refusal.{Refusal}
use Rattle.reply.specs.declared.Refusal.TheVariants.{Untimable}
use Rattle.net.specs.declared.Net.{Net}
use Rattle.run.specs.declared.Firing.{Firing}
use Rattle.run.specs.declared.Run.{Run}
use Rattle.run.specs.declared.Order.{Order}
use Rattle.run.specs.Run.{no_firing, fires_of}
use Rattle.firing.specs.Semantics.{arcs_of, rule_of, start_marking}
use Rattle.firing.specs.Tokens.{tokens}
use Rattle.timing.specs.Solve.{Verdict, met_by, fails_at}
use Rattle.timing.specs.Schedule.{Scheduled, timed, unschedulable, verdict_of}
use Rattle.timing.specs.Rounding.{timetable_run}

-- the wait from an instant to another: none where that is before, and the longest that a run value can hold where it is longer
abbrev pub gap_of : ℕ → ℕ → ℕ
gap_of s t = min (t - s) 4294967295

-- firing i of an order, between the instants i and i + 1
abbrev pub timed_firing : Order → List ℕ → ℕ → Firing
timed_firing o x i = record { wait = gap_of (get_or x i 0) (get_or x (i + 1) 0); fire = get_or o.fires i 0 }

-- the run of an order at given instants
unfoldable pub timed_run : Order → List ℕ → Run
timed_run o x =
    let n = min o.count 64 in
    record { sheet = o.sheet; memory = o.memory; denominator = 1; count = n; firings = filled (timed_firing o x) n (replicate 64 no_firing); rest = 0 }

-- the verdict on the windows: the run, or 8
abbrev pub timetabled_by : Order → Verdict → Result Run Refusal
timetabled_by o (met_by x) = Ok (timed_run o x)
timetabled_by o (fails_at k) = Err (Untimable k)

-- the verdict counts where the tokens allow the order: otherwise it is 5 or 6
abbrev pub timetabled_after : Order → Checked → Verdict → Result Run Refusal
timetabled_after o Passed v = timetabled_by o v
timetabled_after o (Err r) v = Err r

-- "For an order, 5 and 6 through all firings, then 8"
unfoldable pub timetabled : Net → Order → Result Run Refusal
timetabled net o = timetabled_after o (tokens net (fires_of o) (start_marking net) 0) (verdict_of net (rule_of (arcs_of net) o.memory) (fires_of o))

-- the timetable of a schedule
abbrev pub scheduled_run : Order → Scheduled → Result Run Refusal
scheduled_run o (timed ws) = Ok (timetable_run o.sheet o.memory (fires_of o) ws)
scheduled_run o (unschedulable r) = Err r
