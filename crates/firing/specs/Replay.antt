-- The replay of a run, computed: firing by firing 5, then 7, then 6.
use Rattle.reply.specs.Respond.{Checked, Passed}
use Rattle.std.specs.Prelude.{ℕ, ◌+◌, ◌-◌, ◌*◌, Bool, true, cond, ◌&&◌, List, [], ◌∷◌, get_or, replicate, leb, Err, None, Option, Some}
use Rattle.laws.specs.Tests.{all_below}
use Rattle.laws.specs.Arrays.{filled}
use Rattle.reply.specs.declared.Refusal.TheVariants.{NotEnabled, OutsideInterval, TooManyTokens}
use Rattle.net.specs.declared.Transition.{Transition}
use Rattle.net.specs.declared.Net.{Net}
use Rattle.run.specs.declared.Firing.{Firing}
use Rattle.run.specs.declared.Run.{Run}
use Rattle.run.specs.Run.{firings_of}
use Rattle.firing.specs.declared.State.{State}
use Rattle.firing.specs.declared.Played.{Played}
use Rattle.firing.specs.Semantics.{Arcs, arcs_of, takes, gives, Restart, transition_at, start_marking, enabled, after}

-- the start: M₀, every clock counted from instant 0
unfoldable pub start_state : Net → State
start_state net = record { marking = start_marking net; since = replicate 32 0; now = 0 }

-- w parts later
unfoldable pub waited : State → ℕ → State
waited st w = record { marking = st.marking; since = st.since; now = st.now + w }

-- a clock counts from the transition's last restart
unfoldable pub clock_of : State → ℕ → ℕ
clock_of st u = st.now - get_or st.since u 0

-- earliest ≤ clock ≤ latest, both ends included; in parts both bounds are taken D times
abbrev pub not_after : ℕ → Option ℕ → ℕ → Bool
not_after D None c = true
not_after D (Some b) c = leb c (D * b)

unfoldable pub timely : Transition → ℕ → ℕ → Bool
timely t D c = leb (D * t.earliest) c && not_after D t.latest c

-- no place passes 255 tokens when t has fired
unfoldable pub limited : Arcs → List ℕ → ℕ → Bool
limited a m t = all_below (λ p. leb (get_or m p 0 - takes a t p + gives a t p) 255) a.places

-- the judgement of firing number n, of t with its interval, whose clock is given: not enabled, outside the interval, too many tokens
unfoldable pub judged_by : Arcs → Transition → ℕ → List ℕ → ℕ → ℕ → ℕ → Checked
judged_by a interval D m clock t n =
    cond (enabled a m t)
    (cond (timely interval D clock) (cond (limited a m t) Passed (Err (TooManyTokens n))) (Err (OutsideInterval n)))
    (Err (NotEnabled n))

-- the instants of the last restarts, when t has fired
unfoldable pub renewed : Arcs → Restart → List ℕ → List ℕ → ℕ → ℕ → List ℕ
renewed a restarts m since t instant = filled (λ u. cond (restarts m t u) instant (get_or since u 0)) a.transitions since

-- the judgement of firing number n, of t, in a state, and the state after it
abbrev pub judged : Net → ℕ → State → ℕ → ℕ → Checked
judged net D st t n = judged_by (arcs_of net) (transition_at net t) D st.marking (clock_of st t) t n

unfoldable pub fired : Net → Restart → State → ℕ → State
fired net restarts st t =
    record { marking = after (arcs_of net) st.marking t; since = renewed (arcs_of net) restarts st.marking st.since t st.now; now = st.now }

-- the firings that are left, from a state in which n have been: the last state, or the first refusal and the state before that firing
abbrev pub step_on : Checked → State → Played → Played
step_on Passed st later = later
step_on (Err r) st later = record { checked = Err r; state = st }

unfoldable pub play : Net → Restart → ℕ → List Firing → State → ℕ → Played
play net restarts D [] st n = record { checked = Passed; state = st }
play net restarts D (f ∷ fs) st n =
    let later = play net restarts D fs (fired net restarts (waited st f.wait) f.fire) (n + 1) in
    step_on (judged net D (waited st f.wait) f.fire (n + 1)) st later

-- the state after the rest
abbrev pub rested : ℕ → Played → Played
rested rest p = record { checked = p.checked; state = waited p.state rest }

-- a run's replay
unfoldable pub replay : Net → Restart → Run → Played
replay net restarts r = rested r.rest (play net restarts r.denominator (firings_of r) (start_state net) 0)
