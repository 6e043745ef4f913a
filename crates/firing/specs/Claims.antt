-- What the replay says in terms of the published semantics: its states, and its refusals.
use Rattle.std.specs.Prelude.{ℕ, ◌+◌, ◌*◌, ◌≤◌, ◌<◌, ◌≡◌, true, false, ◌⊎◌, List, ◌∷◌, ◌++◌, length, get_or}
use Rattle.reply.specs.declared.Refusal.{Refusal}
use Rattle.reply.specs.declared.Refusal.TheVariants.{NotEnabled, TooManyTokens, OutsideInterval}
use Rattle.net.specs.declared.Net.{Net}
use Rattle.run.specs.declared.Firing.{Firing}
use Rattle.firing.specs.declared.State.{State}
use Rattle.firing.specs.Semantics.{arcs_of, Restart, Timed, NotAfter, transition_at, enabled, after, Elapses, Steps}
use Rattle.firing.specs.Replay.{clock_of}

-- the published state that a state of the replay stands for
abbrev pub view : State → Timed
view st = record { marking = st.marking; clock = λ u. clock_of st u }

-- the published state S has the marking of a state of the replay and, where S says something, its clocks
pub record Matches (net : Net) (S : Timed) (st : State) : Type 0 where
  pub same_marking : S.marking ≡ st.marking
  pub same_clocks : (u : ℕ) → enabled (arcs_of net) S.marking u ≡ true → S.clock u ≡ clock_of st u

-- a rule under which a transition restarts where it was not enabled before the firing
unfoldable pub Restarting : Net → Restart → Type 0
Restarting net restarts =
    (m : List ℕ) (t u : ℕ) → enabled (arcs_of net) (after (arcs_of net) m t) u ≡ true → enabled (arcs_of net) m u ≡ false → restarts m t u ≡ true

-- the clock is within the interval
abbrev pub OnTime : Net → ℕ → Timed → ℕ → Type 0
OnTime net D S t = (D * (transition_at net t).earliest ≤ S.clock t) × NotAfter D (transition_at net t).latest (S.clock t)

-- why firing number n, of t, is refused in the published state S: 5, 7 or 6, each only where those before it in this order do not hold
abbrev pub Because : Net → ℕ → Refusal → ℕ → Timed → ℕ → Type 0
Because net D r n S t =
    ((r ≡ NotEnabled n) × (enabled (arcs_of net) S.marking t ≡ false))
    ⊎ (((r ≡ OutsideInterval n) × (enabled (arcs_of net) S.marking t ≡ true) × (OnTime net D S t → ⊥))
    ⊎ ((r ≡ TooManyTokens n) × (enabled (arcs_of net) S.marking t ≡ true) × OnTime net D S t
    × ((p : ℕ) × (p < (arcs_of net).places) × (255 < get_or (after (arcs_of net) S.marking t) p 0))))

-- the firings fs from the published state S are refused with r: those in front of one are allowed, and that one is not, for the reason given
pub record FirstRefused (net : Net) (restarts : Restart) (D : ℕ) (fs : List Firing) (S : Timed) (n : ℕ) (r : Refusal) : Type 0 where
  pub front : List Firing
  pub refused : Firing
  pub behind : List Firing
  pub split : fs ≡ front ++ (refused ∷ behind)
  pub before : Timed
  pub there : Timed
  pub allowed : Steps net restarts D S front before
  pub waits : Elapses net before refused.wait there
  pub because : Because net D r (n + length front + 1) there refused.fire
