-- What waiting and firing do to the clocks of a state, which counts each from the instant of its last restart.
use Rattle.std.specs.Prelude.{None, Option, Some}
use Prim.Native.Nat.{ℕ, ◌+◌, ◌-◌, ◌*◌, ◌≤◌, ◌<◌}
use native.Mathlib.Nat.{le_refl, sub_self, min-le_right}
use native.Mathlib.Omega.{arith}
use native.Mathlib.Decide.{dec_lt}
use mathlib.Core.Path.{◌≡◌, refl, ◌∙◌}
use mathlib.Core.Bool.{Bool, true, false, cond, and-eq-true_iff}
use mathlib.Core.Logic.{◌↔◌}
use mathlib.Core.List.{List}
use lib.ListN.{length, get_or}
use lib.Dec.{leb, ltb}
use borrow.Author.Tests.{leb-true, le-leb, ltb-true}
use Rattle.laws.specs.Tests.{all_below, all_at, all_each}
use Rattle.laws.specs.Arrays.{filled, length_filled, filled_at, filled_past, filled_most}
use Rattle.net.specs.declared.Transition.{Transition}
use Rattle.net.specs.declared.Net.{Net}
use Rattle.firing.specs.declared.State.{State}
use Rattle.firing.specs.Semantics.{Arcs, arcs_of, Restart, NotAfter, takes, gives, enough, enabled, taken, after}
use Rattle.firing.specs.Replay.{waited, clock_of, not_after, timely, limited, renewed, fired}

-- no clock restarts in the future, and the arrays are full
pub record Sound (st : State) : Type 0 where
  pub past : (u : ℕ) → get_or st.since u 0 ≤ st.now
  pub tokens : length st.marking ≡ 16
  pub clocks : length st.since ≡ 32

-- places and transitions of a net value are within the arrays
pub few_places : (net : Net) → (arcs_of net).places ≤ 16
few_places net = min-le_right net.places 16

pub few_transitions : (net : Net) → (arcs_of net).transitions ≤ 32
few_transitions net = min-le_right net.transitions 32

pub enabled_listed : (a : Arcs) (m : List ℕ) (u : ℕ) → enabled a m u ≡ true → u < a.transitions
enabled_listed a m u e = ltb-true u a.transitions ((and-eq-true_iff _ _).0 e).0

module _ (st : State) (w : ℕ) (h : Sound st) where
  pub sound_waited : Sound (waited st w)
  unfolding waited
  sound_waited = record { past = λ u. omega (arith, h.past u); tokens = h.tokens; clocks = h.clocks }

  pub clock_waited : (u : ℕ) → clock_of (waited st w) u ≡ clock_of st u + w
  unfolding waited clock_of
  clock_waited u = omega (arith, h.past u)

module _ (net : Net) (restarts : Restart) (st : State) (t : ℕ) (h : Sound st) where
  abbrev restarted : ℕ → ℕ
  restarted u = cond (restarts st.marking t u) st.now (get_or st.since u 0)

  pub since_fired : (u : ℕ) → u < (arcs_of net).transitions → get_or (fired net restarts st t).since u 0 ≡ restarted u
  unfolding fired renewed
  since_fired u l = filled_at restarted st.since 0 (arcs_of net).transitions u l (omega (arith, h.clocks, few_transitions net))

  pub since_past : (u : ℕ) → (arcs_of net).transitions ≤ u → get_or (fired net restarts st t).since u 0 ≡ get_or st.since u 0
  unfolding fired renewed
  since_past u l = filled_past restarted st.since 0 (arcs_of net).transitions u l

  now_fired : (fired net restarts st t).now ≡ st.now
  unfolding fired
  now_fired = refl

  fired_past : (u : ℕ) → get_or (fired net restarts st t).since u 0 ≤ st.now
  fired_past u = go (dec_lt u (arcs_of net).transitions)
    where
      both : (b : Bool) → cond b st.now (get_or st.since u 0) ≤ st.now
      both true = le_refl st.now
      both false = h.past u

      go : Dec (u < (arcs_of net).transitions) → get_or (fired net restarts st t).since u 0 ≤ st.now
      go (yes l) = rw (since_fired u l) (both (restarts st.marking t u))
      go (no n) = rw (since_past u (omega arith)) (h.past u)

  pub sound_fired : Sound (fired net restarts st t)
  unfolding fired renewed after
  sound_fired =
      record {
        past = fired_past;
        tokens = length_filled (λ p. get_or st.marking p 0 - takes (arcs_of net) t p + gives (arcs_of net) t p) st.marking (arcs_of net).places ∙ h.tokens;
        clocks = length_filled restarted st.since (arcs_of net).transitions ∙ h.clocks;
      }

  pub clock_fired : (u : ℕ) → u < (arcs_of net).transitions → clock_of (fired net restarts st t) u ≡ cond (restarts st.marking t u) 0 (clock_of st u)
  unfolding clock_of
  clock_fired u l = rw (since_fired u l, now_fired) (go (restarts st.marking t u))
    where
      go : (b : Bool) → st.now - cond b st.now (get_or st.since u 0) ≡ cond b 0 (st.now - get_or st.since u 0)
      go true = sub_self st.now
      go false = refl

-- ---- the tests of a firing, as the published semantics has them
not_after_lem : (D : ℕ) (l : Option ℕ) (c : ℕ) → (not_after D l c ≡ true) ↔ NotAfter D l c
not_after_lem D None c = (λ e. tt, λ e. refl)
not_after_lem D (Some b) c = (leb-true c (D * b), le-leb c (D * b))

pub timely_true : (i : Transition) (D c : ℕ) → (timely i D c ≡ true) ↔ ((D * i.earliest ≤ c) × NotAfter D i.latest c)
unfolding timely
timely_true i D c =
    let low = D * i.earliest in
    let parts = and-eq-true_iff (leb low c) (not_after D i.latest c) in (
      λ e. let h = parts.0 e in (leb-true low c h.0, (not_after_lem D i.latest c).0 h.1),
      λ h. parts.1 (le-leb low c h.0, (not_after_lem D i.latest c).1 h.1),
    )

module _ (a : Arcs) (m : List ℕ) (t : ℕ) where
  -- the tokens of place p when t has fired
  abbrev pub tokens_on : ℕ → ℕ
  tokens_on p = get_or m p 0 - takes a t p + gives a t p

  pub length_after : length (after a m t) ≡ length m
  unfolding after
  length_after = length_filled tokens_on m a.places

  pub after_at : (p : ℕ) → p < a.places → p < length m → get_or (after a m t) p 0 ≡ tokens_on p
  unfolding after
  after_at p l b = filled_at tokens_on m 0 a.places p l b

  pub limited_true : a.places ≤ length m → (limited a m t ≡ true) ↔ ((p : ℕ) → p < a.places → get_or (after a m t) p 0 ≤ 255)
  unfolding limited
  limited_true few = (
    λ e p l. rw (after_at p l (omega arith)) (leb-true (tokens_on p) 255 (all_at (λ q. leb (tokens_on q) 255) p a.places e l)),
    λ h. all_each (λ p. leb (tokens_on p) 255) a.places (λ p l. le-leb (tokens_on p) 255 (rw (after_at p l (omega arith)) at (h p l))),
  )

  -- what is enabled after the taking was enabled before
  pub taken_enabled : (u : ℕ) → enabled a (taken a m t) u ≡ true → enabled a m u ≡ true
  unfolding enough taken
  taken_enabled u e =
      let left : ℕ → ℕ = λ p. get_or m p 0 - takes a t p in
      let h = (and-eq-true_iff (ltb u a.transitions) (all_below (λ p. leb (takes a u p) (get_or (filled left a.places m) p 0)) a.places)).0 e in
      (and-eq-true_iff (ltb u a.transitions) (all_below (λ p. leb (takes a u p) (get_or m p 0)) a.places)).1 (
        h.0,
        all_each (λ p. leb (takes a u p) (get_or m p 0)) a.places (λ p l.
            let b : takes a u p ≤ get_or (filled left a.places m) p 0 =
            leb-true _ _ (all_at (λ q. leb (takes a u q) (get_or (filled left a.places m) q 0)) p a.places h.1 l) in
            le-leb (takes a u p) (get_or m p 0) (omega (arith, b, filled_most left m a.places p l))),
      )
