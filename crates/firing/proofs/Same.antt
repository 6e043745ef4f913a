-- Document 01, "The caller": slots past a value's counts are no part of it. Nets that agree in all that counts have the same replays, and so have runs:
-- a firing of a transition past the count is not enabled, whatever its slots hold.
use Prim.Native.Nat.{ℕ, ◌+◌, ◌-◌, ◌≤◌, ◌<◌, min}
use native.Mathlib.Omega.{arith}
use native.Mathlib.Decide.{dec_lt}
use mathlib.Core.Path.{◌≡◌, refl, sym, ap, ◌∙◌}
use mathlib.Core.Bool.{Bool, false, cond}
use mathlib.Core.List.{List, [], ◌∷◌}
use lib.ListN.{get_or, replicate}
use lib.Dec.{leb}
use borrow.Author.Tests.{le-ltb}
use Rattle.laws.specs.Tests.{all_same}
use Rattle.laws.specs.Arrays.{filled, filled_same}
use Rattle.net.specs.declared.Net.{Net}
use Rattle.net.specs.Same.{SameNet}
use Rattle.run.specs.declared.Memory.{Memory}
use Rattle.run.specs.declared.Firing.{Firing}
use Rattle.run.specs.declared.Run.{Run}
use Rattle.run.specs.Run.{firings_of}
use Rattle.run.specs.Same.{SameRun}
use Rattle.run.proofs.Same.{same_firings}
use Rattle.firing.specs.declared.State.{State}
use Rattle.firing.specs.Semantics.{arcs_of, takes, gives, Restart, transition_at, start_marking, enough, enabled, taken, after, looked_at, rule_of}
use Rattle.firing.specs.Replay.{start_state, waited, limited, judged_by, renewed, fired, play, replay}
use Rattle.firing.specs.Tokens.{tokens_judged, tokens}
use Rattle.firing.proofs.Clocks.{tokens_on}

-- a transition past the count is not enabled
not_listed : (net : Net) (m : List ℕ) (t : ℕ) → (arcs_of net).transitions ≤ t → enabled (arcs_of net) m t ≡ false
not_listed net m t h = rw (le-ltb t (arcs_of net).transitions h) refl

module _ {a b : Net} (same : SameNet a b) where
  pub same_transitions : (arcs_of a).transitions ≡ (arcs_of b).transitions
  same_transitions = ap (λ (n : ℕ). min n 32) same.transitions

  pub same_start : start_marking a ≡ start_marking b
  unfolding start_marking
  same_start =
      rw same.places (filled_same (λ p. get_or a.start p 0) (λ p. get_or b.start p 0) (replicate 16 0) (min b.places 16)
      (λ p h. same.start p (omega arith)))

  -- ---- a transition of the net
  module _ (t : ℕ) (l : t < (arcs_of a).transitions) where
    pub same_takes : (p : ℕ) → p < (arcs_of b).places → takes (arcs_of a) t p ≡ takes (arcs_of b) t p
    same_takes p h = same.take t p (omega (arith, same.transitions)) (omega arith)

    pub same_gives : (p : ℕ) → p < (arcs_of b).places → gives (arcs_of a) t p ≡ gives (arcs_of b) t p
    same_gives p h = same.give t p (omega (arith, same.transitions)) (omega arith)

    pub same_interval : transition_at a t ≡ transition_at b t
    same_interval = same.table t (omega (arith, same.transitions))

    same_tokens_on : (m : List ℕ) (p : ℕ) → p < (arcs_of b).places → tokens_on (arcs_of a) m t p ≡ tokens_on (arcs_of b) m t p
    same_tokens_on m p h = rw (same_takes p h, same_gives p h) refl

    same_enough : (m : List ℕ) → enough a.take (arcs_of a).places m t ≡ enough b.take (arcs_of b).places m t
    unfolding enough
    same_enough m =
        rw same.places (all_same (λ p. leb (takes (arcs_of a) t p) (get_or m p 0)) (λ p. leb (takes (arcs_of b) t p) (get_or m p 0)) (arcs_of b).places
        (λ p h. ap (λ (n : ℕ). leb n (get_or m p 0)) (same_takes p h)))

    pub same_taken : (m : List ℕ) → taken (arcs_of a) m t ≡ taken (arcs_of b) m t
    unfolding taken
    same_taken m =
        rw same.places (filled_same (λ p. get_or m p 0 - takes (arcs_of a) t p) (λ p. get_or m p 0 - takes (arcs_of b) t p) m (arcs_of b).places
        (λ p h. ap (λ (n : ℕ). get_or m p 0 - n) (same_takes p h)))

    pub same_after : (m : List ℕ) → after (arcs_of a) m t ≡ after (arcs_of b) m t
    unfolding after
    same_after m = rw same.places (filled_same (tokens_on (arcs_of a) m t) (tokens_on (arcs_of b) m t) m (arcs_of b).places (same_tokens_on m))

    same_limited : (m : List ℕ) → limited (arcs_of a) m t ≡ limited (arcs_of b) m t
    unfolding limited
    same_limited m =
        rw same.places (all_same (λ p. leb (tokens_on (arcs_of a) m t p) 255) (λ p. leb (tokens_on (arcs_of b) m t p) 255) (arcs_of b).places
        (λ p h. ap (λ (n : ℕ). leb n 255) (same_tokens_on m p h)))

  -- ---- any transition
  pub same_enabled : (m : List ℕ) (t : ℕ) → enabled (arcs_of a) m t ≡ enabled (arcs_of b) m t
  same_enabled m t = go (dec_lt t (arcs_of a).transitions)
    where
      go : Dec (t < (arcs_of a).transitions) → enabled (arcs_of a) m t ≡ enabled (arcs_of b) m t
      go (yes l) = rw (same_enough t l m, same.transitions) refl
      go (no n) = not_listed a m t (omega arith) ∙ sym (not_listed b m t (omega (arith, same_transitions)))

  pub same_tokens : (order m : List ℕ) (n : ℕ) → tokens a order m n ≡ tokens b order m n
  unfolding tokens tokens_judged
  same_tokens [] m n = refl
  same_tokens (t ∷ order) m n = go (dec_lt t (arcs_of a).transitions) (λ m'. same_tokens order m' (n + 1))
    where
      go : Dec (t < (arcs_of a).transitions) → ((m' : List ℕ) → tokens a order m' (n + 1) ≡ tokens b order m' (n + 1))
          → tokens a (t ∷ order) m n ≡ tokens b (t ∷ order) m n
      go (yes l) ih = rw (same_enabled m t, same_limited t l m, same_after t l m, ih (after (arcs_of b) m t)) refl
      go (no k) ih = rw (not_listed a m t (omega arith), not_listed b m t (omega (arith, same_transitions))) refl

  -- so they allow the same orders
  pub same_allowed : (order : List ℕ) → tokens a order (start_marking a) 0 ≡ tokens b order (start_marking b) 0
  same_allowed order = same_tokens order (start_marking a) 0 ∙ ap (λ (m : List ℕ). tokens b order m 0) same_start

  -- ---- the replay under a memory word
  module _ (memory : Memory) where
    pub same_rule : (m : List ℕ) (t u : ℕ) → t < (arcs_of a).transitions → rule_of (arcs_of a) memory m t u ≡ rule_of (arcs_of b) memory m t u
    unfolding rule_of
    same_rule m t u l =
        let looked = looked_at memory m (taken (arcs_of b) m t) in
        rw (same_after t l m, same_taken t l m, same_enabled (after (arcs_of b) m t) u, same_enabled looked u) refl

    pub same_fired : (st : State) (t : ℕ) → t < (arcs_of a).transitions → fired a (rule_of (arcs_of a) memory) st t ≡ fired b (rule_of (arcs_of b) memory) st t
    unfolding fired renewed
    same_fired st t l =
        let restarted : Net → ℕ → ℕ = λ net u. cond (rule_of (arcs_of net) memory st.marking t u) st.now (get_or st.since u 0) in
        let again : filled (restarted a) (arcs_of a).transitions st.since ≡ filled (restarted b) (arcs_of b).transitions st.since =
        ap (λ (n : ℕ). filled (restarted a) n st.since) same_transitions
        ∙ filled_same (restarted a) (restarted b) st.since (arcs_of b).transitions
        (λ u h. ap (λ (r : Bool). cond r st.now (get_or st.since u 0)) (same_rule st.marking t u l)) in
        λ i. record { marking = same_after t l st.marking i; since = again i; now = st.now }

    pub same_play : (D : ℕ) (fs : List Firing) (st : State) (n : ℕ)
        → play a (rule_of (arcs_of a) memory) D fs st n ≡ play b (rule_of (arcs_of b) memory) D fs st n
    unfolding play judged_by
    same_play D [] st n = refl
    same_play D (f ∷ fs) st n = go (dec_lt f.fire (arcs_of a).transitions) (λ st'. same_play D fs st' (n + 1))
      where
        w : State
        w = waited st f.wait

        go : Dec (f.fire < (arcs_of a).transitions)
            → ((st' : State) → play a (rule_of (arcs_of a) memory) D fs st' (n + 1) ≡ play b (rule_of (arcs_of b) memory) D fs st' (n + 1))
            → play a (rule_of (arcs_of a) memory) D (f ∷ fs) st n ≡ play b (rule_of (arcs_of b) memory) D (f ∷ fs) st n
        go (yes l) ih =
            let t = f.fire in
            rw (same_enabled w.marking t, same_limited t l w.marking, same_interval t l, same_fired w t l, ih (fired b (rule_of (arcs_of b) memory) w t))
            refl
        go (no k) ih =
            rw (not_listed a w.marking f.fire (omega arith), not_listed b w.marking f.fire (omega (arith, same_transitions))) refl

    pub same_replay : (r : Run) → replay a (rule_of (arcs_of a) memory) r ≡ replay b (rule_of (arcs_of b) memory) r
    unfolding replay start_state
    same_replay r = rw (same_start, same_play r.denominator (firings_of r) (start_state b) 0) refl

-- runs that agree in all that counts
pub same_run : (net : Net) (restarts : Restart) {r q : Run} → SameRun r q → replay net restarts r ≡ replay net restarts q
unfolding replay
same_run net restarts same = rw (same_firings same, same.denominator, same.rest) refl
