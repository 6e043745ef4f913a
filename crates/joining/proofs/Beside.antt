-- A run of the joined net is accepted exactly if the runs of its two sides are: the state of each side is a part of the joined state, behind it by what was
-- waited since that side's last firing.
use Rattle.std.specs.Prelude.{Err}
use Prim.Native.Nat.{ℕ, suc, ◌+◌, ◌-◌, ◌<◌}
use native.Mathlib.Nat.{zero-add}
use native.Mathlib.Omega.{arith}
use mathlib.Core.Path.{◌≡◌, refl, sym, ◌∙◌}
use mathlib.Core.Logic.{◌↔◌, inl, inr, ⊎_elim}
use mathlib.Core.List.{List, [], ◌∷◌}
use lib.ListN.{get_or}
use borrow.Author.Tests.{lt-ltb, le-ltb}
use Rattle.laws.specs.Each.{Each}
use Rattle.laws.specs.Sums.{le_or_lt}
use Rattle.reply.specs.Respond.{Checked, Passed}
use Rattle.net.specs.declared.Net.{Net}
use Rattle.run.specs.declared.Firing.{Firing}
use Rattle.run.specs.declared.Memory.{Memory}
use Rattle.firing.specs.declared.State.{State}
use Rattle.firing.specs.declared.Played.{Played}
use Rattle.firing.specs.Semantics.{arcs_of, transition_at, rule_of, Bounded}
use Rattle.firing.specs.Replay.{waited, clock_of, timely, fired, judged, step_on, play}
use Rattle.firing.specs.Claims.{view}
use Rattle.firing.proofs.Clocks.{Sound, sound_waited, sound_fired, since_fired}
use Rattle.firing.proofs.Agree.{refused_not, passes, passed, view_bounded}
use Rattle.joining.specs.Interleaving.{of_first, of_second, side_from, waited_from}
use Rattle.joining.proofs.Embedded.{Embeds, SameTokens, enabled_same, after_same, limited_same}
use Rattle.joining.proofs.Restarted.{Disjoint, restarts_same, after_other, restarts_not}

-- the state of a side is a part of the joined state, w parts behind it
pub record Beside (c : Net) (P T : ℕ) (st side : State) (w : ℕ) : Type 0 where
  pub whole : Sound st
  pub part : Sound side
  pub tokens : SameTokens c P st.marking side.marking
  pub restarted : (u : ℕ) → u < c.transitions → get_or st.since (T + u) 0 ≡ get_or side.since u 0
  pub behind : st.now ≡ side.now + w

-- ---- waits: the side falls behind, and catches up
module _ {c : Net} {P T : ℕ} {st side : State} {w : ℕ} (b : Beside c P T st side w) where
  pub beside_waited : (wait : ℕ) → Beside c P T (waited st wait) side (w + wait)
  unfolding waited
  beside_waited wait =
      record { whole = sound_waited st wait b.whole; part = b.part; tokens = b.tokens; restarted = b.restarted; behind = omega arith }

  pub caught_up : Beside c P T st (waited side w) 0
  unfolding waited
  caught_up = record { whole = b.whole; part = sound_waited side w b.part; tokens = b.tokens; restarted = b.restarted; behind = omega arith }

bounded_waited : (j : Net) (st : State) (wait : ℕ) → Bounded j (view st) → Bounded j (view (waited st wait))
unfolding waited
bounded_waited j st wait few = few

-- ---- a firing of the side's own
module _ {c j : Net} {P T : ℕ} (em : Embeds c j P T) (t : ℕ) (l : t < c.transitions) {st side : State} (b : Beside c P T st side 0) where
  abbrev m : List ℕ
  m = st.marking

  abbrev m' : List ℕ
  m' = side.marking

  now : st.now ≡ side.now
  now = omega arith

  -- if no place has too many tokens, it passes in the one exactly if it passes in the other
  module _ (D : ℕ) where
    same_timely : timely (transition_at j (T + t)) D (clock_of st (T + t)) ≡ timely (transition_at c t) D (clock_of side t)
    unfolding clock_of
    same_timely = rw (em.interval t l, b.restarted t l, now) refl

    pub judged_same : Bounded j (view st) → (n n' : ℕ) → (judged j D st (T + t) n ≡ Passed) ↔ (judged c D side t n' ≡ Passed)
    judged_same few n n' =
        let on = enabled_same em t l m m' b.tokens in
        let within = limited_same em t l m m' b.tokens b.whole.tokens b.part.tokens few in (
          λ e.
              let q = passes j D st (T + t) n e in
              passed c D side t n'
              (record {
                is_enabled = sym on ∙ q.is_enabled;
                in_interval = sym same_timely ∙ q.in_interval;
                is_bounded = within.0 q.is_bounded;
              }),
          λ e.
              let q = passes c D side t n' e in
              passed j D st (T + t) n
              (record { is_enabled = on ∙ q.is_enabled; in_interval = same_timely ∙ q.in_interval; is_bounded = within.1 q.is_bounded }),
        )

  -- and then the states are beside each other again
  pub beside_own : (memory : Memory) → Beside c P T (fired j (rule_of (arcs_of j) memory) st (T + t)) (fired c (rule_of (arcs_of c) memory) side t) 0
  unfolding fired
  beside_own memory =
      record {
        whole = sound_fired j (rule_of (arcs_of j) memory) st (T + t) b.whole;
        part = sound_fired c (rule_of (arcs_of c) memory) side t b.part;
        tokens = after_same em t l m m' b.tokens b.whole.tokens b.part.tokens;
        restarted = λ u k.
            since_fired j (rule_of (arcs_of j) memory) st (T + t) b.whole (T + u) (omega arith)
            ∙ rw (restarts_same em t l m m' b.tokens b.whole.tokens b.part.tokens memory u k, b.restarted u k, now) refl
            ∙ sym (since_fired c (rule_of (arcs_of c) memory) side t b.part u (omega arith));
        behind = b.behind;
      }

-- ---- a firing of another net leaves the side where it was
pub beside_other : {c d j : Net} {P T P' T' : ℕ} (two : Disjoint c d j P T P' T') (t : ℕ) → t < c.transitions
    → {st side : State} {w : ℕ} → Beside d P' T' st side w → (memory : Memory) → Beside d P' T' (fired j (rule_of (arcs_of j) memory) st (T + t)) side w
unfolding fired
beside_other {c} {d} {j} {P} {T} {P'} {T'} two t l {st} {side} b memory =
    record {
      whole = sound_fired j (rule_of (arcs_of j) memory) st (T + t) b.whole;
      part = b.part;
      tokens = after_other two t l st.marking side.marking b.tokens b.whole.tokens;
      restarted = λ u k.
          since_fired j (rule_of (arcs_of j) memory) st (T + t) b.whole (T' + u) (omega arith)
          ∙ rw (restarts_not two t l st.marking side.marking b.tokens b.whole.tokens memory u k) (b.restarted u k);
      behind = b.behind;
    }

-- ---- whole runs
-- a run of the joined net and one of each side: it passes exactly if they do, and then their last states are beside its own, so much behind it
pub record Together (c : Net) (P T : ℕ) (d : Net) (P' T' : ℕ) (joined mine others : Played) (w w' : ℕ) : Type 0 where
  pub exactly : (joined.checked ≡ Passed) ↔ ((mine.checked ≡ Passed) × (others.checked ≡ Passed))
  pub mine_beside : joined.checked ≡ Passed → Beside c P T joined.state mine.state w
  pub others_beside : joined.checked ≡ Passed → Beside d P' T' joined.state others.state w'

module _ {c d : Net} {P T P' T' : ℕ} {joined mine others : Played} {w w' : ℕ} where
  swapped : Together c P T d P' T' joined mine others w w' → Together d P' T' c P T joined others mine w' w
  swapped h =
      record {
        exactly = (λ e. let k = h.exactly.0 e in (k.1, k.0), λ e. h.exactly.1 (e.1, e.0));
        mine_beside = h.others_beside;
        others_beside = h.mine_beside;
      }

  -- a firing first that passes in both or in neither
  step_both : (x y : Checked) (st side : State) → (x ≡ Passed) ↔ (y ≡ Passed) → (x ≡ Passed → Together c P T d P' T' joined mine others w w')
      → Together c P T d P' T' (step_on x st joined) (step_on y side mine) others w w'
  step_both Passed Passed st side h k = k refl
  step_both Passed (Err r) st side h k = absurd (refused_not (h.0 refl))
  step_both (Err r) Passed st side h k = absurd (refused_not (h.1 refl))
  step_both (Err r) (Err q) st side h k =
      record {
        exactly = (λ e. absurd (refused_not e), λ e. absurd (refused_not e.0));
        mine_beside = λ e. absurd (refused_not e);
        others_beside = λ e. absurd (refused_not e);
      }

module _ (memory : Memory) (D : ℕ) where
  -- the play under the memory word
  abbrev pub plays : Net → List Firing → State → ℕ → Played
  plays net fs st n = play net (rule_of (arcs_of net) memory) D fs st n

  -- a firing of c, by what follows it
  turn : {c d j : Net} {P T P' T' : ℕ} (two : Disjoint c d j P T P' T') (f : Firing) (t : ℕ) → t < c.transitions → f.fire ≡ T + t
      → {st side other : State} {w w' : ℕ} → Beside c P T st side w → Beside d P' T' st other w' → Bounded j (view st)
      → (fs mine : List Firing) (n n' : ℕ) {others : Played} {v v' : ℕ}
      → ((next own : State) → Beside c P T next own 0 → Beside d P' T' next other (w' + f.wait) → Bounded j (view next)
      → Together c P T d P' T' (plays j fs next (n + 1)) (plays c mine own (n' + 1)) others v v')
      → Together c P T d P' T' (plays j (f ∷ fs) st n) (plays c (record { wait = w + f.wait; fire = t } ∷ mine) side n') others v v'
  unfolding play
  turn {c} {d} {j} {P} {T} two f t l is {st} {side} {w = w} b o few fs mine n n' rest =
      let here = waited st f.wait in
      let there = waited side (w + f.wait) in
      let level = caught_up (beside_waited b f.wait) in
      rw is (step_both (judged j D here (T + t) (n + 1)) (judged c D there t (n' + 1)) st side
      (judged_same two.mine t l level D (bounded_waited j st f.wait few) (n + 1) (n' + 1))
      (λ e. rest (fired j (rule_of (arcs_of j) memory) here (T + t)) (fired c (rule_of (arcs_of c) memory) there t)
      (beside_own two.mine t l level memory)
      (beside_other two t l (beside_waited o f.wait) memory)
      (view_bounded j (rule_of (arcs_of j) memory) D here (T + t) level.whole (passes j D here (T + t) (n + 1) e))))

  module _ {a b j : Net} (first : Embeds a j 0 0) (second : Embeds b j a.places a.transitions) where
    abbrev P : ℕ
    P = a.places

    abbrev T : ℕ
    T = a.transitions

    there : Disjoint a b j 0 0 P T
    there = record { mine = first; others = second; places = inl (omega arith); transitions = inl (omega arith) }

    back : Disjoint b a j P T 0 0
    back = record { mine = second; others = first; places = inr (omega arith); transitions = inr (omega arith) }

    -- the firings of a run of j, from states that are beside each other
    pub sides : (fs : List Firing) → Each (λ (f : Firing). f.fire < a.transitions + b.transitions) fs
        → (st sa sb : State) (wa wb n na nb : ℕ) → Beside a 0 0 st sa wa → Beside b a.places a.transitions st sb wb → Bounded j (view st)
        → Together a 0 0 b a.places a.transitions (plays j fs st n)
        (plays a (side_from (of_first a.transitions) wa fs) sa na) (plays b (side_from (of_second a.transitions) wb fs) sb nb)
        (waited_from (of_first a.transitions) wa fs) (waited_from (of_second a.transitions) wb fs)
    unfolding play side_from waited_from
    sides [] listed st sa sb wa wb n na nb ba bb few =
        record { exactly = (λ e. (refl, refl), λ e. refl); mine_beside = λ e. ba; others_beside = λ e. bb }
    sides (f ∷ fs) listed st sa sb wa wb n na nb ba bb few =
        ⊎_elim
        (λ l.
        rw (lt-ltb f.fire T l)
        (turn there f f.fire l (sym (zero-add f.fire)) ba bb few fs (side_from (of_first T) 0 fs) n na
        (λ st' sa' x y z. sides fs listed.1 st' sa' sb 0 (wb + f.wait) (n + 1) (na + 1) nb x y z)))
        (λ l.
        rw (le-ltb f.fire T (omega arith))
        (swapped (turn back f (f.fire - T) (omega (arith, listed.0)) (omega arith) bb ba few fs (side_from (of_second T) 0 fs) n nb
        (λ st' sb' x y z. swapped (sides fs listed.1 st' sa sb' (wa + f.wait) 0 (n + 1) na (nb + 1) y x z)))))
        (le_or_lt (suc f.fire) T)
