-- Demand 2, first half, over whole runs: the replay accepts exactly the runs that the published semantics allows, ends in the same state, and refuses
-- exactly at the first firing that is not allowed.
use Rattle.reply.specs.Respond.{Checked, Passed}
use Rattle.std.specs.Prelude.{Err}
use Prim.Native.Nat.{ℕ, suc, ◌+◌, ◌<◌, min}
use native.Mathlib.Nat.{add-zero}
use native.Mathlib.Omega.{arith}
use mathlib.Core.Path.{◌≡◌, refl, sym, ap, subst, ◌∙◌}
use mathlib.Core.Bool.{Bool, true, false, cond}
use mathlib.Core.Logic.{◌↔◌, inl, inr}
use mathlib.Core.List.{List, [], ◌∷◌, ◌++◌}
use lib.ListN.{length, get_or, replicate, get_or-eq_default, get_or-replicate, length-replicate}
use lib.Dec.{leb}
use borrow.Author.Tests.{leb-false, lt-leb}
use native.Mathlib.Decide.{dec_lt}
use Rattle.laws.specs.Tests.{all_one, all_fails}
use Rattle.laws.specs.Arrays.{length_filled, filled_at}
use Rattle.reply.specs.declared.Refusal.{Refusal}
use Rattle.reply.specs.declared.Refusal.TheVariants.{NotEnabled, TooManyTokens, OutsideInterval}
use Rattle.net.specs.declared.Net.{Net}
use Rattle.run.specs.declared.Firing.{Firing}
use Rattle.run.specs.declared.Run.{Run}
use Rattle.run.specs.Run.{firings_of}
use Rattle.firing.specs.declared.State.{State}
use Rattle.firing.specs.declared.Played.{Played}
use Rattle.firing.specs.Semantics.{arcs_of, Restart, transition_at, Timed, start_marking, enabled, after}
use Rattle.firing.specs.Semantics.{Initial, Elapses, Steps, none, one, Allowed}
use Rattle.firing.specs.Replay.{start_state, waited, clock_of, timely, limited, judged_by, fired, judged, step_on, play, replay}
use Rattle.firing.specs.Claims.{view, Matches, Restarting, OnTime, Because, FirstRefused}
use Rattle.firing.proofs.Clocks.{Sound, few_places, sound_waited, sound_fired, timely_true, tokens_on, after_at}
use Rattle.firing.proofs.Agree.{refused_not, passes, view_elapses, view_fires, view_bounded}
use Rattle.firing.proofs.Agree.{play_sound, play_steps, matches_waited, Replayed, play_complete}

-- a run is replayed by its firings, and then rests
pub replay_plays : (net : Net) (restarts : Restart) (r : Run)
    → (replay net restarts r).checked ≡ (play net restarts r.denominator (firings_of r) (start_state net) 0).checked
unfolding replay
replay_plays net restarts r = refl

-- ---- why a judgement refuses
module _ (net : Net) (D : ℕ) (st : State) (t n : ℕ) where
  too_many : Sound st → limited (arcs_of net) st.marking t ≡ false
      → (p : ℕ) × (p < (arcs_of net).places) × (255 < get_or (after (arcs_of net) st.marking t) p 0)
  unfolding limited
  too_many sound e =
      let h = all_one (λ p. leb (tokens_on (arcs_of net) st.marking t p) 255) (arcs_of net).places e in
      let same = after_at (arcs_of net) st.marking t h.0 h.1 (omega (arith, h.1, few_places net, sound.tokens)) in
      (h.0, h.1, rw same (leb-false (tokens_on (arcs_of net) st.marking t h.0) 255 h.2))

  late : timely (transition_at net t) D (clock_of st t) ≡ false → OnTime net D (view st) t → ⊥
  late e h = let z : ◌≡◌ {A = Bool} true false = sym ((timely_true (transition_at net t) D (clock_of st t)).1 h) ∙ e in let k : ◌≡◌ {A = ℕ} 0 1 = cc in omega arith

  pub because : Sound st → (r : Refusal) → judged net D st t n ≡ Err r → Because net D r n (view st) t
  unfolding judged_by
  because sound r =
      go (enabled (arcs_of net) st.marking t) (timely (transition_at net t) D (clock_of st t)) (limited (arcs_of net) st.marking t) refl refl refl
    where
      is : {r' : Refusal} → ◌≡◌ {A = Checked} (Err r') (Err r) → r ≡ r'
      is e = cc

      go : (a b c : Bool) → enabled (arcs_of net) st.marking t ≡ a → timely (transition_at net t) D (clock_of st t) ≡ b
          → limited (arcs_of net) st.marking t ≡ c
          → cond a (cond b (cond c Passed (Err (TooManyTokens n))) (Err (OutsideInterval n))) (Err (NotEnabled n)) ≡ Err r
          → Because net D r n (view st) t
      go true true true p q s e = let k : ◌≡◌ {A = ℕ} 0 1 = cc in absurd (omega arith)
      go true true false p q s e = inr (inr (is e, p, (timely_true (transition_at net t) D (clock_of st t)).0 q, too_many sound s))
      go true false c p q s e = inr (inl (is e, p, late q))
      go false b c p q s e = inl (is e, p)

-- ---- and back: for that reason the judgement refuses
module _ (net : Net) (D : ℕ) (S : Timed) (st : State) (t n : ℕ) (sound : Sound st) (m : Matches net S st) where
  passes_limit : (p : ℕ) → p < (arcs_of net).places → 255 < get_or (after (arcs_of net) S.marking t) p 0 → limited (arcs_of net) st.marking t ≡ false
  unfolding limited
  passes_limit p l more =
      let count = tokens_on (arcs_of net) st.marking t p in
      let at : get_or (after (arcs_of net) S.marking t) p 0 ≡ count =
      rw m.same_marking (after_at (arcs_of net) st.marking t p l (omega (arith, few_places net, sound.tokens))) in
      all_fails (λ q. leb (tokens_on (arcs_of net) st.marking t q) 255) p (arcs_of net).places (lt-leb count 255 (omega arith)) l

  timely_so : enabled (arcs_of net) S.marking t ≡ true → (timely (transition_at net t) D (clock_of st t) ≡ true) ↔ OnTime net D S t
  timely_so on = rw (m.same_clocks t on) (timely_true (transition_at net t) D (clock_of st t))

  pub judged_so : (r : Refusal) → Because net D r n S t → judged net D st t n ≡ Err r
  unfolding judged_by
  judged_so r (inl (i, off)) =
      let off' : enabled (arcs_of net) st.marking t ≡ false = rw m.same_marking at off in
      rw (off', i) refl
  judged_so r (inr (inl (i, on, missed))) =
      let on' : enabled (arcs_of net) st.marking t ≡ true = rw m.same_marking at on in
      rw (on', go (timely (transition_at net t) D (clock_of st t)) refl, i) refl
    where
      go : (b : Bool) → timely (transition_at net t) D (clock_of st t) ≡ b → timely (transition_at net t) D (clock_of st t) ≡ false
      go true e = absurd (missed ((timely_so on).0 e))
      go false e = e
  judged_so r (inr (inr (i, on, on-time, (p, l, more)))) =
      let on' : enabled (arcs_of net) st.marking t ≡ true = rw m.same_marking at on in
      rw (on', (timely_so on).1 on-time, passes_limit p l more, i) refl

module _ (net : Net) (restarts : Restart) (D : ℕ) where
  -- ---- the first firing that is not allowed
  further : (f : Firing) (fs : List Firing) (st : State) (n : ℕ) (r : Refusal) → Sound st
      → judged net D (waited st f.wait) f.fire (n + 1) ≡ Passed
      → FirstRefused net restarts D fs (view (fired net restarts (waited st f.wait) f.fire)) (n + 1) r
      → FirstRefused net restarts D (f ∷ fs) (view st) n r
  further f fs st n r h e x =
      let w = waited st f.wait in
      let later = sound_waited st f.wait h in
      let q = passes net D w f.fire (n + 1) e in
      let k : n + 1 + length x.front + 1 ≡ n + suc (length x.front) + 1 = omega arith in
      record {
        front = f ∷ x.front;
        refused = x.refused;
        behind = x.behind;
        split = ap (λ (l : List Firing). f ∷ l) x.split;
        before = x.before;
        there = x.there;
        allowed = one (view_elapses net restarts D st f.wait h) (view_fires net restarts D w f.fire later q)
            (view_bounded net restarts D w f.fire later q) x.allowed;
        waits = x.waits;
        because = subst (λ (i : ℕ). Because net D r i x.there x.refused.fire) k x.because;
      }

  pub play_refused : (fs : List Firing) (st st' : State) (n : ℕ) (r : Refusal) → Sound st
      → play net restarts D fs st n ≡ record { checked = Err r; state = st' }
      → FirstRefused net restarts D fs (view st) n r
  unfolding play
  play_refused [] st st' n r h =
      λ e. let k : ◌≡◌ {A = Checked} Passed (Err r) = ap (λ (p : Played). p.checked) e in let z : ◌≡◌ {A = ℕ} 0 1 = cc in absurd (omega arith)
  play_refused (f ∷ fs) st st' n r h =
      let w = waited st f.wait in
      go (judged net D w f.fire (n + 1)) refl
      (play_refused fs (fired net restarts w f.fire) st' (n + 1) r (sound_fired net restarts w f.fire (sound_waited st f.wait h)))
    where
      go : (c : Checked) → judged net D (waited st f.wait) f.fire (n + 1) ≡ c
          → (play net restarts D fs (fired net restarts (waited st f.wait) f.fire) (n + 1) ≡ record { checked = Err r; state = st' }
          → FirstRefused net restarts D fs (view (fired net restarts (waited st f.wait) f.fire)) (n + 1) r)
          → step_on c st (play net restarts D fs (fired net restarts (waited st f.wait) f.fire) (n + 1)) ≡ record { checked = Err r; state = st' }
          → FirstRefused net restarts D (f ∷ fs) (view st) n r
      go Passed p ih e = further f fs st n r h p (ih e)
      go (Err r') p ih e =
          let k : r' ≡ r = let q : ◌≡◌ {A = Checked} (Err r') (Err r) = ap (λ (p : Played). p.checked) e in cc in
          let i : n + 1 ≡ n + 0 + 1 = omega arith in
          record {
            front = [];
            refused = f;
            behind = fs;
            split = refl;
            before = view st;
            there = view (waited st f.wait);
            allowed = none;
            waits = view_elapses net restarts D st f.wait h;
            because = subst (λ (j : ℕ). Because net D r j (view (waited st f.wait)) f.fire) i
                (because net D (waited st f.wait) f.fire (n + 1) (sound_waited st f.wait h) r (p ∙ ap Err k));
          }

  -- firings that are allowed are passed, and the rest is played from behind them
  pub play_on : (fs gs : List Firing) (st st' : State) (n : ℕ) → play net restarts D fs st n ≡ record { checked = Passed; state = st' }
      → play net restarts D (fs ++ gs) st n ≡ play net restarts D gs st' (n + length fs)
  unfolding play
  play_on [] gs st st' n e = rw (ap (λ (p : Played). p.state) e, add-zero n) refl
  play_on (f ∷ fs) gs st st' n e =
      let w = waited st f.wait in
      let next = fired net restarts w f.fire in
      go (judged net D w f.fire (n + 1)) e (play_on fs gs next st' (n + 1))
    where
      left : List Firing → Played
      left l = play net restarts D l (fired net restarts (waited st f.wait) f.fire) (n + 1)

      go : (c : Checked) → step_on c st (left fs) ≡ record { checked = Passed; state = st' }
          → (left fs ≡ record { checked = Passed; state = st' } → left (fs ++ gs) ≡ play net restarts D gs st' (n + 1 + length fs))
          → step_on c st (left (fs ++ gs)) ≡ play net restarts D gs st' (n + suc (length fs))
      go Passed e ih =
          let k : n + 1 + length fs ≡ n + suc (length fs) = omega arith in
          ih e ∙ ap (play net restarts D gs st') k
      go (Err r) e ih = absurd (refused_not (ap (λ (p : Played). p.checked) e))

  -- and a refused one ends the play
  play_stops : (f : Firing) (fs : List Firing) (st : State) (n : ℕ) (r : Refusal) → judged net D (waited st f.wait) f.fire (n + 1) ≡ Err r
      → (play net restarts D (f ∷ fs) st n).checked ≡ Err r
  unfolding play
  play_stops f fs st n r e = rw e refl

  -- so what is first refused from a state that matches is what the play refuses
  pub refused_play : Restarting net restarts → (fs : List Firing) (S : Timed) (st : State) (n : ℕ) (r : Refusal) → Sound st → Matches net S st
      → FirstRefused net restarts D fs S n r → (play net restarts D fs st n).checked ≡ Err r
  refused_play h fs S st n r sound m x =
      let y = play_complete net restarts D h st n sound m x.allowed in
      let k = n + length x.front in
      let there = matches_waited net restarts D y.state y.sound y.matches x.waits in
      let f = x.refused in
      let judgement = judged_so net D x.there (waited y.state f.wait) f.fire (k + 1) (sound_waited y.state f.wait y.sound) there r
      x.because in
      rw (x.split, play_on x.front (f ∷ x.behind) st y.state n y.passed) (play_stops f x.behind y.state k r judgement)

  -- ---- from every state that matches the first wait leads to the same states, and all that follows is the same
  from_match : (S : Timed) (st : State) → Matches net S st → (w : ℕ) (X : Timed) → Elapses net (view st) w X → Elapses net S w X
  from_match S st m w X e =
      record {
        marked = e.marked ∙ sym m.same_marking;
        clocks = λ u on. e.clocks u (rw m.same_marking at on) ∙ ap (λ (c : ℕ). c + w) (sym (m.same_clocks u on));
      }

  steps_from : {S₀ S B X : Timed} {fs : List Firing} (w : ℕ) → ((w : ℕ) (Y : Timed) → Elapses net S₀ w Y → Elapses net S w Y)
      → Steps net restarts D S₀ fs B → Elapses net B w X → (C : Timed) × Steps net restarts D S fs C × Elapses net C w X
  steps_from {S = S} {X = X} w h none e = (S, none, h w X e)
  steps_from {B = B} w h (one {S₁ = S₁} {f = f} a g b rest) e = (B, one (h f.wait S₁ a) g b rest, e)

  refused_from : (fs : List Firing) (S : Timed) (st : State) (n : ℕ) (r : Refusal) → Matches net S st
      → FirstRefused net restarts D fs (view st) n r → FirstRefused net restarts D fs S n r
  refused_from fs S st n r m x =
      let y = steps_from x.refused.wait (from_match S st m) x.allowed x.waits in
      record {
        front = x.front;
        refused = x.refused;
        behind = x.behind;
        split = x.split;
        before = y.0;
        there = x.there;
        allowed = y.1;
        waits = y.2;
        because = x.because;
      }

-- ---- the start
module _ (net : Net) where
  pub start_since : (u : ℕ) → get_or (start_state net).since u 0 ≡ 0
  unfolding start_state
  start_since u = go (dec_lt u 32)
    where
      go : Dec (u < 32) → ◌≡◌ {A = ℕ} (get_or (replicate 32 0) u 0) 0
      go (yes l) = get_or-replicate 32 u 0 0 l
      go (no n) = get_or-eq_default (replicate 32 0) 0 {n = u} (omega (arith, length-replicate {A = ℕ} 32 0))

  pub start_at : (p : ℕ) → p < (arcs_of net).places → get_or (start_marking net) p 0 ≡ get_or net.start p 0
  unfolding start_marking
  start_at p l =
      filled_at (λ q. get_or net.start q 0) (replicate 16 0) 0 (min net.places 16) p l (omega (arith, few_places net, length-replicate {A = ℕ} 16 0))

  pub length_start : length (start_marking net) ≡ 16
  unfolding start_marking
  length_start = length_filled (λ p. get_or net.start p 0) (replicate 16 0) (min net.places 16) ∙ length-replicate {A = ℕ} 16 0

  pub start_sound : Sound (start_state net)
  unfolding start_state
  start_sound =
      record {
        past = λ u. omega (arith, start_since u);
        tokens = length_start;
        clocks = length-replicate {A = ℕ} 32 0;
      }

  start_clock : (u : ℕ) → clock_of (start_state net) u ≡ 0
  unfolding clock_of start_state
  start_clock u = omega arith

  start_marking_lem : (start_state net).marking ≡ start_marking net
  unfolding start_state
  start_marking_lem = refl

  pub start_initial : Initial net (view (start_state net))
  start_initial = record { marked = start_marking_lem; zero_clocks = λ u e. start_clock u }

  pub start_matches : (S : Timed) → Initial net S → Matches net S (start_state net)
  start_matches S i = record { same_marking = i.marked ∙ sym start_marking_lem; same_clocks = λ u e. i.zero_clocks u e ∙ sym (start_clock u) }

whole : (p : Played) (c : Checked) → p.checked ≡ c → p ≡ record { checked = c; state = p.state }
whole p c e = λ i. record { checked = e i; state = p.state }

-- ---- firings from the start, and a rest
module _ (net : Net) (restarts : Restart) (D : ℕ) (fs : List Firing) (rest : ℕ) where
  abbrev played : Played
  played = play net restarts D fs (start_state net) 0

  -- what passes is allowed, and ends in the state played
  played_allowed : played.checked ≡ Passed → Allowed net restarts D fs rest (view (waited played.state rest))
  played_allowed e =
      record {
        first = view (start_state net);
        last = view played.state;
        initial = start_initial net;
        steps = play_steps net restarts D fs (start_state net) played.state 0 (start_sound net) (whole played Passed e);
        rests = view_elapses net restarts D played.state rest (play_sound net restarts D fs (start_state net) 0 (start_sound net));
      }

  module _ (h : Restarting net restarts) (end : Timed) (a : Allowed net restarts D fs rest end) where
    again : Replayed net restarts D fs (start_state net) 0 a.last
    again = play_complete net restarts D h (start_state net) 0 (start_sound net) (start_matches net a.first a.initial) a.steps

    -- what is allowed passes
    allowed_played : played.checked ≡ Passed
    allowed_played = ap (λ (p : Played). p.checked) again.passed

    -- and it ends in the state that the semantics has
    played_end : Matches net end (waited played.state rest)
    played_end =
        let e : played.state ≡ again.state = ap (λ (p : Played). p.state) again.passed in
        rw e (matches_waited net restarts D again.state again.sound again.matches a.rests)

  -- firings pass exactly when the published semantics allows them
  pub played_exactly : Restarting net restarts → (played.checked ≡ Passed) ↔ ((end : Timed) × Allowed net restarts D fs rest end)
  played_exactly h = (λ e. (view (waited played.state rest), played_allowed e), λ a. allowed_played h a.0 a.1)

module _ (net : Net) (restarts : Restart) (r : Run) where
  -- what the replay accepts is allowed, and ends in the replay's state
  pub accepted_allowed : (replay net restarts r).checked ≡ Passed
      → Allowed net restarts r.denominator (firings_of r) r.rest (view (replay net restarts r).state)
  unfolding replay
  accepted_allowed e = played_allowed net restarts r.denominator (firings_of r) r.rest e

  -- what is allowed ends in the state that the semantics has
  pub same_end : Restarting net restarts → (end : Timed) → Allowed net restarts r.denominator (firings_of r) r.rest end
      → Matches net end (replay net restarts r).state
  unfolding replay
  same_end h end a = played_end net restarts r.denominator (firings_of r) r.rest h end a

  -- a run is accepted exactly when the published semantics allows it
  pub accepted_exactly : Restarting net restarts
      → ((replay net restarts r).checked ≡ Passed) ↔ ((end : Timed) × Allowed net restarts r.denominator (firings_of r) r.rest end)
  unfolding replay
  accepted_exactly h = played_exactly net restarts r.denominator (firings_of r) r.rest h

  -- a refusal names the first firing that is not allowed, and why
  pub refused_first : (why : Refusal) → (replay net restarts r).checked ≡ Err why
      → FirstRefused net restarts r.denominator (firings_of r) (view (start_state net)) 0 why
  unfolding replay
  refused_first why e =
      let p = play net restarts r.denominator (firings_of r) (start_state net) 0 in
      play_refused net restarts r.denominator (firings_of r) (start_state net) p.state 0 why (start_sound net) (whole p (Err why) e)

  -- from whatever initial state, the run is refused with that exactly when its first firing that is not allowed is so for that reason
  pub refused_exactly : Restarting net restarts → (S : Timed) → Initial net S → (e : Refusal)
      → ((replay net restarts r).checked ≡ Err e) ↔ FirstRefused net restarts r.denominator (firings_of r) S 0 e
  unfolding replay
  refused_exactly h S i e =
      let D = r.denominator in
      let m = start_matches net S i in (
        λ p. refused_from net restarts D (firings_of r) S (start_state net) 0 e m (refused_first e p),
        λ x. refused_play net restarts D h (firings_of r) S (start_state net) 0 e (start_sound net) m x,
      )
