-- The replay and the published semantics agree: a state of the replay stands for the published state with the same marking and, for each enabled
-- transition, the same clock; a firing that the replay lets pass is one of the semantics, and the other way round.
use Rattle.reply.specs.Respond.{Checked, Passed}
use Rattle.std.specs.Prelude.{Err}
use Prim.Native.Nat.{ℕ, suc, ◌+◌, ◌*◌, ◌≤◌}
use native.Mathlib.Nat.{mul-suc}
use native.Mathlib.Omega.{arith}
use mathlib.Core.Path.{◌≡◌, refl, sym, ap, subst, ◌∙◌}
use mathlib.Core.Bool.{Bool, true, false, cond}
use mathlib.Core.List.{List, [], ◌∷◌}
use lib.ListN.{length}
use Rattle.laws.specs.Each.{Each}
use Rattle.reply.specs.declared.Refusal.{Refusal}
use Rattle.reply.specs.declared.Refusal.TheVariants.{NotEnabled, OutsideInterval, TooManyTokens}
use Rattle.net.specs.declared.Net.{Net}
use Rattle.run.specs.declared.Firing.{Firing}
use Rattle.firing.specs.declared.State.{State}
use Rattle.firing.specs.declared.Played.{Played}
use Rattle.firing.specs.Semantics.{arcs_of, Restart, transition_at, Timed, enabled, after, Fires, Elapses, Bounded, Steps, none, one}
use Rattle.firing.specs.Replay.{waited, clock_of, timely, limited, judged_by, fired, judged, step_on, play}
use Rattle.firing.specs.Claims.{view, Matches, Restarting}
use Rattle.firing.proofs.Clocks.{Sound, few_places, enabled_listed, sound_waited, clock_waited, sound_fired, clock_fired, timely_true, limited_true}

-- ---- a firing passes exactly when the three tests hold
pub record Passes (net : Net) (D : ℕ) (st : State) (t : ℕ) : Type 0 where
  pub is_enabled : enabled (arcs_of net) st.marking t ≡ true
  pub in_interval : timely (transition_at net t) D (clock_of st t) ≡ true
  pub is_bounded : limited (arcs_of net) st.marking t ≡ true

pub refused_not : {r : Refusal} → Err r ≡ Passed → ⊥
refused_not e = let z : ◌≡◌ {A = ℕ} 0 1 = cc in omega arith

module _ (net : Net) (D : ℕ) (st : State) (t n : ℕ) where
  pub passes : judged net D st t n ≡ Passed → Passes net D st t
  unfolding judged_by
  passes = go (enabled (arcs_of net) st.marking t) (timely (transition_at net t) D (clock_of st t)) (limited (arcs_of net) st.marking t) refl refl refl
    where
      go : (a b c : Bool) → enabled (arcs_of net) st.marking t ≡ a → timely (transition_at net t) D (clock_of st t) ≡ b
          → limited (arcs_of net) st.marking t ≡ c
          → cond a (cond b (cond c Passed (Err (TooManyTokens n))) (Err (OutsideInterval n))) (Err (NotEnabled n)) ≡ Passed → Passes net D st t
      go true true true p q r e = record { is_enabled = p; in_interval = q; is_bounded = r }
      go true true false p q r e = absurd (refused_not e)
      go true false c p q r e = absurd (refused_not e)
      go false b c p q r e = absurd (refused_not e)

  pub passed : Passes net D st t → judged net D st t n ≡ Passed
  unfolding judged_by
  passed p = rw (p.is_enabled, p.in_interval, p.is_bounded) refl

-- the places are within the marking
room : (net : Net) (st : State) → Sound st → (arcs_of net).places ≤ length st.marking
room net st h = omega (arith, few_places net, h.tokens)

-- ---- one step
module _ (net : Net) (restarts : Restart) (D : ℕ) where
  pub view_elapses : (st : State) (w : ℕ) → Sound st → Elapses net (view st) w (view (waited st w))
  unfolding waited
  view_elapses st w h = record { marked = refl; clocks = λ u e. clock_waited st w h u }

  pub view_fires : (st : State) (t : ℕ) → Sound st → Passes net D st t → Fires net restarts D (view st) t (view (fired net restarts st t))
  unfolding fired
  view_fires st t h p =
      let i = (timely_true (transition_at net t) D (clock_of st t)).0 p.in_interval in
      record {
        is_enabled = p.is_enabled;
        marked = refl;
        not_before = i.0;
        not_after = i.1;
        clocks = λ u e. clock_fired net restarts st t h u (enabled_listed (arcs_of net) _ u e);
      }

  pub view_bounded : (st : State) (t : ℕ) → Sound st → Passes net D st t → Bounded net (view (fired net restarts st t))
  unfolding fired
  view_bounded st t h p = (limited_true (arcs_of net) st.marking t (room net st h)).0 p.is_bounded

  pub play_sound : (fs : List Firing) (st : State) (n : ℕ) → Sound st → Sound (play net restarts D fs st n).state
  unfolding play
  play_sound [] st n h = h
  play_sound (f ∷ fs) st n h =
      let w = waited st f.wait in
      go (judged net D w f.fire (n + 1)) (play net restarts D fs (fired net restarts w f.fire) (n + 1))
      (play_sound fs (fired net restarts w f.fire) (n + 1) (sound_fired net restarts w f.fire (sound_waited st f.wait h)))
    where
      go : (c : Checked) (later : Played) → Sound later.state → Sound (step_on c st later).state
      go Passed later l = l
      go (Err r) later l = h

  -- waits of at most W parts each add up to no more than W for each firing
  pub play_soon : (W : ℕ) (fs : List Firing) (st : State) (n : ℕ) → Each (λ f. f.wait ≤ W) fs
      → (play net restarts D fs st n).state.now ≤ st.now + W * length fs
  unfolding play fired waited
  play_soon W [] st n h = omega arith
  play_soon W (f ∷ fs) st n h =
      let w = waited st f.wait in
      let next = fired net restarts w f.fire in
      go (judged net D w f.fire (n + 1)) (play net restarts D fs next (n + 1)) (play_soon W fs next (n + 1) h.1)
    where
      go : (c : Checked) (later : Played) → later.state.now ≤ st.now + f.wait + W * length fs
          → (step_on c st later).state.now ≤ st.now + W * suc (length fs)
      go Passed later l = rw (mul-suc W (length fs)) (omega (arith, h.0))
      go (Err r) later l = omega arith

  -- ---- what the replay accepts is allowed
  pub play_steps : (fs : List Firing) (st st' : State) (n : ℕ) → Sound st → play net restarts D fs st n ≡ record { checked = Passed; state = st' }
      → Steps net restarts D (view st) fs (view st')
  unfolding play
  play_steps [] st st' n h = λ e. subst (λ (x : State). Steps net restarts D (view st) [] (view x)) (ap (λ (p : Played). p.state) e) none
  play_steps (f ∷ fs) st st' n h =
      let w = waited st f.wait in
      go (judged net D w f.fire (n + 1)) refl (play_steps fs (fired net restarts w f.fire) st' (n + 1)
      (sound_fired net restarts w f.fire (sound_waited st f.wait h)))
    where
      go : (c : Checked) → judged net D (waited st f.wait) f.fire (n + 1) ≡ c
          → (play net restarts D fs (fired net restarts (waited st f.wait) f.fire) (n + 1) ≡ record { checked = Passed; state = st' }
          → Steps net restarts D (view (fired net restarts (waited st f.wait) f.fire)) fs (view st'))
          → step_on c st (play net restarts D fs (fired net restarts (waited st f.wait) f.fire) (n + 1)) ≡ record { checked = Passed; state = st' }
          → Steps net restarts D (view st) (f ∷ fs) (view st')
      go Passed p ih e =
          let w = waited st f.wait in
          let later = sound_waited st f.wait h in
          let q = passes net D w f.fire (n + 1) p in
          one (view_elapses st f.wait h) (view_fires w f.fire later q) (view_bounded w f.fire later q) (ih e)
      go (Err r) p ih e = absurd (refused_not (ap (λ (p : Played). p.checked) e))

  -- ---- what is allowed the replay accepts, if a transition that was not enabled before a firing restarts there
  pub matches_waited : {S S₁ : Timed} {w : ℕ} (st : State) → Sound st → Matches net S st → Elapses net S w S₁ → Matches net S₁ (waited st w)
  unfolding waited
  matches_waited {w = w} st h x e =
      record {
        same_marking = e.marked ∙ x.same_marking;
        same_clocks = λ u q.
            let p : enabled (arcs_of net) _ u ≡ true = rw e.marked at q in
            e.clocks u p ∙ ap (λ (c : ℕ). c + w) (x.same_clocks u p) ∙ sym (clock_waited st w h u);
      }

  matches_passes : {S S' : Timed} {t : ℕ} (st : State) → Sound st → Matches net S st → Fires net restarts D S t S' → Bounded net S' → Passes net D st t
  matches_passes {S} {S'} {t} st h x f b =
      let on : enabled (arcs_of net) st.marking t ≡ true = rw x.same_marking at f.is_enabled in
      let c : S.clock t ≡ clock_of st t = x.same_clocks t f.is_enabled in
      let m : S'.marking ≡ after (arcs_of net) st.marking t = rw x.same_marking at f.marked in
      record {
        is_enabled = on;
        in_interval = (timely_true (transition_at net t) D (clock_of st t)).1 (rw c at f.not_before, rw c at f.not_after);
        is_bounded = (limited_true (arcs_of net) st.marking t (room net st h)).1 (λ p l. rw m at (b p l));
      }

  -- a clock that does not restart was there before
  kept_clock : Restarting net restarts → (S : Timed) (st : State) (t u : ℕ) → Matches net S st
      → enabled (arcs_of net) (after (arcs_of net) S.marking t) u ≡ true
      → cond (restarts S.marking t u) 0 (S.clock u) ≡ cond (restarts S.marking t u) 0 (clock_of st u)
  unfolding Restarting
  kept_clock h S st t u x q = go (restarts S.marking t u) (enabled (arcs_of net) S.marking u) refl refl
    where
      go : (r b : Bool) → restarts S.marking t u ≡ r → enabled (arcs_of net) S.marking u ≡ b → cond r 0 (S.clock u) ≡ cond r 0 (clock_of st u)
      go true b e p = refl
      go false true e p = x.same_clocks u p
      go false false e p = let z : ◌≡◌ {A = Bool} true false = sym (h S.marking t u q p) ∙ e in cc

  marking_fired : (st : State) (t : ℕ) → after (arcs_of net) st.marking t ≡ (fired net restarts st t).marking
  unfolding fired
  marking_fired st t = refl

  matches_fired : Restarting net restarts → (S S' : Timed) (t : ℕ) (st : State) → Sound st → Matches net S st → Fires net restarts D S t S'
      → Matches net S' (fired net restarts st t)
  matches_fired h S S' t st p x f =
      record {
        same_marking = f.marked ∙ rw x.same_marking (marking_fired st t);
        same_clocks = λ u q.
            let on : enabled (arcs_of net) (after (arcs_of net) S.marking t) u ≡ true = rw f.marked at q in
            f.clocks u q ∙ kept_clock h S st t u x on ∙ rw x.same_marking (sym (clock_fired net restarts st t p u (enabled_listed (arcs_of net) _ u q)));
      }

  -- the replay of what is allowed
  pub record Replayed (fs : List Firing) (st : State) (n : ℕ) (S' : Timed) : Type 0 where
    pub state : State
    pub passed : play net restarts D fs st n ≡ record { checked = Passed; state = state }
    pub matches : Matches net S' state
    pub sound : Sound state

  pub play_complete : Restarting net restarts → {S S' : Timed} {fs : List Firing} (st : State) (n : ℕ) → Sound st → Matches net S st
      → Steps net restarts D S fs S' → Replayed fs st n S'
  unfolding play
  play_complete h st n p x none = record { state = st; passed = refl; matches = x; sound = p }
  play_complete h st n p x (one {S₁ = S₁} {S₂ = S₂} {f = f} e g b rest) =
      let w = waited st f.wait in
      let y = matches_waited st p x e in
      let q = passed net D w f.fire (n + 1) (matches_passes w (sound_waited st f.wait p) y g b) in
      let r = play_complete h (fired net restarts w f.fire) (n + 1) (sound_fired net restarts w f.fire (sound_waited st f.wait p))
      (matches_fired h S₁ S₂ f.fire w (sound_waited st f.wait p) y g) rest in
      record { state = r.state; passed = rw q r.passed; matches = r.matches; sound = r.sound }
