-- A run is accepted exactly when the tokens allow its order and its instants meet the windows: along the run, a clock's last restart is the instant
-- of the firing that the order's state names, so that the clock is Si − So. For any restart rule.
use Rattle.reply.specs.Respond.{Checked, Passed}
use Rattle.std.specs.Prelude.{Err, None, Option, Some}
use Prim.Native.Nat.{ℕ, zero, suc, ◌+◌, ◌-◌, ◌≤◌, ◌<◌, suc-le-suc}
use native.Mathlib.Nat.{add-zero, zero-add, add-suc, suc-add, not-suc-le-zero, le_of_suc-le-suc}
use native.Mathlib.Numerals.{add-one}
use native.Mathlib.Omega.{arith}
use native.Mathlib.Decide.{dec_lt}
use mathlib.Core.Path.{◌≡◌, refl, sym, ap, subst, subst⁻¹, ◌∙◌}
use mathlib.Core.Bool.{Bool, true, false, cond}
use mathlib.Core.Logic.{◌↔◌}
use mathlib.Core.List.{List, [], ◌∷◌}
use lib.ListN.{length, get_or, length-map}
use Rattle.reply.specs.declared.Refusal.TheVariants.{NotEnabled, TooManyTokens}
use Rattle.form.proofs.Found.{also_first, also_second}
use Rattle.net.specs.declared.Net.{Net}
use Rattle.run.specs.declared.Firing.{Firing}
use Rattle.firing.specs.declared.State.{State}
use Rattle.firing.specs.declared.Played.{Played}
use Rattle.run.specs.Run.{order_of, waits_of}
use Rattle.firing.specs.Semantics.{arcs_of, Restart, NotAfter, transition_at, start_marking, enabled, after}
use Rattle.firing.specs.Replay.{start_state, waited, clock_of, timely, limited, fired, judged, step_on, play}
use Rattle.firing.specs.Tokens.{tokens_judged, tokens}
use Rattle.firing.proofs.Clocks.{Sound, sound_waited, sound_fired, since_fired, since_past, timely_true}
use Rattle.firing.proofs.Agree.{refused_not, passes, passed}
use Rattle.firing.proofs.Accept.{start_sound, start_since}
use Rattle.timing.specs.declared.Window.{Window}
use Rattle.timing.specs.Timing.{Within, Meets, Feasible}
use Rattle.timing.specs.Windows.{upper_of, win_of, windows, window_at, windows_from, windows_of, instants}

-- the window of each firing is met, from firing number k + 1 on
abbrev pub MeetsAll : ℕ → (ℕ → ℕ) → ℕ → List Window → Type 0
MeetsAll D S k [] = Unit {0}
MeetsAll D S k (w ∷ ws) = Meets D S k (win_of w) × MeetsAll D S (suc k) ws

-- the instants from number k on follow the waits
abbrev pub Follows : (ℕ → ℕ) → ℕ → List Firing → Type 0
Follows S k [] = Unit {0}
Follows S k (f ∷ fs) = (S (suc k) ≡ S k + f.wait) × Follows S (suc k) fs

-- the state st of a run beside the state of its order after k firings
pub record Along (S : ℕ → ℕ) (k : ℕ) (st course : State) : Type 0 where
  pub marked : st.marking ≡ course.marking
  pub counted : course.now ≡ k
  pub at_instant : st.now ≡ S k
  pub restarted : (u : ℕ) → get_or st.since u 0 ≡ S (get_or course.since u 0)

within_latest : (D : ℕ) (l : Option ℕ) (x y : ℕ) → x ≤ y → NotAfter D l (y - x) ↔ Within D (upper_of l) x y
within_latest D None x y h = (λ e. tt, λ e. tt)
within_latest D (Some b) x y h = (λ e. omega arith, λ e. omega arith)

pub tokens_passed : (net : Net) (m : List ℕ) (t n : ℕ) → tokens_judged net m t n ≡ Passed → (enabled (arcs_of net) m t ≡ true) × (limited (arcs_of net) m t ≡ true)
unfolding tokens_judged
tokens_passed net m t n = go (enabled (arcs_of net) m t) (limited (arcs_of net) m t) refl refl
  where
    go : (a b : Bool) → enabled (arcs_of net) m t ≡ a → limited (arcs_of net) m t ≡ b
        → cond a (cond b Passed (Err (TooManyTokens n))) (Err (NotEnabled n)) ≡ Passed
        → (enabled (arcs_of net) m t ≡ true) × (limited (arcs_of net) m t ≡ true)
    go true true p q e = (p, q)
    go true false p q e = absurd (refused_not e)
    go false b p q e = absurd (refused_not e)

tokens_pass : (net : Net) (m : List ℕ) (t n : ℕ) → enabled (arcs_of net) m t ≡ true → limited (arcs_of net) m t ≡ true → tokens_judged net m t n ≡ Passed
unfolding tokens_judged
tokens_pass net m t n p q = rw (p, q) refl

module _ (net : Net) (restarts : Restart) (D : ℕ) (S : ℕ → ℕ) (k : ℕ) (st course : State) (a : Along S k st course) (h : Sound st) (w t : ℕ)
    (next : S (suc k) ≡ S k + w) where
  -- the clock of t at the next firing, and its window
  clock_there : clock_of (waited st w) t ≡ S (suc k) - S (get_or course.since t 0)
  unfolding clock_of waited
  clock_there = rw (a.restarted t, a.at_instant, next) refl

  origin_past : S (get_or course.since t 0) ≤ S (suc k)
  origin_past = omega (arith, h.past t, a.restarted t, a.at_instant)

  window_there : (timely (transition_at net t) D (clock_of (waited st w) t) ≡ true) ↔ Meets D S k (win_of (window_at net course t))
  window_there =
      let i = timely_true (transition_at net t) D (clock_of (waited st w) t) in
      let l = within_latest D (transition_at net t).latest (S (get_or course.since t 0)) (S (suc k)) origin_past in (
        λ e. let q = rw clock_there at (i.0 e) in record { ordered = omega arith; early = omega (arith, q.0, origin_past); late = l.0 q.1 },
        λ m. i.1 (rw clock_there (omega (arith, m.early), l.1 m.late)),
      )

  pub along_fired : Sound course → Along S (suc k) (fired net restarts (waited st w) t) (fired net restarts (waited course 1) t)
  unfolding fired waited
  along_fired hc =
      record {
        marked = ap (λ (m : List ℕ). after (arcs_of net) m t) a.marked;
        counted = rw a.counted (add-one k);
        at_instant = omega (arith, a.at_instant);
        restarted = λ u. go u (dec_lt u (arcs_of net).transitions);
      }
    where
      chosen : (u : ℕ) (b : Bool) → cond b (st.now + w) (get_or st.since u 0) ≡ S (cond b (course.now + 1) (get_or course.since u 0))
      chosen u true = rw (a.counted, add-one) (omega (arith, a.at_instant))
      chosen u false = a.restarted u

      go : (u : ℕ) → Dec (u < (arcs_of net).transitions) → get_or (fired net restarts (waited st w) t).since u 0
          ≡ S (get_or (fired net restarts (waited course 1) t).since u 0)
      go u (yes l) =
          since_fired net restarts (waited st w) t (sound_waited st w h) u l ∙ chosen u (restarts st.marking t u)
          ∙ ap S (rw a.marked (sym (since_fired net restarts (waited course 1) t (sound_waited course 1 hc) u l)))
      go u (no n) =
          since_past net restarts (waited st w) t (sound_waited st w h) u (omega arith) ∙ a.restarted u
          ∙ ap S (sym (since_past net restarts (waited course 1) t (sound_waited course 1 hc) u (omega arith)))

-- ---- whole runs
pub step_passed : (c : Checked) (st : State) (later : Played) → (step_on c st later).checked ≡ Passed → (c ≡ Passed) × (later.checked ≡ Passed)
step_passed Passed st later e = (refl, e)
step_passed (Err r) st later e = absurd (refused_not e)

module _ (net : Net) (restarts : Restart) (D : ℕ) (S : ℕ → ℕ) where
  meet : (fs : List Firing) (k n : ℕ) (st course : State) → Sound st → Sound course → Along S k st course → Follows S k fs
      → ((play net restarts D fs st n).checked ≡ Passed)
      ↔ ((tokens net (order_of fs) st.marking n ≡ Passed) × MeetsAll D S k (windows_from net restarts (order_of fs) course))
  unfolding play tokens order_of windows_from waited fired
  meet [] k n st course h hc a e = (λ p. (refl, tt), λ p. refl)
  meet (f ∷ fs) k n st course h hc a e =
      let w = waited st f.wait in
      let ih =
      meet fs (suc k) (n + 1) (fired net restarts w f.fire) (fired net restarts (waited course 1) f.fire)
      (sound_fired net restarts w f.fire (sound_waited st f.wait h))
      (sound_fired net restarts (waited course 1) f.fire (sound_waited course 1 hc))
      (along_fired net restarts D S k st course a h f.wait f.fire e.0 hc) e.1 in
      let there = window_there net restarts D S k st course a h f.wait f.fire e.0 in
      let here = tokens_judged net st.marking f.fire (n + 1) in
      let rest = tokens net (order_of fs) (after (arcs_of net) st.marking f.fire) (n + 1) in (
        λ p.
            let q = step_passed (judged net D w f.fire (n + 1)) st _ p in
            let g = passes net D w f.fire (n + 1) q.0 in
            let m = ih.0 q.1 in
            (rw (tokens_pass net st.marking f.fire (n + 1) g.is_enabled g.is_bounded) m.0, (there.0 g.in_interval, m.1)),
        λ p.
            let t = tokens_passed net st.marking f.fire (n + 1) (also_first here rest p.0) in
            let g : judged net D w f.fire (n + 1) ≡ Passed =
            passed net D w f.fire (n + 1) (record { is_enabled = t.0; in_interval = there.1 p.1.0; is_bounded = t.1 }) in
            rw g (ih.1 (also_second here rest p.0, p.1.1)),
      )

-- ---- the instants of a run, and the windows one by one
pub instants_zero : (ws : List ℕ) → instants ws 0 ≡ 0
unfolding instants
instants_zero [] = refl
instants_zero (w ∷ ws) = refl

pub follows : (fs : List Firing) (S : ℕ → ℕ) (k b : ℕ) → ((i : ℕ) → S (k + i) ≡ b + instants (waits_of fs) i) → Follows S k fs
unfolding instants waits_of
follows [] S k b h = tt
follows (f ∷ fs) S k b h = (
  rw (add-one k) at (h 1) ∙ omega (arith, rw (add-zero k) at (h 0), instants_zero (waits_of fs)),
  follows fs S (suc k) (b + f.wait) (λ i. ap S (suc-add k i ∙ sym (add-suc k i)) ∙ h (suc i) ∙ omega arith),
)

meets_at : (D : ℕ) (S : ℕ → ℕ) (k : ℕ) (ws : List Window) → MeetsAll D S k ws → (i : ℕ) → i < length ws → Meets D S (k + i) (windows ws i)
meets_at D S k [] m i l = absurd (not-suc-le-zero l)
meets_at D S k (w ∷ ws) m zero l = subst (λ (j : ℕ). Meets D S j (win_of w)) (sym (add-zero k)) m.0
meets_at D S k (w ∷ ws) m (suc i) l =
    subst (λ (j : ℕ). Meets D S j (windows ws i)) (suc-add k i ∙ sym (add-suc k i)) (meets_at D S (suc k) ws m.1 i (le_of_suc-le-suc l))

meets_all : (D : ℕ) (S : ℕ → ℕ) (k : ℕ) (ws : List Window) → ((i : ℕ) → i < length ws → Meets D S (k + i) (windows ws i)) → MeetsAll D S k ws
meets_all D S k [] h = tt
meets_all D S k (w ∷ ws) h = (
  subst (λ (j : ℕ). Meets D S j (win_of w)) (add-zero k) (h 0 (omega arith)),
  meets_all D S (suc k) ws (λ i l. subst (λ (j : ℕ). Meets D S j (windows ws i)) (add-suc k i ∙ sym (suc-add k i)) (h (suc i) (suc-le-suc l))),
)

pub length_windows : (net : Net) (restarts : Restart) (order : List ℕ) (st : State) → length (windows_from net restarts order st) ≡ length order
unfolding windows_from
length_windows net restarts [] st = refl
length_windows net restarts (t ∷ order) st = ap suc (length_windows net restarts order (fired net restarts (waited st 1) t))

pub length_order : (fs : List Firing) → length (order_of fs) ≡ length fs
unfolding order_of
length_order fs = length-map fs (λ (f : Firing). f.fire)

pub length_waits : (fs : List Firing) → length (waits_of fs) ≡ length fs
unfolding waits_of
length_waits fs = length-map fs (λ (f : Firing). f.wait)

-- ---- from the start: the run is accepted exactly when the tokens allow its order and its instants meet the windows of its order
module _ (net : Net) (restarts : Restart) (D : ℕ) (fs : List Firing) where
  start_now : (start_state net).now ≡ 0
  unfolding start_state
  start_now = refl

  pub start_along : Along (instants (waits_of fs)) 0 (start_state net) (start_state net)
  start_along =
      record {
        marked = refl;
        counted = start_now;
        at_instant = start_now ∙ sym (instants_zero (waits_of fs));
        restarted = λ u. start_since net u ∙ sym (instants_zero (waits_of fs)) ∙ ap (instants (waits_of fs)) (sym (start_since net u));
      }

  pub accepted_windows : ((play net restarts D fs (start_state net) 0).checked ≡ Passed)
      ↔ ((tokens net (order_of fs) (start_marking net) 0 ≡ Passed)
      × Feasible D (windows (windows_of net restarts (order_of fs))) (length fs) (instants (waits_of fs)))
  unfolding start_state windows_of
  accepted_windows =
      let S = instants (waits_of fs) in
      let ws = windows_from net restarts (order_of fs) (start_state net) in
      let n : length ws ≡ length fs = length_windows net restarts (order_of fs) (start_state net) ∙ length_order fs in
      let m = meet net restarts D S fs 0 0 (start_state net) (start_state net) (start_sound net) (start_sound net) start_along
      (follows fs S 0 0 (λ i. ap S (zero-add i) ∙ sym (zero-add (S i)))) in (
        λ p. let q = m.0 p in (
          q.0,
          record {
            starts = instants_zero (waits_of fs);
            each = λ i l. subst (λ (j : ℕ). Meets D S j (windows ws i)) (zero-add i) (meets_at D S 0 ws q.1 i (rw n l));
          },
        ),
        λ p. m.1 (p.0, meets_all D S 0 ws (λ i l. subst⁻¹ (λ (j : ℕ). Meets D S j (windows ws i)) (zero-add i) (p.1.each i (rw n at l)))),
      )
