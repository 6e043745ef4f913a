-- Document 01, "Windows and instants": the window of a firing is measured from the last restart of its transition before it, which order, markings and rule
-- tell. For any restart rule and orders of any length.
use Prim.Native.Nat.{ℕ, zero, suc, ◌+◌, ◌≤◌, ◌<◌}
use native.Mathlib.Nat.{le_of_suc-le-suc, not-suc-le-zero}
use native.Mathlib.Omega.{arith}
use mathlib.Core.Path.{◌≡◌, refl, ◌∙◌}
use mathlib.Core.List.{List, [], ◌∷◌}
use lib.ListN.{length, get_or, take}
use Rattle.net.specs.declared.Net.{Net}
use Rattle.firing.specs.declared.State.{State}
use Rattle.firing.specs.Semantics.{arcs_of, Restart}
use Rattle.firing.specs.Replay.{start_state, waited, fired}
use Rattle.firing.specs.Tokens.{marking_after}
use Rattle.firing.proofs.Clocks.{Sound, sound_waited, sound_fired, since_fired}
use Rattle.firing.proofs.Accept.{start_sound, start_since}
use Rattle.timing.specs.Windows.{windows, windows_from, windows_of, last_restart}

module _ (net : Net) (restarts : Restart) where
  -- the state behind the firings of an order, whose instants count firings
  unfoldable pub course : List ℕ → State → State
  course [] st = st
  course (t ∷ order) st = course order (fired net restarts (waited st 1) t)

  course_sound : (order : List ℕ) (st : State) → Sound st → Sound (course order st)
  unfolding course
  course_sound [] st h = h
  course_sound (t ∷ order) st h = course_sound order (fired net restarts (waited st 1) t) (sound_fired net restarts (waited st 1) t (sound_waited st 1 h))

  course_marking : (order : List ℕ) (st : State) → (course order st).marking ≡ marking_after net st.marking order
  unfolding course marking_after fired waited
  course_marking [] st = refl
  course_marking (t ∷ order) st = course_marking order (fired net restarts (waited st 1) t)

  -- one firing more
  course_more : (order : List ℕ) (st : State) (i : ℕ) → i < length order
      → course (take (suc i) order) st ≡ fired net restarts (waited (course (take i order) st) 1) (get_or order i 0)
  unfolding course
  course_more [] st i l = absurd (not-suc-le-zero l)
  course_more (t ∷ order) st zero l = refl
  course_more (t ∷ order) st (suc i) l = course_more order (fired net restarts (waited st 1) t) i (le_of_suc-le-suc l)

  course_now : (order : List ℕ) (st : State) (i : ℕ) → i ≤ length order → (course (take i order) st).now ≡ st.now + i
  unfolding course fired waited
  course_now order st zero l = omega arith
  course_now [] st (suc i) l = absurd (not-suc-le-zero l)
  course_now (t ∷ order) st (suc i) l = omega (arith, course_now order (fired net restarts (waited st 1) t) i (le_of_suc-le-suc l))

  -- the window of a firing is measured from where the state before it says
  pub origin_course : (order : List ℕ) (st : State) (i : ℕ) → i < length order
      → (windows (windows_from net restarts order st) i).origin ≡ get_or (course (take i order) st).since (get_or order i 0) 0
  unfolding course windows_from
  origin_course [] st i l = absurd (not-suc-le-zero l)
  origin_course (t ∷ order) st zero l = refl
  origin_course (t ∷ order) st (suc i) l = origin_course order (fired net restarts (waited st 1) t) i (le_of_suc-le-suc l)

  module _ (order : List ℕ) where
    -- each transition restarted last where order, markings and rule say
    pub since_last : (i u : ℕ) → i ≤ length order → u < (arcs_of net).transitions
        → get_or (course (take i order) (start_state net)).since u 0 ≡ last_restart net restarts order i u
    unfolding course last_restart start_state waited
    since_last zero u l b = start_since net u
    since_last (suc i) u l b =
        let st = course (take i order) (start_state net) in
        let h = course_sound (take i order) (start_state net) (start_sound net) in
        let now : st.now + 1 ≡ suc i = omega (arith, course_now order (start_state net) i (omega arith)) in
        rw (course_more order (start_state net) i l, since_fired net restarts (waited st 1) (get_or order i 0) (sound_waited st 1 h) u b)
        (rw (now, course_marking (take i order) (start_state net), since_last i u (omega arith) b) refl)

    -- each window is measured from the last restart of its transition before it
    pub origins_are_restarts : (i : ℕ) → i < length order → get_or order i 0 < (arcs_of net).transitions
        → (windows (windows_of net restarts order) i).origin ≡ last_restart net restarts order i (get_or order i 0)
    unfolding windows_of
    origins_are_restarts i l b = origin_course order (start_state net) i l ∙ since_last i (get_or order i 0) (omega arith) b
