-- What holds of the windows of every order, for any restart rule: a clock restarts in the past, so each window is measured from an earlier firing; the
-- bounds are those of the fired transition; and neither windows nor tokens of the first firings depend on those that follow.
use Rattle.reply.specs.Respond.{Passed}
use Rattle.std.specs.Prelude.{None, Option, Some}
use Prim.Native.Nat.{ℕ, zero, suc, ◌+◌, ◌≤◌, ◌<◌}
use native.Mathlib.Nat.{le_of_suc-le-suc, not-suc-le-zero}
use native.Mathlib.Omega.{arith}
use mathlib.Core.Path.{◌≡◌, refl, ap, subst⁻¹}
use mathlib.Core.List.{List, [], ◌∷◌}
use lib.ListN.{length, get_or, take}
use Rattle.laws.specs.Each.{Each, each_at}
use Rattle.form.proofs.Found.{also_first, also_second}
use Rattle.net.specs.declared.Net.{Net}
use Rattle.firing.specs.declared.State.{State}
use Rattle.firing.specs.Semantics.{arcs_of, Restart, transition_at, start_marking, after}
use Rattle.firing.specs.Replay.{start_state, waited, fired}
use Rattle.firing.specs.Tokens.{tokens_judged, tokens}
use Rattle.firing.proofs.Clocks.{Sound, sound_waited, sound_fired, enabled_listed}
use Rattle.firing.proofs.Accept.{start_sound}
use Rattle.timing.specs.declared.Window.{Window}
use Rattle.timing.specs.Timing.{Closed, AllClosed, Wellformed, LowsLe}
use Rattle.timing.specs.Windows.{upper_of, windows, window_at, windows_from, windows_of}
use Rattle.timing.proofs.Meet.{tokens_passed}

closed_upper : (l : Option ℕ) → Closed (upper_of l)
closed_upper None = tt
closed_upper (Some b) = tt

module _ (net : Net) (restarts : Restart) where
  next_now : (st : State) (t : ℕ) → (fired net restarts (waited st 1) t).now ≡ st.now + 1
  unfolding fired waited
  next_now st t = refl

  origin_before : (order : List ℕ) (st : State) → Sound st → (i : ℕ) → i < length order → (windows (windows_from net restarts order st) i).origin ≤ st.now + i
  unfolding windows_from
  origin_before [] st h i l = absurd (not-suc-le-zero l)
  origin_before (t ∷ order) st h zero l = omega (arith, h.past t)
  origin_before (t ∷ order) st h (suc i) l =
      omega (
        arith,
        origin_before order (fired net restarts (waited st 1) t) (sound_fired net restarts (waited st 1) t (sound_waited st 1 h)) i (le_of_suc-le-suc l),
        next_now st t,
      )

  -- the bounds of a window are the fired transition's
  window_bounds : (order : List ℕ) (st : State) (i : ℕ) → i < length order
      → ((windows (windows_from net restarts order st) i).low ≡ (transition_at net (get_or order i 0)).earliest)
      × ((windows (windows_from net restarts order st) i).high ≡ upper_of (transition_at net (get_or order i 0)).latest)
  unfolding windows_from
  window_bounds [] st i l = absurd (not-suc-le-zero l)
  window_bounds (t ∷ order) st zero l = (refl, refl)
  window_bounds (t ∷ order) st (suc i) l = window_bounds order (fired net restarts (waited st 1) t) i (le_of_suc-le-suc l)

  pub windows_prefix : (k : ℕ) (order : List ℕ) (st : State) → windows_from net restarts (take k order) st ≡ take k (windows_from net restarts order st)
  unfolding windows_from
  windows_prefix zero order st = refl
  windows_prefix (suc k) [] st = refl
  windows_prefix (suc k) (t ∷ order) st = ap (λ (ws : List Window). window_at net st t ∷ ws) (windows_prefix k order (fired net restarts (waited st 1) t))

  module _ (order : List ℕ) where
    pub windows_wellformed : Wellformed (windows (windows_of net restarts order)) (length order)
    unfolding windows_of start_state
    windows_wellformed i l = omega (arith, origin_before order (start_state net) (start_sound net) i l)

    pub windows_closed : AllClosed (windows (windows_of net restarts order)) (length order)
    unfolding windows_of
    windows_closed i l = subst⁻¹ Closed (window_bounds order (start_state net) i l).1 (closed_upper (transition_at net (get_or order i 0)).latest)

-- the tokens allow a part of what they allow
pub tokens_prefix : (net : Net) (k : ℕ) (order m : List ℕ) (n : ℕ) → tokens net order m n ≡ Passed → tokens net (take k order) m n ≡ Passed
unfolding tokens
tokens_prefix net zero order m n e = refl
tokens_prefix net (suc k) [] m n e = refl
tokens_prefix net (suc k) (t ∷ order) m n e =
    let here = tokens_judged net m t (n + 1) in
    let rest = tokens net order (after (arcs_of net) m t) (n + 1) in
    rw (also_first here rest e) (tokens_prefix net k order (after (arcs_of net) m t) (n + 1) (also_second here rest e))

-- and each firing is of a transition of the net
pub tokens_listed : (net : Net) (order m : List ℕ) (n : ℕ) → tokens net order m n ≡ Passed → Each (λ t. t < (arcs_of net).transitions) order
unfolding tokens
tokens_listed net [] m n e = tt
tokens_listed net (t ∷ order) m n e =
    let here = tokens_judged net m t (n + 1) in
    let rest = tokens net order (after (arcs_of net) m t) (n + 1) in (
      enabled_listed (arcs_of net) m t (tokens_passed net m t (n + 1) (also_first here rest e)).0,
      tokens_listed net order (after (arcs_of net) m t) (n + 1) (also_second here rest e),
    )

-- so no lower bound is over K where no transition's is
pub windows_lows : (net : Net) (restarts : Restart) (order : List ℕ) → tokens net order (start_marking net) 0 ≡ Passed
    → (K : ℕ) → ((t : ℕ) → t < (arcs_of net).transitions → (transition_at net t).earliest ≤ K) → LowsLe K 1 (windows (windows_of net restarts order)) (length order)
unfolding windows_of
windows_lows net restarts order e K h i l =
    let listed = each_at (λ t. t < (arcs_of net).transitions) 0 order (tokens_listed net order (start_marking net) 0 e) i l in
    omega (arith, (window_bounds net restarts order (start_state net) i l).0, h (get_or order i 0) listed)
