-- A run that passes goes along with its order: each firing is at its instant, and each clock counts from the last restart of its transition, as the windows of
-- document 01 do. For any restart rule.
use Rattle.reply.specs.Respond.{Passed}
use Prim.Native.Nat.{ℕ, zero, suc, ◌+◌, ◌-◌, ◌≤◌, ◌<◌}
use native.Mathlib.Nat.{zero-add, add-suc, suc-add, add-zero}
use native.Mathlib.Omega.{arith}
use mathlib.Core.Path.{◌≡◌, refl, sym, ap, ◌∙◌}
use mathlib.Core.List.{List, [], ◌∷◌}
use lib.ListN.{length, get_or, take}
use lib.Seq.{length-take-le, take-length}
use Rattle.net.specs.declared.Net.{Net}
use Rattle.run.specs.declared.Firing.{Firing}
use Rattle.run.specs.declared.Run.{Run}
use Rattle.run.specs.Run.{firings_of, order_of, waits_of}
use Rattle.firing.specs.declared.State.{State}
use Rattle.firing.specs.Semantics.{arcs_of, Restart}
use Rattle.firing.specs.Replay.{start_state, waited, clock_of, fired, judged, play, replay}
use Rattle.firing.proofs.Clocks.{Sound, sound_waited, sound_fired}
use Rattle.firing.proofs.Accept.{start_sound}
use Rattle.timing.specs.Windows.{windows, windows_of, last_restart, instants}
use Rattle.timing.specs.Rounding.{last_instant, end_instant}
use Rattle.timing.proofs.Meet.{Along, Follows, along_fired, step_passed, follows, start_along, length_order}
use Rattle.timing.proofs.Instants.{instants_next}
use Rattle.timing.proofs.Markings.{order_prefix, play_prefix}
use Rattle.timing.proofs.Origins.{course, origin_course, since_last}

-- ---- a run that passes goes along with its order
follows_prefix : (S : ℕ → ℕ) (k i : ℕ) (fs : List Firing) → Follows S k fs → Follows S k (take i fs)
follows_prefix S k zero fs h = tt
follows_prefix S k (suc i) [] h = tt
follows_prefix S k (suc i) (f ∷ fs) h = (h.0, follows_prefix S (suc k) i fs h.1)

module _ (net : Net) (restarts : Restart) (D : ℕ) where
  play_along : (S : ℕ → ℕ) (fs : List Firing) (k n : ℕ) (st from : State) → Sound st → Sound from → Along S k st from → Follows S k fs
      → (play net restarts D fs st n).checked ≡ Passed
      → Along S (k + length fs) (play net restarts D fs st n).state (course net restarts (order_of fs) from)
  unfolding play course order_of
  play_along S [] k n st from h hf a g e = rw (add-zero k) a
  play_along S (f ∷ fs) k n st from h hf a g e =
      let w = waited st f.wait in
      let next = fired net restarts w f.fire in
      let p = step_passed (judged net D w f.fire (n + 1)) st (play net restarts D fs next (n + 1)) e in
      rw (p.0, add-suc k (length fs), ← suc-add k (length fs))
      (play_along S fs (suc k) (n + 1) next (fired net restarts (waited from 1) f.fire)
      (sound_fired net restarts w f.fire (sound_waited st f.wait h))
      (sound_fired net restarts (waited from 1) f.fire (sound_waited from 1 hf))
      (along_fired net restarts D S k st from a h f.wait f.fire g.0 hf) g.1 p.1)

  -- the state behind firings, from the start
  abbrev pub behind : List Firing → State
  behind fs = (play net restarts D fs (start_state net) 0).state

  pub prefix_along : (fs : List Firing) → (play net restarts D fs (start_state net) 0).checked ≡ Passed → (i : ℕ)
      → Along (instants (waits_of fs)) (length (take i fs)) (behind (take i fs)) (course net restarts (take i (order_of fs)) (start_state net))
  prefix_along fs e i =
      let S = instants (waits_of fs) in
      let g = follows_prefix S 0 i fs (follows fs S 0 0 (λ j. ap S (zero-add j) ∙ sym (zero-add (S j)))) in
      rw (zero-add (length (take i fs)), order_prefix i fs) at
      (play_along S (take i fs) 0 0 (start_state net) (start_state net) (start_sound net) (start_sound net) (start_along net restarts D fs) g
      (play_prefix net restarts D i fs (start_state net) 0 e))

  module _ (fs : List Firing) (e : (play net restarts D fs (start_state net) 0).checked ≡ Passed) where
    -- firing i + 1 is at instant number i + 1, and so is the last at the last
    pub next_instant : (i : ℕ) → i < length fs → (waited (behind (take i fs)) (get_or (waits_of fs) i 0)).now ≡ instants (waits_of fs) (suc i)
    unfolding waited
    next_instant i l = rw ((prefix_along fs e i).at_instant, length-take-le i fs (omega arith)) (sym (instants_next (waits_of fs) i))

    last_instant_lem : (behind fs).now ≡ instants (waits_of fs) (length fs)
    last_instant_lem = rw (take-length fs) at (prefix_along fs e (length fs)).at_instant

    -- a clock counts from its transition's last restart; that of the next firing is the origin of its window
    since_restart : (i u : ℕ) → i ≤ length fs → u < (arcs_of net).transitions
        → get_or (behind (take i fs)).since u 0 ≡ instants (waits_of fs) (last_restart net restarts (order_of fs) i u)
    since_restart i u l b =
        (prefix_along fs e i).restarted u ∙ ap (instants (waits_of fs)) (since_last net restarts (order_of fs) i u (omega (arith, length_order fs)) b)

    pub clock_restart : (i u : ℕ) → i < length fs → u < (arcs_of net).transitions
        → clock_of (waited (behind (take i fs)) (get_or (waits_of fs) i 0)) u
        ≡ instants (waits_of fs) (suc i) - instants (waits_of fs) (last_restart net restarts (order_of fs) i u)
    unfolding clock_of waited
    clock_restart i u l b = rw (next_instant i l, since_restart i u (omega arith) b) refl

    pub clock_origin : (i : ℕ) → i < length fs
        → clock_of (waited (behind (take i fs)) (get_or (waits_of fs) i 0)) (get_or (order_of fs) i 0)
        ≡ instants (waits_of fs) (suc i) - instants (waits_of fs) (windows (windows_of net restarts (order_of fs)) i).origin
    unfolding clock_of waited windows_of
    clock_origin i l =
        rw (
          next_instant i l,
          (prefix_along fs e i).restarted (get_or (order_of fs) i 0),
          origin_course net restarts (order_of fs) (start_state net) i (omega (arith, length_order fs)),
        ) refl

-- an accepted run ends at its end
pub end_instant_lem : (net : Net) (restarts : Restart) (r : Run) → (replay net restarts r).checked ≡ Passed → (replay net restarts r).state.now ≡ end_instant r
unfolding replay waited end_instant last_instant
end_instant_lem net restarts r e = ap (λ (s : ℕ). s + r.rest) (last_instant_lem net restarts r.denominator (firings_of r) e)

-- and there every clock counts from its transition's last restart
pub end_clock_restart : (net : Net) (restarts : Restart) (r : Run) → (replay net restarts r).checked ≡ Passed → (u : ℕ) → u < (arcs_of net).transitions
    → clock_of (replay net restarts r).state u
    ≡ end_instant r - instants (waits_of (firings_of r)) (last_restart net restarts (order_of (firings_of r)) (length (firings_of r)) u)
unfolding replay clock_of waited end_instant last_instant
end_clock_restart net restarts r e u b =
    let fs = firings_of r in
    rw (
      last_instant_lem net restarts r.denominator fs e,
      rw (take-length fs) at (since_restart net restarts r.denominator fs e (length fs) u (omega arith) b),
    ) refl
