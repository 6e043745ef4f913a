-- Document 01: "Each clock and each instant moves by less than one tick." A run and its rounded run restart each clock at the same firing, whose instant
-- is rounded down; and so is the instant at which the clock is read. For any restart rule.
use Rattle.reply.specs.Respond.{Passed}
use Prim.Native.Nat.{ℕ, suc, ◌+◌, ◌*◌, ◌/◌, ◌<◌}
use native.Mathlib.Omega.{arith}
use mathlib.Core.Path.{◌≡◌, sym, ap, ◌∙◌}
use mathlib.Core.List.{List}
use lib.ListN.{length, get_or, take}
use lib.Seq.{take_all, take-length}
use Rattle.laws.specs.Division.{whole_near, difference_near}
use Rattle.net.specs.declared.Net.{Net}
use Rattle.run.specs.declared.Firing.{Firing}
use Rattle.run.specs.declared.Run.{Run}
use Rattle.run.specs.Run.{firings_of, waits_of}
use Rattle.firing.specs.declared.State.{State}
use Rattle.firing.specs.Semantics.{Restart}
use Rattle.firing.specs.Replay.{start_state, waited, clock_of, play, replay}
use Rattle.firing.proofs.Clocks.{Sound, sound_waited}
use Rattle.firing.proofs.Agree.{play_sound}
use Rattle.firing.proofs.Accept.{start_sound}
use Rattle.timing.specs.Windows.{instants}
use Rattle.timing.specs.Rounding.{end_instant, rounded_run}
use Rattle.timing.proofs.RunClocks.{behind, prefix_along, next_instant, end_instant_lem}
use Rattle.timing.proofs.Rounded.{rounded_order, rounded_count, rounded_instant, rounded_end, rounded_accepted}

-- ---- c ticks and x parts, D to the tick, are less than a tick apart
abbrev Near : ℕ → ℕ → ℕ → Type 0
Near D c x = (D * c < x + D) × (x < D * c + D)

instant_near : (D : ℕ) → 0 < D → (s low : ℕ) → low ≡ s / D → Near D low s
instant_near D d s low e = let h = whole_near D d s in rw e (omega arith, h.1)

-- the clocks of two states, where one has the instants of the other rounded down
clock_near : (D : ℕ) → 0 < D → (st low : State) (u : ℕ) → Sound st → low.now ≡ st.now / D → get_or low.since u 0 ≡ get_or st.since u 0 / D
    → Near D (clock_of low u) (clock_of st u)
unfolding clock_of
clock_near D d st low u h now since = rw (now, since) (difference_near D d (get_or st.since u 0) st.now (h.past u))

-- ---- the rounded run
module _ (r : Run) (d : 0 < r.denominator) where
  abbrev D : ℕ
  D = r.denominator

  abbrev fs : List Firing
  fs = firings_of r

  abbrev gs : List Firing
  gs = firings_of (rounded_run r)

  -- each instant moves by less than one tick, and so does the end
  pub rounded_instants_near : (i : ℕ) → Near D (instants (waits_of gs) i) (instants (waits_of fs) i)
  rounded_instants_near i = instant_near D d (instants (waits_of fs) i) (instants (waits_of gs) i) (rounded_instant r d i)

  pub rounded_end_near : Near D (end_instant (rounded_run r)) (end_instant r)
  rounded_end_near = instant_near D d (end_instant r) (end_instant (rounded_run r)) (rounded_end r d)

  module _ (net : Net) (restarts : Restart) (e : (replay net restarts r).checked ≡ Passed) where
    passed : (play net restarts D fs (start_state net) 0).checked ≡ Passed
    unfolding replay
    passed = e

    rounded_passed : (play net restarts 1 gs (start_state net) 0).checked ≡ Passed
    unfolding replay rounded_run
    rounded_passed = rounded_accepted r d net restarts e

    -- each clock restarts at the same firing, whose instant is rounded down
    pub rounded_since : (i u : ℕ) → get_or (behind net restarts 1 (take i gs)).since u 0 ≡ get_or (behind net restarts D (take i fs)).since u 0 / D
    rounded_since i u =
        let low = rw (rounded_order r) at (prefix_along net restarts 1 gs rounded_passed i) in
        low.restarted u ∙ rounded_instant r d _ ∙ ap (λ (s : ℕ). s / D) (sym ((prefix_along net restarts D fs passed i).restarted u))

    -- right before firing i + 1 each clock has moved by less than one tick
    pub rounded_clocks : (i u : ℕ) → i < length fs
        → Near D (clock_of (waited (behind net restarts 1 (take i gs)) (get_or (waits_of gs) i 0)) u)
        (clock_of (waited (behind net restarts D (take i fs)) (get_or (waits_of fs) i 0)) u)
    unfolding waited
    rounded_clocks i u l =
        let st = behind net restarts D (take i fs) in
        let w = get_or (waits_of fs) i 0 in
        clock_near D d (waited st w) (waited (behind net restarts 1 (take i gs)) (get_or (waits_of gs) i 0)) u
        (sound_waited st w (play_sound net restarts D (take i fs) (start_state net) 0 (start_sound net)))
        (next_instant net restarts 1 gs rounded_passed i (rw (rounded_count r) l) ∙ rounded_instant r d (suc i)
        ∙ ap (λ (s : ℕ). s / D) (sym (next_instant net restarts D fs passed i l)))
        (rounded_since i u)

    -- and so it has at the end
    pub rounded_end_clocks : (u : ℕ) → Near D (clock_of (replay net restarts (rounded_run r)).state u) (clock_of (replay net restarts r).state u)
    unfolding replay rounded_run waited
    rounded_end_clocks u =
        clock_near D d (replay net restarts r).state (replay net restarts (rounded_run r)).state u
        (sound_waited (behind net restarts D fs) r.rest (play_sound net restarts D fs (start_state net) 0 (start_sound net)))
        (end_instant_lem net restarts (rounded_run r) (rounded_accepted r d net restarts e) ∙ rounded_end r d
        ∙ ap (λ (s : ℕ). s / D) (sym (end_instant_lem net restarts r e)))
        (rw (take-length fs, take_all (length fs) gs (omega (arith, rounded_count r))) at (rounded_since (length fs) u))
