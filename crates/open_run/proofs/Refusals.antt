-- What is found against a step of an open run: 2 for a sum or a count past its range, 4 for a transition that is not in the net, and what the judgement in the
-- state where the run stands finds, 5, 7 or 6; each with the place of the firing being entered. So 15 is told of closed records alone.
use Rattle.reply.specs.Respond.{Checked, Passed}
use Rattle.std.specs.Prelude.{Err}
use Prim.Native.Nat.{ℕ, suc, ◌+◌, ◌≤◌, ◌<◌}
use native.Mathlib.Omega.{arith}
use mathlib.Core.Path.{◌≡◌, refl, sym, ap, ◌∙◌}
use mathlib.Core.Bool.{Bool, true, false, ◌&&◌}
use mathlib.Core.Logic.{◌↔◌, ◌⊎◌, inl, inr}
use lib.Dec.{leb, ltb}
use borrow.Author.Tests.{lt-ltb, le-ltb, lt-leb, le-leb}
use Rattle.laws.specs.Sums.{le_or_lt}
use Rattle.reply.specs.declared.Refusal.{Refusal}
use Rattle.reply.specs.declared.Refusal.TheVariants.{OutOfRange, NoSuchTransition, OutputTooShort, ClosedRun}
use Rattle.reply.specs.Refusal.{number_of, position_of}
use Rattle.form.specs.Form.{also}
use Rattle.form.specs.Line.{ranged, listed}
use Rattle.form.proofs.Found.{test_refused}
use Rattle.run.proofs.Ranges.{ranged_passes}
use Rattle.net.specs.declared.Net.{Net}
use Rattle.run.specs.Run.{firings_of}
use Rattle.firing.specs.declared.State.{State}
use Rattle.firing.specs.Semantics.{arcs_of, Restart, Timed, enabled, rule_of, Allowed}
use Rattle.firing.specs.Replay.{judged, start_state, play, replay}
use Rattle.firing.specs.Claims.{view, Matches, Because}
use Rattle.firing.proofs.Clocks.{Sound, sound_waited}
use Rattle.firing.proofs.Agree.{play_sound}
use Rattle.firing.proofs.Accept.{because, judged_so, start_sound, same_end}
use Rattle.firing.proofs.Places.{because_place}
use Rattle.firing.proofs.Rules.{rule_restarting}
use Rattle.operations.proofs.Places.{because_number}
use Rattle.open_run.specs.declared.OpenRun.{OpenRun}
use Rattle.open_run.specs.Open.{is_open, still, wait_checked, fire_checked}
use Rattle.open_run.proofs.Opened.{open_still, closed_still, open_fits, fire_passes}
use Rattle.open_run.proofs.Firing.{fire_judged}

-- ---- checks that refuse
pub not_passed : {e : Refusal} → Passed ≡ Err e → ⊥
not_passed e = let z : ◌≡◌ {A = ℕ} 0 1 = cc in omega arith

refused_one : {a b : Refusal} → ◌≡◌ {A = Checked} (Err a) (Err b) → a ≡ b
refused_one e = cc

-- a number is above a range that begins with 0
above_exactly : (high n line : ℕ) (e : Refusal) → (ranged 0 high n line ≡ Err e) ↔ ((e ≡ OutOfRange line) × (high < n))
above_exactly high n line e = (
  λ p. (sym (test_refused (leb 0 n && leb n high) (OutOfRange line) p), go (le_or_lt n high) p),
  λ h. rw (le-leb 0 n (omega arith), lt-leb n high h.1, h.0) refl,
)
  where
    go : (n ≤ high) ⊎ (high < n) → ranged 0 high n line ≡ Err e → high < n
    go (inl l) p = absurd (not_passed (sym (ranged_passes 0 high n line (omega arith) l) ∙ p))
    go (inr l) p = l

-- a transition is not in the net
unlisted_exactly : (transitions t line : ℕ) (e : Refusal) → (listed transitions t line ≡ Err e) ↔ ((e ≡ NoSuchTransition line) × (transitions ≤ t))
unlisted_exactly transitions t line e = (
  λ p. (sym (test_refused (ltb t transitions) (NoSuchTransition line) p), go (le_or_lt transitions t) p),
  λ h. rw (le-ltb t transitions h.1, h.0) refl,
)
  where
    go : (transitions ≤ t) ⊎ (t < transitions) → listed transitions t line ≡ Err e → transitions ≤ t
    go (inl l) p = l
    go (inr l) p = absurd (not_passed (rw (lt-ltb t transitions l) at p))

-- ---- a wait, and a rest
pub wait_refused : (r : OpenRun) (w : ℕ) (e : Refusal) → is_open r ≡ true
    → (wait_checked r w ≡ Err e) ↔ ((e ≡ OutOfRange (suc r.run.count)) × (10000000 < r.run.rest + w))
wait_refused r w e o = rw (open_still r o) (above_exactly 10000000 (r.run.rest + w) (suc r.run.count) e)

-- ---- a firing
-- the reason of a refusal, in a state of the published semantics that matches
because_matches : (net : Net) (D : ℕ) (e : Refusal) (n : ℕ) (S : Timed) (st : State) (t : ℕ) → Matches net S st → Because net D e n (view st) t
    → Because net D e n S t
because_matches net D e n S st t m (inl (i, off)) = inl (i, rw m.same_marking off)
because_matches net D e n S st t m (inr (inl (i, on, missed))) =
    let on' : enabled (arcs_of net) S.marking t ≡ true = rw m.same_marking on in
    inr (inl (i, on', λ h. missed (rw (m.same_clocks t on') at h)))
because_matches net D e n S st t m (inr (inr (i, on, timely, (p, l, more)))) =
    let on' : enabled (arcs_of net) S.marking t ≡ true = rw m.same_marking on in
    inr (inr (i, on', rw (m.same_clocks t on') timely, (p, l, rw m.same_marking more)))

-- a judgement refuses as 5, 6 or 7
because_least : (net : Net) (D : ℕ) (e : Refusal) (n : ℕ) (S : Timed) (t : ℕ) → Because net D e n S t → 5 ≤ number_of e
because_least net D e n S t (inl b) = omega (arith, ap number_of b.0)
because_least net D e n S t (inr (inl b)) = omega (arith, ap number_of b.0)
because_least net D e n S t (inr (inr b)) = omega (arith, ap number_of b.0)

module _ (r : OpenRun) (o : is_open r ≡ true) where
  abbrev rule : Restart
  rule = rule_of (arcs_of r.net) r.run.memory

  abbrev place : ℕ
  place = suc r.run.count

  stands_sound : Sound (replay r.net rule r.run).state
  unfolding replay
  stands_sound =
      let D = r.run.denominator in
      let st = (play r.net rule D (firings_of r.run) (start_state r.net) 0).state in
      sound_waited st r.run.rest (play_sound r.net rule D (firings_of r.run) (start_state r.net) 0 (start_sound r.net))

  module _ (t : ℕ) where
    pub fire_many : 64 ≤ r.run.count → fire_checked r t ≡ Err (OutOfRange place)
    fire_many many = rw (open_still r o, (above_exactly 63 r.run.count place (OutOfRange place)).1 (refl, omega arith)) refl

    pub fire_unlisted : r.run.count < 64 → r.net.transitions ≤ t → fire_checked r t ≡ Err (NoSuchTransition place)
    fire_unlisted few past =
        rw (
          open_still r o,
          ranged_passes 0 63 r.run.count place (omega arith) (omega arith),
          (unlisted_exactly r.net.transitions t place (NoSuchTransition place)).1 (refl, past),
        ) refl

    -- within the counts, exactly as the published semantics refuses it where the run stands
    module _ (few : r.run.count < 64) (inside : t < r.net.transitions) where
      judged_here : fire_checked r t ≡ judged r.net r.run.denominator (replay r.net rule r.run).state t place
      judged_here = fire_passes r t o few inside ∙ fire_judged r o t few

      pub fire_because : (e : Refusal) → fire_checked r t ≡ Err e → Because r.net r.run.denominator e place (view (replay r.net rule r.run).state) t
      fire_because e p = because r.net r.run.denominator (replay r.net rule r.run).state t place stands_sound e (sym judged_here ∙ p)

      pub fire_published : (end : Timed) → Allowed r.net rule r.run.denominator (firings_of r.run) r.run.rest end → (e : Refusal)
          → (fire_checked r t ≡ Err e) ↔ Because r.net r.run.denominator e place end t
      fire_published end a e =
          let st = (replay r.net rule r.run).state in
          let m = same_end r.net rule r.run (rule_restarting r.net r.run.memory) end a in (
            λ p. because_matches r.net r.run.denominator e place end st t m (fire_because e p),
            λ b. judged_here ∙ judged_so r.net r.run.denominator end st t place stands_sound m e b,
          )

    -- whatever is found is one of these
    abbrev pub Finding : Refusal → Type 0
    Finding e =
        ((e ≡ OutOfRange place) × (64 ≤ r.run.count))
        ⊎ (((e ≡ NoSuchTransition place) × (r.run.count < 64) × (r.net.transitions ≤ t))
        ⊎ ((5 ≤ number_of e) × (number_of e ≤ 7) × (position_of e ≡ place)))

    pub fire_found : (e : Refusal) → fire_checked r t ≡ Err e → Finding e
    fire_found e p = counted (le_or_lt 64 r.run.count)
      where
        inside : r.run.count < 64 → (r.net.transitions ≤ t) ⊎ (t < r.net.transitions) → Finding e
        inside few (inl past) = inr (inl (sym (refused_one (sym (fire_unlisted few past) ∙ p)), few, past))
        inside few (inr l) =
            let b = fire_because few l e p in
            let S = view (replay r.net rule r.run).state in
            let D = r.run.denominator in
            inr (inr (because_least r.net D e place S t b, because_number r.net D e place S t b, because_place r.net D e place S t b))

        counted : (64 ≤ r.run.count) ⊎ (r.run.count < 64) → Finding e
        counted (inl many) = inl (sym (refused_one (sym (fire_many many) ∙ p)), many)
        counted (inr few) = inside few (le_or_lt r.net.transitions t)

    -- so its number is 7 at most, and its place is that of the firing being entered
    pub fire_small : (e : Refusal) → fire_checked r t ≡ Err e → (number_of e ≤ 7) × (position_of e ≡ place)
    fire_small e p = go (fire_found e p)
      where
        go : Finding e → (number_of e ≤ 7) × (position_of e ≡ place)
        go (inl (i, many)) = (omega (arith, ap number_of i), ap position_of i)
        go (inr (inl (i, few, past))) = (omega (arith, ap number_of i), ap position_of i)
        go (inr (inr (least, most, at))) = (most, at)

-- ---- a closed record: 15 is told of nothing else
-- of an open one nothing is told that has another number
module _ (r : OpenRun) where
  open_or_closed : {c : Checked} → (is_open r ≡ true → c ≡ Err ClosedRun → ⊥) → (is_open r ≡ false → c ≡ Err ClosedRun)
      → (c ≡ Err ClosedRun) ↔ (is_open r ≡ false)
  open_or_closed {c} never always = (λ e. go (is_open r) refl e, always)
    where
      go : (b : Bool) → is_open r ≡ b → c ≡ Err ClosedRun → b ≡ false
      go true o e = absurd (never o e)
      go false o e = refl

  pub wait_closed : (w : ℕ) → (wait_checked r w ≡ Err ClosedRun) ↔ (is_open r ≡ false)
  wait_closed w =
      open_or_closed {c = wait_checked r w} (λ o e. omega (arith, ap number_of ((wait_refused r w ClosedRun o).0 e).0))
      (λ o. rw (closed_still r o) refl)

  pub fire_closed : (t : ℕ) → (fire_checked r t ≡ Err ClosedRun) ↔ (is_open r ≡ false)
  fire_closed t =
      open_or_closed {c = fire_checked r t} (λ o e. let h : 15 ≤ 7 = (fire_small r o t ClosedRun e).0 in omega arith)
      (λ o. rw (closed_still r o) refl)

  pub still_closed : (still r ≡ Err ClosedRun) ↔ (is_open r ≡ false)
  still_closed = open_or_closed {c = still r} (λ o e. not_passed (sym (open_still r o) ∙ e)) (closed_still r)

-- ---- so no step finds 9 of its own, and every place is small
-- a refusal with a small place that is not 9
abbrev pub Own : Refusal → Type 0
Own e = (position_of e ≤ 147) × (e ≡ OutputTooShort → ⊥)

module _ (r : OpenRun) {e : Refusal} where
  closed_own : (c : Checked) → still r ≡ Err ClosedRun → also (still r) c ≡ Err e → Own e
  closed_own c p q =
      let same : ClosedRun ≡ e = refused_one (sym (ap (λ (x : Checked). also x c) p) ∙ q) in
      (omega (arith, ap position_of same), λ z. omega (arith, ap number_of same, ap number_of z))

  open_own : is_open r ≡ true → number_of e ≤ 7 → position_of e ≡ suc r.run.count → Own e
  open_own o number place = (omega (arith, (open_fits r o).few), λ z. omega (arith, ap number_of z))

  pub wait_own : (w : ℕ) → wait_checked r w ≡ Err e → Own e
  wait_own w p = go (is_open r) refl
    where
      go : (b : Bool) → is_open r ≡ b → Own e
      go true o = let i = ((wait_refused r w e o).0 p).0 in open_own o (omega (arith, ap number_of i)) (ap position_of i)
      go false o = closed_own _ (closed_still r o) p

  pub fire_own : (t : ℕ) → fire_checked r t ≡ Err e → Own e
  fire_own t p = go (is_open r) refl
    where
      go : (b : Bool) → is_open r ≡ b → Own e
      go true o = let s = fire_small r o t e p in open_own o s.0 s.1
      go false o = closed_own _ (closed_still r o) p

  pub still_own : still r ≡ Err e → Own e
  still_own p = go (is_open r) refl
    where
      go : (b : Bool) → is_open r ≡ b → Own e
      go true o = absurd (not_passed (sym (open_still r o) ∙ p))
      go false o =
          let same : ClosedRun ≡ e = refused_one (sym (closed_still r o) ∙ p) in
          (omega (arith, ap position_of same), λ z. omega (arith, ap number_of same, ap number_of z))
