-- The loop over a run's firings: the firings that are left, played from the state so far, come to what the whole run comes to. Each wait is a number of
-- 32 bits, so the present instant stays far below 64 bits.
use Rattle.reply.specs.Respond.{Checked, Passed}
use Rattle.std.specs.Prelude.{Err}
use Rattle.std.proofs.Common.{◌≡◌, ℕ, ◌+◌, ◌*◌, ◌<◌, ◌≤◌, min, List, length, get_or, take, drop, replicate, sym, refl, ◌∙◌, arith, drop_of_length-le}
use native.Mathlib.Nat.{min-le_right}
use Rattle.laws.specs.Slots.{length_first, first_next}
use Rattle.reply.specs.declared.Refusal.{Refusal}
use Rattle.net.specs.declared.Net.{Net}
use Rattle.net.specs.declared.Transition.{Transition}
use Rattle.run.specs.declared.Firing.{Firing}
use Rattle.run.specs.declared.Run.{Run}
use Rattle.run.specs.Run.{no_firing}
use Rattle.firing.specs.declared.State.{State}
use Rattle.firing.specs.declared.Played.{Played}
use Rattle.firing.specs.declared.Attempt.{Attempt}
use Rattle.firing.specs.Semantics.{Restart, arcs_of, transition_at, start_marking, rule_of}
use Rattle.run.specs.Run.{firings_of}
use Rattle.firing.specs.Replay.{start_state, waited, clock_of, judged, fired, step_on, play}
use Rattle.firing.specs.Step.{Stepped, settled, stepped}
use Rattle.steps.proofs.Front.{front_at, front_inside, front_passed}

-- a step says what its judgement says
settled_says : (c : Checked) (m since m' since' : List ℕ) → (settled c m since m' since').checked ≡ c
settled_says Passed m since m' since' = refl
settled_says (Err r) m since m' since' = refl

module _ (net : Net) (run : Run) where
  -- the rule of the run's word, the whole run, and what is left of it
  abbrev rule : Restart
  rule = rule_of (arcs_of net) run.memory

  abbrev whole : Played
  whole = play net rule run.denominator (firings_of run) (start_state net) 0

  abbrev rest : State → ℕ → Played
  rest st i = play net rule run.denominator (drop i (firings_of run)) st i

  -- what holds before firing i + 1, in the state st
  pub record Playing (st : State) (i : ℕ) : Type 0 where
    pub within : i ≤ min run.count 64
    pub same : whole ≡ rest st i
    pub soon : st.now ≤ i * 4294967295

  pub playing_start : {marking : List ℕ} → marking ≡ start_marking net → Playing (record { marking = marking; since = replicate 32 0; now = 0 }) 0
  unfolding start_state
  playing_start e = record { within = omega arith; same = rw e refl; soon = omega arith }

  module _ {st : State} {i : ℕ} (s : Playing st i) {n : ℕ} (c : n ≡ min run.count 64) (long : length run.firings ≡ 64) where
    few : n ≤ length run.firings
    few = omega (arith, c, long, min-le_right run.count 64)

    pub playing_done : length (take n run.firings) ≤ i → record { checked = Passed; state = st } ≡ whole
    unfolding play firings_of
    playing_done l =
        let past : min run.count 64 ≤ i = omega (arith, front_passed n run.firings few l, c) in
        let none = drop_of_length-le (firings_of run) {i = i} (omega (arith, length_first (min run.count 64) no_firing run.firings)) in
        sym (s.same ∙ rw none refl)

    module _ (b : i < length (take n run.firings)) where
      -- the next firing, and its number
      abbrev next : Firing
      next = get_or (take n run.firings) i no_firing

      l : i < min run.count 64
      l = omega (arith, front_inside n run.firings few b, c)

      -- with its interval: the state in which it is tried, the attempt, and the step
      module _ {interval : Transition} (d : interval ≡ transition_at net next.fire) where
        abbrev there : State
        there = waited st next.wait

        abbrev tried : Attempt
        tried = record { t = next.fire; interval = interval; instant = st.now + next.wait; number = i + 1 }

        abbrev step : Stepped
        step = stepped (arcs_of net) rule run.denominator tried st.marking st.since

        abbrev judgement : Checked
        judgement = judged net run.denominator there next.fire (i + 1)

        abbrev later : State
        later = fired net rule there next.fire

        -- a step is the replay's judgement and firing
        step_is : step ≡ settled judgement st.marking st.since later.marking later.since
        unfolding stepped waited clock_of fired
        step_is = rw d refl

        -- one firing more
        turn : rest st i ≡ step_on judgement st (rest later (i + 1))
        unfolding play firings_of
        turn = rw (first_next (min run.count 64) no_firing run.firings i l, front_at n run.firings few no_firing b) refl

        module _ {p : Stepped} (h : p ≡ step) where
          -- the judgement is what the step says
          said : {r : Checked} → p.checked ≡ r → judgement ≡ r
          said q = sym (settled_says judgement st.marking st.since later.marking later.since) ∙ rw (← step_is, ← h) q

          pub playing_refused : {r : Refusal} → p.checked ≡ Err r
              → record { checked = p.checked; state = record { marking = p.marking; since = p.since; now = st.now } } ≡ whole
          playing_refused q = rw (h, step_is, said q) (sym (s.same ∙ turn ∙ rw (said q) refl))

          pub playing_more : p.checked ≡ Passed → next.wait ≤ 4294967295
              → Playing (record { marking = p.marking; since = p.since; now = st.now + next.wait }) (i + 1)
          unfolding waited fired
          playing_more q w =
              record { within = omega (arith, l); same = s.same ∙ turn ∙ rw (said q, h, step_is, said q) refl; soon = omega (arith, s.soon) }
