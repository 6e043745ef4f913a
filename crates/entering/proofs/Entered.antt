-- What is said of a step, from what the code finds one after the other.
use Rattle.reply.specs.Respond.{Checked, Passed}
use Rattle.std.specs.Prelude.{Result, Ok, Err}
use Prim.Native.Nat.{ℕ, suc, ◌+◌, ◌≤◌, ◌<◌}
use native.Mathlib.Numerals.{add-one}
use native.Mathlib.Omega.{arith}
use mathlib.Core.Path.{◌≡◌, refl, sym, ap, ◌∙◌}
use mathlib.Core.List.{List}
use Rattle.reply.specs.declared.Refusal.{Refusal}
use Rattle.form.specs.Line.{ranged, listed}
use Rattle.form.proofs.Lines.{ranged_within}
use Rattle.net.specs.declared.Net.{Net}
use Rattle.run.specs.declared.Run.{Run}
use Rattle.run.proofs.Ranges.{listed_within}
use Rattle.firing.specs.declared.State.{State}
use Rattle.firing.specs.declared.Attempt.{Attempt}
use Rattle.firing.specs.Semantics.{arcs_of, transition_at, rule_of}
use Rattle.firing.specs.Replay.{clock_of, judged}
use Rattle.firing.specs.Step.{Stepped, settled, stepped}
use Rattle.open_run.specs.declared.OpenRun.{OpenRun}
use Rattle.open_run.specs.Open.{still, fire_checked}
use Rattle.open_run.proofs.Opened.{still_open, open_fits, open_few}
use Rattle.open_run.proofs.Firing.{fire_judged}
use Rattle.entering.specs.Code.{Stands}

-- ---- the next firing
-- a step from a state says what the replay's judgement there says
pub step_says : (net : Net) (q : Run) (st : State) (t : ℕ) {p : Stepped} → let a = arcs_of net in
    let f : Attempt = record { t = t; interval = transition_at net t; instant = st.now; number = q.count + 1 } in
    p ≡ stepped a (rule_of a q.memory) q.denominator f st.marking st.since → p.checked ≡ judged net q.denominator st t (suc q.count)
unfolding stepped clock_of
step_says net q st t e = ap (λ (s : Stepped). s.checked) (rw (add-one q.count) at e) ∙ says _ _ _ _ _
  where
    says : (c : Checked) (m since m' since' : List ℕ) → (settled c m since m' since').checked ≡ c
    says Passed m since m' since' = refl
    says (Err r) m since m' since' = refl

-- ---- what is said of a step, where the record stands
module _ (r : OpenRun) {found : Result State Refusal} (s : Stands r found) {st : State} (is : found ≡ Ok st) where
  stands : still r ≡ Passed
  stands = (s.there is).0

  pub count_few : r.run.count ≤ 64
  count_few = (open_fits r (still_open r stands)).few

  -- of a firing of a transition in the net, with a slot left
  module _ (t : ℕ) {a b : Checked} (slots : a ≡ ranged 0 63 r.run.count (r.run.count + 1)) (few : a ≡ Passed)
      (listing : b ≡ listed r.net.transitions t (r.run.count + 1)) (in_net : b ≡ Passed) where
    slot_left : r.run.count < 64
    slot_left = omega (arith, (ranged_within 0 63 r.run.count (r.run.count + 1) (sym slots ∙ few)).1)

    pub fire_allowed : (r.run.count < 64) × (t < 32)
    fire_allowed =
        (slot_left, omega (arith, listed_within r.net.transitions t (r.run.count + 1) (sym listing ∙ in_net), open_few r (still_open r stands)))

    -- it is judged where the run stands
    pub fire_said : {c : Checked} → c ≡ judged r.net r.run.denominator st t (suc r.run.count) → c ≡ fire_checked r t
    fire_said said =
        said
        ∙ ap (λ (at : State). judged r.net r.run.denominator at t (suc r.run.count)) (s.there is).1
        ∙ sym (fire_judged r (still_open r stands) t slot_left)
        ∙ rw (stands, ← add-one r.run.count, sym slots ∙ few, sym listing ∙ in_net) refl
