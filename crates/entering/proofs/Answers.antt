-- What is replied where a run closes, and what the two calls on an open run reply.
use Rattle.std.specs.Prelude.{Result, Ok}
use Prim.Native.Nat.{ℕ}
use mathlib.Core.Path.{◌≡◌, refl, subst, ◌∙◌}
use mathlib.Core.List.{List}
use Rattle.reply.specs.declared.Refusal.{Refusal}
use Rattle.reply.specs.Respond.{answer, Responded, output_of, Passed, Reply}
use Rattle.run.specs.declared.Order.{Order}
use Rattle.cards.specs.Cards.{run_text}
use Rattle.firing.specs.declared.State.{State}
use Rattle.firing.specs.Claims.{view}
use Rattle.operations.specs.Replay.{end_text, replay_of}
use Rattle.operations.specs.Timetable.{timetable_of, timetable_values}
use Rattle.engine.proofs.Outcome.{check_passed}
use Rattle.open_run.specs.declared.OpenRun.{OpenRun}
use Rattle.open_run.specs.declared.Closing.{Closing}
use Rattle.open_run.specs.Open.{still, with_run, wait_added, wait_checked, close_of, left_by, closing, state_of, order_so_far, timetable_now}
use Rattle.open_run.proofs.Opened.{open_parts, still_open, wait_card}
use Rattle.open_run.proofs.Firing.{order_card_lem}
use Rattle.entering.specs.Code.{Stands}

-- ---- closing with a rest
module _ (r : OpenRun) (w : ℕ) {entry : List ℕ} {q : Reply} {exit : List ℕ} where
  pub closing_answered : {last : OpenRun} → wait_checked r w ≡ Passed → last ≡ with_run r (wait_added r.run w)
      → Responded (run_text last.net last.run) entry q exit → Responded (close_of r w) entry q exit
  closing_answered passed is v = rw passed (rw (is, wait_card r w passed) at v)

  -- the record that the reply leaves
  pub closing_left : {c : Closing} → Responded (close_of r w) entry q exit → c ≡ record { reply = q; run = left_by q r }
      → (c ≡ closing r w entry) × (exit ≡ output_of (close_of r w) entry)
  closing_left v is = (is ∙ rw v.reply refl, v.output)

-- ---- the calls, where the record stands
module _ (r : OpenRun) {found : Result State Refusal} (s : Stands r found) {st : State} (is : found ≡ Ok st) where
  stands : still r ≡ Passed
  stands = (s.there is).0

  module _ {entry : List ℕ} {q : Reply} {exit : List ℕ} where
    pub state_answered : Responded (answer (end_text r.net (view st))) entry q exit → Responded (state_of r) entry q exit
    state_answered v =
        check_passed (replay_of r.net r.run) stands
        (rw ((open_parts r).0 (still_open r stands)).accepted
        (subst (λ (x : State). Responded (answer (end_text r.net (view x))) entry q exit) (s.there is).1 v))

    pub timetable_answered : {o : Order} → o ≡ order_so_far r.run → Responded (timetable_values r.net o) entry q exit
        → Responded (timetable_now r) entry q exit
    timetable_answered order v =
        check_passed (timetable_of r.net (order_so_far r.run)) stands
        (rw (order_card_lem r (still_open r stands)) at (subst (λ (x : Order). Responded (timetable_values r.net x) entry q exit) order v))
