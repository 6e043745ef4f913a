-- When an operation has an answer: each step that can refuse passed. And what the card of a run in whole ticks says.
use Rattle.std.specs.Prelude.{Err}
use Prim.Native.Nat.{ℕ, ◌≤◌, ◌<◌}
use native.Mathlib.Nat.{min-le_left}
use native.Mathlib.Omega.{arith}
use mathlib.Core.Path.{◌≡◌, refl, sym, ap, subst}
use mathlib.Core.Logic.{◌↔◌}
use mathlib.Core.List.{List}
use lib.ListN.{length}
use Rattle.reply.specs.declared.Refusal.{Refusal}
use Rattle.reply.specs.declared.Refusal.TheVariants.{Untimable}
use Rattle.reply.specs.Respond.{Outcome, answer, refusal, Answered, reply_to, Checked, Passed}
use Rattle.reply.proofs.Laws.{refused_exactly}
use Rattle.form.specs.Form.{found}
use Rattle.net.specs.declared.Net.{Net}
use Rattle.net.specs.Net.{net_card}
use Rattle.net.proofs.Card.{net_earliest}
use Rattle.run.specs.declared.Run.{Run}
use Rattle.run.specs.declared.Order.{Order}
use Rattle.run.specs.Run.{run_card, firings_of, fires_of}
use Rattle.firing.specs.declared.State.{State}
use Rattle.firing.specs.declared.Played.{Played}
use Rattle.firing.specs.Semantics.{arcs_of, Restart, transition_at, rule_of, Allowed}
use Rattle.firing.specs.Replay.{replay}
use Rattle.firing.specs.Claims.{view}
use Rattle.firing.proofs.Accept.{accepted_allowed}
use Rattle.timing.specs.Schedule.{Scheduled, timed, unschedulable}
use Rattle.timing.specs.Rounding.{timetable_run}
use Rattle.cards.specs.Cards.{card_of, read_run, run_checked}
use Rattle.cards.proofs.Cards.{run_reads_itself}
use Rattle.operations.specs.Operation.{once_checked}
use Rattle.operations.specs.Replay.{end_text, ended}
use Rattle.operations.specs.Timetable.{schedule_text}
use Rattle.operations.specs.Outcomes.{OnRun, replaying, rounding, processing, work_of}
use Rattle.operations.specs.Claims.{WholeTickRun}

pub no_answer : {r : Refusal} {bytes : List ℕ} → refusal r ≡ answer bytes → ⊥
no_answer e = let z : ◌≡◌ {A = ℕ} 0 1 = cc in omega arith

-- the lower bounds of a net that passes its check
pub earliest_within : (net : Net) → net_card.check net 1 ≡ Passed → (t : ℕ) → t < (arcs_of net).transitions → (transition_at net t).earliest ≤ 1000
earliest_within net q t l = net_earliest net q t (omega (arith, min-le_left net.transitions 32))

-- ---- the end of a replay
end_answered : (net : Net) (c : Checked) (st : State) → Answered (ended net c st) ↔ (c ≡ Passed)
end_answered net c st = (go c, λ e. (end_text net (view st), rw e refl))
  where
    go : (c : Checked) → Answered (ended net c st) → c ≡ Passed
    go Passed a = refl
    go (Err r) a = absurd (no_answer a.1)

-- ---- behind a check
-- two answers that are one have the same bytes
pub answer_bytes : {a b : List ℕ} → answer a ≡ answer b → a ≡ b
answer_bytes e = cc

once_refusal : (c : Checked) (bytes : List ℕ) (e : Refusal) → (once_checked c (answer bytes) ≡ refusal e) ↔ (c ≡ Err e)
once_refusal Passed bytes e = (λ q. absurd (no_answer (sym q)), λ q. let z : ◌≡◌ {A = ℕ} 0 1 = cc in absurd (omega arith))
once_refusal (Err q) bytes e = (λ p. cc, λ p. cc)

pub once_answer : (c : Checked) (o : Outcome) (bytes : List ℕ) → (once_checked c o ≡ answer bytes) ↔ ((c ≡ Passed) × (o ≡ answer bytes))
once_answer c o bytes = (go c, λ p. rw p.0 p.1)
  where
    go : (c : Checked) → once_checked c o ≡ answer bytes → (c ≡ Passed) × (o ≡ answer bytes)
    go Passed e = (refl, e)
    go (Err r) e = absurd (no_answer e)

-- work that counts once a check is passed: what refuses is the check, or the work behind it
pub once_told : {P : Type 0} {e : Refusal} (c : Checked) (o : Outcome) → (c ≡ Err e → P) → (c ≡ Passed → o ≡ refusal e → P)
    → once_checked c o ≡ refusal e → P
once_told Passed o first then q = then refl q
once_told (Err r) o first then q = first cc

pub once_answered : (c : Checked) (o : Outcome) → Answered (once_checked c o) ↔ ((c ≡ Passed) × Answered o)
once_answered c o = (
  λ a. let h = (once_answer c o a.0).0 a.1 in (h.0, (a.0, h.1)),
  λ p. (p.1.0, (once_answer c o p.1.0).1 (p.0, p.1.1)),
)

-- ---- the work on a run that passed its check: refused as its replay is, and else answered
module _ (net : Net) (r : Run) where
  -- the replay under the memory word of the run
  abbrev pub played : Played
  played = replay net (rule_of (arcs_of net) r.memory) r

  pub work_refused : (what : OnRun) (e : Refusal) → (work_of what net r ≡ refusal e) ↔ (played.checked ≡ Err e)
  work_refused replaying e = go played.checked
    where
      go : (c : Checked) → (ended net c played.state ≡ refusal e) ↔ (c ≡ Err e)
      go Passed = (λ q. absurd (no_answer (sym q)), λ q. let z : ◌≡◌ {A = ℕ} 0 1 = cc in absurd (omega arith))
      go (Err q) = (λ p. cc, λ p. cc)
  work_refused rounding e = once_refusal played.checked _ e
  work_refused processing e = once_refusal played.checked _ e

  pub work_answered : (what : OnRun) → Answered (work_of what net r) ↔ (played.checked ≡ Passed)
  work_answered replaying = end_answered net played.checked played.state
  work_answered rounding = (λ a. ((once_answered played.checked _).0 a).0, λ p. (once_answered played.checked _).1 (p, (_, refl)))
  work_answered processing = (λ a. ((once_answered played.checked _).0 a).0, λ p. (once_answered played.checked _).1 (p, (_, refl)))

-- ---- a schedule
module _ (net : Net) (o : Order) where
  abbrev pub timetable_text : List ℕ → List ℕ
  timetable_text waits = (card_of run_card net).text (timetable_run o.sheet o.memory (fires_of o) waits)

  pub schedule_answer : (s : Scheduled) (bytes : List ℕ) → schedule_text net o s ≡ answer bytes
      → (waits : List ℕ) × (s ≡ timed waits) × (timetable_text waits ≡ bytes)
  schedule_answer (timed waits) bytes e = (waits, refl, answer_bytes {a = timetable_text waits} {b = bytes} e)
  schedule_answer (unschedulable r) bytes e = absurd (no_answer e)

  pub schedule_refusal : (s : Scheduled) (r : Refusal) → (schedule_text net o s ≡ refusal r) ↔ (s ≡ unschedulable r)
  schedule_refusal (timed waits) r = (λ e. absurd (no_answer (sym e)), λ e. ap (schedule_text net o) e)
  schedule_refusal (unschedulable q) r = (λ e. cc, λ e. ap (schedule_text net o) e)

  -- 8 is told whatever the output, exactly when the schedule finds it
  pub untimable_told : (s : Scheduled) (k : ℕ) (out : List ℕ) → (reply_to (schedule_text net o s) out ≡ Err (Untimable k)) ↔ (s ≡ unschedulable (Untimable k))
  untimable_told s k out =
      let told = refused_exactly (schedule_text net o s) (Untimable k) (λ e. let z : ◌≡◌ {A = ℕ} 0 1 = cc in omega arith) out in
      let why = schedule_refusal s (Untimable k) in
      (λ e. why.0 (told.0 e), λ e. told.1 (why.1 e))

-- ---- the card of a run in whole ticks that is accepted
module _ (net : Net) (restarts : Restart) (r : Run) (ticks : r.denominator ≡ 1) (p : run_checked net r ≡ Passed)
    (a : (replay net restarts r).checked ≡ Passed) (clean : (card_of run_card net).clean r ≡ r) where
  pub whole_tick_run : (bytes : List ℕ) → (card_of run_card net).text r ≡ bytes → WholeTickRun net restarts bytes r
  whole_tick_run bytes e =
      record {
        is_card = subst (λ (l : List ℕ). read_run net l ≡ found r (length l)) e (run_reads_itself net r p clean);
        whole_ticks = ticks;
        checked = p;
        accepted = a;
        allowed = (
          view (replay net restarts r).state,
          subst (λ (D : ℕ). Allowed net restarts D (firings_of r) r.rest (view (replay net restarts r).state))
              ticks (accepted_allowed net restarts r a),
        );
      }
