-- The change requests, proved as specs/Requests.antt states them, under the same names.
use Rattle.std.specs.Prelude.{Err}
use Prim.Native.Nat.{ℕ, ◌≤◌}
use native.Mathlib.Omega.{arith}
use mathlib.Core.Path.{◌≡◌, refl}
use mathlib.Core.Logic.{◌↔◌}
use Rattle.reply.specs.declared.Refusal.TheVariants.{AnotherSheet}
use Rattle.reply.specs.Respond.{Outcome, refusal, Checked, Passed}
use Rattle.form.specs.Form.{also}
use Rattle.form.proofs.Found.{also_refused}
use Rattle.form.proofs.NumberLines.{in_range}
use Rattle.form.proofs.Sheets.{own_sheet}
use Rattle.net.specs.declared.Net.{Net}
use Rattle.net.specs.Net.{net_card}
use Rattle.net.proofs.Card.{net_transitions}
use Rattle.run.specs.declared.Run.{Run}
use Rattle.run.specs.declared.Order.{Order}
use Rattle.run.specs.Run.{run_card, order_card, firings_of, fires_of}
use Rattle.firing.specs.Replay.{start_state, play}
use Rattle.firing.proofs.Accept.{replay_plays, accepted_exactly}
use Rattle.firing.proofs.Rules as rules
use Rattle.timing.specs.Schedule.{schedule}
use Rattle.timing.proofs.Timings.{run_timing}
use Rattle.timing.proofs.Places.{schedule_placed}
use Rattle.timing.proofs.RunClocks.{clock_restart, clock_origin, end_clock_restart}
use Rattle.cards.specs.Cards.{card_of, run_cards, order_cards, run_checked, order_checked}
use Rattle.cards.proofs.Cards.{run_cards_passed, order_cards_passed}
use Rattle.cards.proofs.Sheets.{run_own_sheet, order_own_sheet, run_wrong_sheet, order_wrong_sheet, run_at_once, order_at_once, behind_at_once}
use Rattle.cards.proofs.Sheets.{run_judged, order_judged, net_judged, run_cards_ahead, order_cards_ahead}
use Rattle.operations.specs.Operation.{once_checked}
use Rattle.operations.specs.Timetable.{timetable_of}
use Rattle.operations.specs.Outcomes.{OnRun, work_of}
use Rattle.operations.specs.Demands.{rule_for, Allows}
use Rattle.operations.specs.Requests.{CarryExactly, CarryKeeps, CarryRestarting, AnyRuleAccepts, WithTiming, WordAccepts, ClockCounts}
use Rattle.operations.specs.Requests.{SheetFirst, LinesMoved, AcceptedSheet, WrongSheet, WrongSheetAtOnce, Elsewhere, WrongSheetExactly}
use Rattle.operations.proofs.Answers.{once_answered, once_told, work_refused, schedule_refusal}
use Rattle.operations.proofs.Places.{once_refused, replay_number}
use Rattle.operations.proofs.Demands as demands

-- ======== Q-1
pub carry_exactly : CarryExactly
carry_exactly = rules.carry_exactly

pub carry_keeps : CarryKeeps
carry_keeps = (rules.carry_keeps, rules.carry_clock)

pub carry_restarting : CarryRestarting
carry_restarting = rules.rule_restarting

pub any_rule_accepts : AnyRuleAccepts
any_rule_accepts net restarts r = rw (replay_plays net restarts r) (run_timing net restarts r.denominator (firings_of r))

-- what the published semantics allows under a word is what has the windows' timing
allows_timing : (net : Net) (r : Run) → Allows net r ↔ WithTiming net r
allows_timing net r =
    let rule = rule_for net r.memory in
    let accepted = accepted_exactly net rule r (rules.rule_restarting net r.memory) in
    let timed = any_rule_accepts net rule r in
    (λ h. timed.0 (accepted.1 h), λ t. accepted.0 (timed.1 t))

pub word_accepts : WordAccepts
word_accepts = (
  λ what net r.
      let d = demands.accepted_exactly what net r in
      let timed = allows_timing net r in
      (λ a. let h = d.0 a in (h.0, timed.0 h.1), λ h. d.1 (h.0, timed.1 h.1)),
  λ what s.
      let d = demands.accepted_cards_exactly what s in (
        λ a. let (net, r, e, h) = d.0 a in (net, r, e, (allows_timing net r).0 h),
        λ h.
            let (net, r, e, t) = h in d.1 (net, r, e, (allows_timing net r).1 t),
      ),
)

pub clock_counts : ClockCounts
clock_counts net restarts r e =
    let p : (play net restarts r.denominator (firings_of r) (start_state net) 0).checked ≡ Passed = rw (replay_plays net restarts r) at e in
    record {
      each_clock = clock_restart net restarts r.denominator (firings_of r) p;
      next_clock = clock_origin net restarts r.denominator (firings_of r) p;
      end_clock_lem = end_clock_restart net restarts r e;
    }

-- ======== Q-3
pub sheet_first : SheetFirst
sheet_first net = ((_, refl), λ r. (_, refl), λ o. (_, refl))

pub lines_moved : LinesMoved
lines_moved net small = (
  rw (in_range 0 9999 net.sheet (omega arith) small) refl,
  λ r own. rw (own_sheet net.sheet r.sheet 1 (omega arith) own) refl,
  λ o own. rw (own_sheet net.sheet o.sheet 1 (omega arith) own) refl,
)

pub accepted_sheet : AcceptedSheet
accepted_sheet = (
  λ what net r a. run_own_sheet net r ((once_answered (run_checked net r) _).0 a).0,
  λ net o a. order_own_sheet net o ((once_answered (order_checked net o) _).0 a).0,
  λ s net r next e. run_own_sheet net r (run_cards_passed s e),
  λ s net o next e. order_own_sheet net o (order_cards_passed s e),
)

pub wrong_sheet : WrongSheet
wrong_sheet net p = (
  λ what r small other. rw (run_wrong_sheet net p r small other) refl,
  λ o small other. rw (order_wrong_sheet net p o small other) refl,
)

pub wrong_sheet_at_once : WrongSheetAtOnce
wrong_sheet_at_once net p n small other rest =
    let run = run_at_once net n small other rest in
    let order = order_at_once net n small other rest in (
      λ what. rw (behind_at_once net n small other rest run_card p run) refl,
      rw (behind_at_once net n small other rest order_card p order) refl,
      rw (p, run) refl,
      rw (p, order) refl,
    )

-- a replay refuses as 5, 6 or 7, and a schedule as 5, 6 or 8
run_elsewhere : (what : OnRun) (net : Net) (r : Run) → work_of what net r ≡ refusal (AnotherSheet 1) → ⊥
run_elsewhere what net r e =
    let h : 11 ≤ 7 = replay_number net (rule_for net r.memory) r (AnotherSheet 1) ((work_refused net r what (AnotherSheet 1)).0 e) in
    omega arith

order_elsewhere : (net : Net) (o : Order) → timetable_of net o ≡ refusal (AnotherSheet 1) → ⊥
order_elsewhere net o e =
    let rule = rule_for net o.memory in
    let h : 11 ≤ 8 = (schedule_placed net rule (fires_of o) (AnotherSheet 1)
    ((schedule_refusal net o (schedule net rule (fires_of o)) (AnotherSheet 1)).0 e)).2 in
    omega arith

-- what a check refuses so, and what is refused so behind it
elsewhere : (net : Net) (n : ℕ) (c : Checked) (work : Outcome)
    → (net.transitions ≤ 32 → c ≡ Err (AnotherSheet 1) → (n ≤ 9999) × (n ≡ net.sheet → ⊥)) → (work ≡ refusal (AnotherSheet 1) → ⊥)
    → once_checked (also (net_card.check net 1) c) work ≡ refusal (AnotherSheet 1) → Elsewhere net n
elsewhere net n c work judged later e =
    once_told (also (net_card.check net 1) c) work
    (also_refused (net_card.check net 1) c (λ p. absurd (net_judged net p)) (λ p q. let h = judged (net_transitions net p).1 q in (p, h.0, h.1)))
    (λ p q. absurd (later q)) e

pub wrong_sheet_exactly : WrongSheetExactly
wrong_sheet_exactly = (
  λ what net r. (
    elsewhere net r.sheet ((card_of run_card net).check r 1) (work_of what net r) (λ few. run_judged net few r) (run_elsewhere what net r),
    λ h. (wrong_sheet net h.0).0 what r h.1 h.2,
  ),
  λ net o. (
    elsewhere net o.sheet ((card_of order_card net).check o 1) (timetable_of net o) (λ few. order_judged net few o) (order_elsewhere net o),
    λ h. (wrong_sheet net h.0).1 o h.1 h.2,
  ),
  λ what s. (
    once_refused (run_cards s) _ (run_cards_ahead s) (λ v next p e. absurd (run_elsewhere what v.0 v.1 e)),
    λ h.
        let (net, behind, p, whole, ahead) = h in
        let (n, rest, small, other, line) = ahead in
        rw (whole, line) ((wrong_sheet_at_once net p n small other rest).0 what),
  ),
  λ s. (
    once_refused (order_cards s) _ (order_cards_ahead s) (λ v next p e. absurd (order_elsewhere v.0 v.1 e)),
    λ h.
        let (net, behind, p, whole, ahead) = h in
        let (n, rest, small, other, line) = ahead in
        rw (whole, line) (wrong_sheet_at_once net p n small other rest).1,
  ),
)
