-- Every answer of an operation is short: a replay's end is, cards of runs that pass their check are, and so is a process. So what is told of an operation, to
-- whatever output, is small.
use Rattle.std.specs.Prelude.{Err}
use Prim.Native.Nat.{ℕ, zero, suc, ◌*◌, ◌≤◌}
use native.Mathlib.Omega.{arith}
use mathlib.Core.Path.{◌≡◌, refl}
use mathlib.Core.Bool.{Bool, true, false, cond}
use mathlib.Core.List.{List, ◌++◌}
use lib.ListN.{length, length-append}
use Rattle.laws.specs.Slots.{first_of, length_first}
use Rattle.reply.specs.Respond.{Outcome, answer, Checked, Passed}
use Rattle.reply.proofs.Bounds.{Bounds}
use Rattle.text.specs.Key.{bytes}
use Rattle.text.specs.Decimal.{field}
use Rattle.text.proofs.DecimalLaws.{field_short}
use Rattle.form.specs.Form.{Found, found, refused}
use Rattle.form.specs.Line.{items_text}
use Rattle.form.proofs.Items.{length_items}
use Rattle.net.specs.declared.Net.{Net}
use Rattle.reply.proofs.Laws.{written_answer}
use Rattle.run.specs.declared.Run.{Run}
use Rattle.run.specs.declared.Order.{Order}
use Rattle.run.specs.Run.{run_card, firings_of, order_of}
use Rattle.firing.specs.declared.State.{State}
use Rattle.firing.specs.Semantics.{arcs_of, Restart, Timed, enabled, rule_of}
use Rattle.firing.specs.Replay.{replay}
use Rattle.firing.specs.Claims.{view}
use Rattle.firing.proofs.Clocks.{few_places, few_transitions}
use Rattle.causal.specs.Print.{process_text}
use Rattle.cards.specs.Cards.{card_of, run_checked, order_checked, run_cards, order_cards}
use Rattle.cards.proofs.Cards.{run_short, run_written_again, run_cards_passed, order_cards_passed}
use Rattle.operations.specs.Operation.{once_read}
use Rattle.operations.specs.Replay.{clock_text, clocks_text, end_text, ended, replay_of, replay_cards}
use Rattle.operations.specs.Round.{round_cards}
use Rattle.operations.specs.Process.{process_cards}
use Rattle.operations.specs.Timetable.{timetable_of, timetable_cards}
use Rattle.operations.specs.Outcomes.{replaying, rounding, processing}
use Rattle.operations.specs.Claims.{WholeTickRun}
use Rattle.operations.proofs.Answers.{once_answer}
use Rattle.operations.proofs.Causality.{accepted_tokens, process_fits}
use Rattle.operations.proofs.Demands.{round_whole, timetable_earliest}
use Rattle.operations.proofs.Places.{cards_placed, timetable_placed}

-- an operation on cards that answers has read them
pub once_read_lem : {A : Type 0} {P : Type 0} {bytes : List ℕ} (f : Found A) (o : A → Outcome) → ((a : A) (next : ℕ) → f ≡ found a next → o a ≡ answer bytes → P)
    → once_read f o ≡ answer bytes → P
once_read_lem (found a next) o then e = then a next refl e
once_read_lem (refused r) o then e = let z : ◌≡◌ {A = ℕ} 0 1 = cc in absurd (omega arith)

-- ---- the end of a replay: no number takes more than 21 bytes with its separator
module _ (net : Net) (S : Timed) where
  value_short : (on : Bool) (clock : ℕ) → length (cond on (field clock true) (bytes "off\n")) ≤ 21
  value_short true clock = field_short clock true
  value_short false clock = omega arith

  clocks_short : (n : ℕ) → length (clocks_text net S n) ≤ 27 * n
  unfolding clocks_text
  clocks_short zero = omega arith
  clocks_short (suc n) =
      omega (arith, length-append (clocks_text net S n) (clock_text net S n), value_short (enabled (arcs_of net) S.marking n) (S.clock n), clocks_short n)

  -- a buffer of 1,280 bytes holds it
  pub end_fits : length (end_text net S) ≤ 1280
  end_fits =
      let places = (arcs_of net).places in
      let tokens = first_of places 0 S.marking in
      let clocks = clocks_text net S (arcs_of net).transitions in
      omega (
        arith,
        length-append (bytes "end=" ++ items_text tokens) clocks,
        length_items tokens,
        length_first places 0 S.marking,
        clocks_short (arcs_of net).transitions,
        few_places net,
        few_transitions net,
      )

ended_short : (net : Net) (st : State) (c : Checked) (text : List ℕ) → ended net c st ≡ answer text → length text ≤ 1280
ended_short net st Passed text e =
    let same : end_text net (view st) ≡ text = cc in
    rw (← same) (end_fits net (view st))
ended_short net st (Err r) text e = let z : ◌≡◌ {A = ℕ} 0 1 = cc in absurd (omega arith)

pub end_short : (net : Net) (r : Run) (text : List ℕ) → replay_of net r ≡ answer text → length text ≤ 1280
end_short net r text =
    let end = replay net (rule_of (arcs_of net) r.memory) r in
    ended_short net end.state end.checked text

pub replay_short : (s text : List ℕ) → replay_cards s ≡ answer text → length text ≤ 1280
replay_short s text = once_read_lem (run_cards s) _ (λ v next e q. end_short v.0 v.1 text q)

-- ---- the card of a run
card_short : (net : Net) (restarts : Restart) (bytes : List ℕ) (r : Run) → WholeTickRun net restarts bytes r → length bytes ≤ 2048
card_short net restarts bytes r w =
    let text = (written_answer (run_checked net r) ((card_of run_card net).text r) (run_written_again net bytes w.is_card)).1 in
    rw (← text) (omega (arith, run_short net r w.checked))

pub round_short : (s bytes : List ℕ) → round_cards s ≡ answer bytes → length bytes ≤ 2048
round_short s bytes =
    once_read_lem (run_cards s) _ (λ v next e q.
    let rule = rule_of (arcs_of v.0) v.1.memory in
    let (r, whole, same) = round_whole v.0 rule v.1 (run_cards_passed s e) bytes q in
    card_short v.0 rule bytes r whole)

pub timetable_fits : (net : Net) (o : Order) → order_checked net o ≡ Passed → (bytes : List ℕ) → timetable_of net o ≡ answer bytes → length bytes ≤ 2048
timetable_fits net o p bytes q =
    let rule = rule_of (arcs_of net) o.memory in
    let (r, whole, early) = timetable_earliest net rule o p bytes q in
    card_short net rule bytes r whole

pub timetable_short : (s bytes : List ℕ) → timetable_cards s ≡ answer bytes → length bytes ≤ 2048
timetable_short s bytes = once_read_lem (order_cards s) _ (λ v next e q. timetable_fits v.0 v.1 (order_cards_passed s e) bytes q)

-- ---- the process
pub process_short : (s bytes : List ℕ) → process_cards s ≡ answer bytes → length bytes ≤ 22001
process_short s bytes =
    once_read_lem (run_cards s) _ (λ v next e q.
    let c = (replay v.0 (rule_of (arcs_of v.0) v.1.memory) v.1).checked in
    let (accepted, text) = (once_answer c (answer (process_text v.0 (order_of (firings_of v.1)))) bytes).0 q in
    let same : process_text v.0 (order_of (firings_of v.1)) ≡ bytes = cc in
    rw (← same) (omega (arith, process_fits v.0 v.1 (run_cards_passed s e) (accepted_tokens v.0 v.1 accepted))))

-- ---- what is told
module _ (s : List ℕ) where
  pub replay_bounds : Bounds (replay_cards s) 1280 147
  replay_bounds = record { short = replay_short s; placed = λ r e. (cards_placed replaying s r e).1 }

  pub round_bounds : Bounds (round_cards s) 2048 147
  round_bounds = record { short = round_short s; placed = λ r e. (cards_placed rounding s r e).1 }

  pub timetable_bounds : Bounds (timetable_cards s) 2048 147
  timetable_bounds = record { short = timetable_short s; placed = λ r e. (timetable_placed s r e).1 }

  pub process_bounds : Bounds (process_cards s) 22001 147
  process_bounds = record { short = process_short s; placed = λ r e. (cards_placed processing s r e).1 }
