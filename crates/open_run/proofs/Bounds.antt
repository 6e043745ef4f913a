-- How long the answers over cards are and which places their refusals have, for a caller that is told both in one number; and all that demand 1 asks of replies.
use Rattle.std.specs.Prelude.{Err}
use Prim.Native.Nat.{ℕ, ◌≤◌}
use native.Mathlib.Omega.{arith}
use mathlib.Core.Path.{◌≡◌, refl, sym, ap, ◌∙◌}
use mathlib.Core.Bool.{true}
use mathlib.Core.List.{List}
use lib.ListN.{length}
use Rattle.reply.specs.declared.Refusal.{Refusal}
use Rattle.reply.specs.declared.Refusal.TheVariants.{OutputTooShort, ClosedRun}
use Rattle.reply.specs.Refusal.{number_of, position_of}
use Rattle.reply.specs.Respond.{Outcome, answer, refusal, written_if, Checked, Passed}
use Rattle.reply.specs.Demanded.{Demanded}
use Rattle.reply.proofs.Bounds.{Bounds}
use Rattle.reply.proofs.Laws.{demanded, written_answer, checked_refused}
use Rattle.form.specs.Form.{Found, found, refused}
use Rattle.net.specs.declared.Net.{Net}
use Rattle.run.specs.declared.Run.{Run}
use Rattle.cards.specs.Cards.{run_cards}
use Rattle.cards.proofs.Cards.{run_short}
use Rattle.operations.proofs.Answers.{no_answer, once_answer, once_told}
use Rattle.operations.proofs.Lengths.{once_read_lem, end_short, timetable_fits}
use Rattle.operations.proofs.Places.{once_refused}
use Rattle.open_run.specs.declared.OpenRun.{OpenRun}
use Rattle.open_run.specs.Open.{is_open, still, with_run, opened, wait_added, fire_added, wait_checked, fire_checked, entering}
use Rattle.open_run.specs.Open.{wait_of, fire_of, close_of, state_of, order_so_far, timetable_now}
use Rattle.open_run.specs.Cards.{opening_cards, open_cards, card_for, on_record, card_after, wait_cards, fire_cards, close_cards, state_cards, timetable_now_cards}
use Rattle.open_run.specs.Request.{OpenReplies}
use Rattle.open_run.proofs.Opened.{open_parts, still_open}
use Rattle.open_run.proofs.Accepted.{open_opened, open_waited, open_fired}
use Rattle.open_run.proofs.Firing.{order_card_lem}
use Rattle.open_run.proofs.Refusals.{not_passed, Own, wait_own, fire_own, still_own}
use Rattle.open_run.proofs.Opening.{openings_read, openings_refused}
use Rattle.open_run.proofs.Calls.{timetable_answered, state_answered}

-- the answers of an operation are short, and its refusals have small places and are not 9
record Settled (o : Outcome) (longest : ℕ) : Type 0 where
  short : (bytes : List ℕ) → o ≡ answer bytes → length bytes ≤ longest
  own : (e : Refusal) → o ≡ refusal e → Own e

-- ---- records
-- the card of an open record
card_settled : (c : Checked) (q : OpenRun) → (c ≡ Passed → is_open q ≡ true) → ((e : Refusal) → c ≡ Err e → Own e) → Settled (written_if c (card_for q)) 2048
card_settled c q stays own =
    record {
      short = λ bytes e.
          let (p, text) = written_answer c (card_for q) e in
          rw (← text) (omega (arith, run_short q.net q.run ((open_parts q).0 (stays p)).checked));
      own = λ e p. own e (checked_refused c (card_for q) p);
    }

module _ (r : OpenRun) where
  close_settled : (w : ℕ) → Settled (close_of r w) 2048
  close_settled w = card_settled (wait_checked r w) (with_run r (wait_added r.run w)) (open_waited r w) (λ e p. wait_own r w p)

  -- the card behind a step
  after_settled : (later : OpenRun) (c : Checked) → (c ≡ Passed → is_open later ≡ true) → ((e : Refusal) → c ≡ Err e → Own e)
      → Settled (card_after (entering c r later)) 2048
  after_settled later Passed stays own = card_settled Passed later stays own
  after_settled later (Err q) stays own = record { short = λ bytes e. absurd (no_answer e); own = λ e p. own e (checked_refused (Err q) (card_for r) p) }

  wait_settled : (w : ℕ) → Settled (card_after (wait_of r w)) 2048
  wait_settled w = after_settled (with_run r (wait_added r.run w)) (wait_checked r w) (open_waited r w) (λ e p. wait_own r w p)

  fire_settled : (t : ℕ) → Settled (card_after (fire_of r t)) 2048
  fire_settled t = after_settled (with_run r (fire_added r.run t)) (fire_checked r t) (open_fired r t) (λ e p. fire_own r t p)

  state_settled : Settled (state_of r) 1280
  state_settled =
      record {
        short = λ bytes e. end_short r.net r.run bytes ((once_answer (still r) _ bytes).0 e).1;
        own = λ e. once_told (still r) _ (λ p. still_own r p) (λ p q. absurd (no_answer (sym q ∙ (state_answered r (still_open r p)).1)));
      }

  timetable_settled : Settled (timetable_now r) 2048
  timetable_settled =
      record {
        short = λ bytes e.
            let (p, text) = (once_answer (still r) _ bytes).0 e in
            timetable_fits r.net (order_so_far r.run) (order_card_lem r (still_open r p)) bytes text;
        own = λ e. once_told (still r) _ (λ p. still_own r p) (λ p q. absurd (no_answer (sym q ∙ (timetable_answered r (still_open r p)).1)));
      }

-- ---- cards
closed_settled : (longest : ℕ) → Settled (refusal ClosedRun) longest
closed_settled longest =
    record {
      short = λ bytes e. absurd (no_answer e);
      own = λ e p.
          let same : ClosedRun ≡ e = cc in
          (omega (arith, ap position_of same), λ z. omega (arith, ap number_of same, ap number_of z));
    }

on_settled : {longest : ℕ} (f : Found (Net × Run)) (op : OpenRun → Outcome) → ((r : OpenRun) → Settled (op r) longest) → Settled (on_record f op) longest
on_settled (found v next) op h = h (record { net = v.0; run = v.1; running = true })
on_settled {longest} (refused e) op h = closed_settled longest

open_settled : (s : List ℕ) → Settled (open_cards s) 2048
open_settled s =
    record {
      short = λ bytes. once_read_lem (opening_cards s) _ (λ v next e q.
          let r = opened v.0 v.1.1.0 v.1.1.1 in
          let p = (openings_read s v.0 v.1 next e).0 in
          (card_settled Passed r (λ _. open_opened v.0 v.1.1.1 v.1.1.0 p) (λ x y. absurd (not_passed y))).short bytes q);
      own = λ e. once_refused (opening_cards s) _ (openings_refused s) (λ v next x q. absurd (no_answer (sym q)));
    }

settled_bounds : {o : Outcome} {longest : ℕ} → Settled o longest → Bounds o longest 147
settled_bounds h = record { short = h.short; placed = λ e p. (h.own e p).0 }

module _ (s : List ℕ) where
  pub open_bounds : Bounds (open_cards s) 2048 147
  open_bounds = settled_bounds (open_settled s)

  pub wait_bounds : (w : ℕ) → Bounds (wait_cards s w) 2048 147
  wait_bounds w = settled_bounds (on_settled (run_cards s) (λ r. card_after (wait_of r w)) (λ r. wait_settled r w))

  pub fire_bounds : (t : ℕ) → Bounds (fire_cards s t) 2048 147
  fire_bounds t = settled_bounds (on_settled (run_cards s) (λ r. card_after (fire_of r t)) (λ r. fire_settled r t))

  pub close_bounds : (w : ℕ) → Bounds (close_cards s w) 2048 147
  close_bounds w = settled_bounds (on_settled (run_cards s) (λ r. close_of r w) (λ r. close_settled r w))

  pub state_bounds : Bounds (state_cards s) 1280 147
  state_bounds = settled_bounds (on_settled (run_cards s) state_of state_settled)

  pub timetable_now_bounds : Bounds (timetable_now_cards s) 2048 147
  timetable_now_bounds = settled_bounds (on_settled (run_cards s) timetable_now timetable_settled)

-- ---- demand 1
replies : {o : Outcome} {longest : ℕ} → Settled o longest → Demanded o
replies {o} h = demanded o (λ e. (h.own OutputTooShort e).1 refl)

pub open_replies : OpenReplies
open_replies = (
  λ r. (λ w. replies (close_settled r w), replies (state_settled r), replies (timetable_settled r)),
  λ s. (
    replies (open_settled s),
    λ w. replies (on_settled (run_cards s) (λ r. card_after (wait_of r w)) (λ r. wait_settled r w)),
    λ t. replies (on_settled (run_cards s) (λ r. card_after (fire_of r t)) (λ r. fire_settled r t)),
    λ w. replies (on_settled (run_cards s) (λ r. close_of r w) (λ r. close_settled r w)),
    replies (on_settled (run_cards s) state_of state_settled),
    replies (on_settled (run_cards s) timetable_now timetable_settled),
  ),
)
