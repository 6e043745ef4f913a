-- Document 02, "The open run": each statement of specs/Request.antt under its own name.
use Rattle.std.specs.Prelude.{Err}
use Prim.Native.Nat.{ℕ, suc, ◌≤◌, ◌<◌}
use native.Mathlib.Omega.{arith}
use mathlib.Core.Path.{◌≡◌, refl, sym, ap, subst, ◌∙◌}
use mathlib.Core.Bool.{Bool, true, false, cond, ◌&&◌}
use mathlib.Core.Logic.Iff
use mathlib.Core.Logic.{◌↔◌, inl, inr}
use mathlib.Core.List.{List, ◌++◌}
use lib.ListN.{length, take}
use lib.Dec.{leb}
use Rattle.reply.specs.declared.Refusal.{Refusal}
use Rattle.reply.specs.declared.Refusal.TheVariants.{OutOfRange, NoSuchTransition, OutputTooShort, ClosedRun}
use Rattle.reply.specs.Refusal.{number_of, position_of}
use Rattle.reply.specs.Respond.{Outcome, answer, refusal, written_if, Answered, reply_to, output_of, Checked, Passed, Reply}
use Rattle.reply.proofs.Laws.{demanded, written_answer, checked_refused}
use Rattle.form.specs.Form.{Found, found, refused}
use Rattle.form.specs.Line.{ranged}
use Rattle.form.proofs.Found.{also_refused}
use Rattle.form.proofs.Lines.{ranged_within}
use Rattle.form.proofs.Writable.{told_placed}
use Rattle.net.specs.declared.Net.{Net}
use Rattle.net.specs.Net.{net_card}
use Rattle.net.proofs.Card.{net_placed}
use Rattle.net.proofs.Writable.{net_told}
use Rattle.run.specs.declared.Memory.{Memory}
use Rattle.run.specs.declared.Run.{Run}
use Rattle.run.specs.Run.{run_card}
use Rattle.run.proofs.Ranges.{ranged_passes}
use Rattle.cards.specs.Cards.{card_of, read_run, run_cards}
use Rattle.cards.proofs.Cards.{run_reads_itself, run_cards_prefix}
use Rattle.operations.specs.Operation.{once_checked, once_read}
use Rattle.operations.specs.Replay.{replay_of, replay_cards}
use Rattle.operations.specs.Outcomes.{replaying}
use Rattle.operations.proofs.Answers.{no_answer, answer_bytes, once_told, work_answered}
use Rattle.open_run.specs.declared.OpenRun.{OpenRun}
use Rattle.open_run.specs.Open.{is_open, still, opened, with_run, halted, wait_added, fire_added, open_checked, wait_checked, fire_checked, left_by}
use Rattle.open_run.specs.Open.{entering, open_of, wait_of, fire_of, close_of, state_of, timetable_now}
use Rattle.open_run.specs.Cards.{card_for, opened_card, on_record, card_after}
use Rattle.open_run.specs.Claims.{behind}
use Rattle.open_run.specs.Request.{OpenedExactly, OpeningRefused, WaitExactly, FireExactly, CloseExactly, StepsAdd, RefusedSame, ClosedByWriting}
use Rattle.open_run.specs.Request.{ClosedExactly, SumPast, FireRefused, StepsPlaced, ReachableExactly, StepsEntered, ClosingWrites, CallsAsClosed}
use Rattle.open_run.specs.Request.{StatePublished, NeverUntimable, RecordAsCards, CardsClosedExactly, CardsGoOn, OpenOfCards, OpenReplies, OpenPrefix, OpenSlots}
use Rattle.open_run.proofs.Opened.{open_parts, open_fits, still_open, wait_fits}
use Rattle.open_run.proofs.Accepted as accepted
use Rattle.open_run.proofs.Accepted.{entering_accepts, entering_refuses, entering_told, open_opened, open_waited, open_fired}
use Rattle.open_run.proofs.Refusals.{not_passed, wait_refused, fire_many, fire_unlisted, fire_published, Finding, fire_found, fire_small, wait_closed, fire_closed, still_closed}
use Rattle.open_run.proofs.Refusals.{wait_own}
use Rattle.open_run.proofs.Reached as reached
use Rattle.open_run.proofs.Sequence.{steps_open, steps_net, steps_run}
use Rattle.open_run.proofs.Calls as calls
use Rattle.open_run.proofs.Opening.{openings_read, openings_prefix}
use Rattle.open_run.proofs.OverCards as cards
use Rattle.open_run.proofs.Bounds as bounds
use Rattle.open_run.proofs.Same.{same_still, same_wait, same_fire, same_close, same_state, same_timetable}

true_not_false : ◌≡◌ {A = Bool} true false → ⊥
true_not_false e = let z : ◌≡◌ {A = ℕ} 0 1 = cc in omega arith

-- ---- an entered step says what its check says
module _ (before after : OpenRun) (c : Checked) where
  told_exactly : (d : Checked) → ((entering c before after).checked ≡ d) ↔ (c ≡ d)
  told_exactly d = (λ e. sym (entering_told before after c) ∙ e, λ e. entering_told before after c ∙ e)

-- a text that is refused, and a call
written_refused : (c : Checked) (text : List ℕ) (e : Refusal) → (written_if c text ≡ refusal e) ↔ (c ≡ Err e)
written_refused c text e = (checked_refused c text, λ p. rw p refl)

once_refused : (c : Checked) (o : Outcome) → (c ≡ Passed → Answered o) → (e : Refusal) → (once_checked c o ≡ refusal e) ↔ (c ≡ Err e)
once_refused c o a e = (
  once_told c o (λ p. p) (λ p q. absurd (no_answer (sym q ∙ (a p).1))),
  λ p. rw p refl,
)

-- ---- opening
closed_halted : (r : OpenRun) → is_open (halted r) ≡ false
unfolding is_open
closed_halted r = refl

pub opened_exactly : OpenedExactly
opened_exactly net memory D =
    let c = open_checked net D in
    let r = opened net memory D in
    let says = told_exactly (halted r) r c Passed in
    let parts = accepted.opened_exactly net D in (
      (λ e. parts.0 (says.0 e), λ h. says.1 (parts.1 h)),
      λ e.
          let (p, same) = entering_accepts (halted r) r c e in
          (same, rw same (open_opened net D memory p)),
    )

outside : (D : ℕ) → ((1 ≤ D) × (D ≤ 1000) → ⊥) → ranged 1 1000 D 0 ≡ Err (OutOfRange 0)
outside D h = go (leb 1 D && leb D 1000) refl
  where
    go : (b : Bool) → (leb 1 D && leb D 1000) ≡ b → cond b Passed (Err (OutOfRange 0)) ≡ Err (OutOfRange 0)
    go true e = absurd (h (ranged_within 1 1000 D 0 (rw e refl)))
    go false e = refl

pub opening_refused : OpeningRefused
opening_refused net memory D =
    let c = open_checked net D in
    let r = opened net memory D in
    let says = told_exactly (halted r) r c in
    let few = ranged 1 1000 D 0 in (
      λ e p. (says (Err e)).1 (rw p refl),
      (
        λ e.
            also_refused (net_card.check net 1) few (λ p. let h : 1 ≤ 0 = told_placed net_told net_placed net 1 p in absurd (omega arith))
            (λ p q. (p, λ h. not_passed (sym (ranged_passes 1 1000 D 0 h.0 h.1) ∙ q))) ((says (Err (OutOfRange 0))).0 e),
        λ h. (says (Err (OutOfRange 0))).1 (rw h.0 (outside D h.1)),
      ),
      λ e p. rw (entering_refuses (halted r) r c p).1 (closed_halted r),
    )

-- ---- steps
pub wait_exactly : WaitExactly
wait_exactly r w o =
    let says = told_exactly r (with_run r (wait_added r.run w)) (wait_checked r w) Passed in
    let card = accepted.wait_exactly r w o in
    (λ e. card.0 (says.0 e), λ a. says.1 (card.1 a))

pub fire_exactly : FireExactly
fire_exactly r t o =
    let says = told_exactly r (with_run r (fire_added r.run t)) (fire_checked r t) Passed in
    let card = accepted.fire_exactly r t o in
    (λ e. card.0 (says.0 e), λ a. says.1 (card.1 a))

pub close_exactly : CloseExactly
close_exactly r w o =
    let card = accepted.wait_exactly r w o in
    let text = (card_of run_card r.net).text (wait_added r.run w) in
    (λ a. card.0 (written_answer (wait_checked r w) text a.1).0, λ a. (text, ap (λ (c : Checked). written_if c text) (card.1 a)))

pub steps_add : StepsAdd
steps_add r = (
  λ w e.
      let (p, same) = entering_accepts r (with_run r (wait_added r.run w)) (wait_checked r w) e in
      (same, rw same (open_waited r w p)),
  λ t e.
      let (p, same) = entering_accepts r (with_run r (fire_added r.run t)) (fire_checked r t) e in
      (same, rw same (open_fired r t p)),
)

-- ---- a refused step
close_own : (r : OpenRun) (w : ℕ) → close_of r w ≡ refusal OutputTooShort → ⊥
close_own r w e = (wait_own r w (checked_refused (wait_checked r w) _ e)).1 refl

-- a reply that refuses leaves the record and the output
left_refused : {e : Refusal} (x : Reply) (r : OpenRun) → x ≡ Err e → left_by x r ≡ r
left_refused x r p = rw p refl

pub refused_same : RefusedSame
refused_same r e = (
  λ w p. (entering_refuses r (with_run r (wait_added r.run w)) (wait_checked r w) p).1,
  λ t p. (entering_refuses r (with_run r (fire_added r.run t)) (fire_checked r t) p).1,
  λ w out p.
      let unaltered = (demanded (close_of r w) (close_own r w)).nothing_altered out (output_of (close_of r w) out) e in
      (left_refused (reply_to (close_of r w) out) r p, unaltered (record { reply = sym p; output = refl })),
)

-- 9 is told of an open run alone
pub closed_by_writing : ClosedByWriting
closed_by_writing r w out = (
  λ p.
      let (bytes, e, more) = ((demanded (close_of r w) (close_own r w)).too_short_exactly out).0 p in
      ((wait_fits r w (written_answer (wait_checked r w) _ e).0).0, left_refused (reply_to (close_of r w) out) r p),
  λ n p. let same : left_by (reply_to (close_of r w) out) r ≡ halted r = rw p refl in (same, rw same (closed_halted r)),
)

-- ---- refusals
pub closed_exactly : ClosedExactly
closed_exactly r = (
  λ w. Iff.trans (told_exactly r (with_run r (wait_added r.run w)) (wait_checked r w) (Err ClosedRun)) (wait_closed r w),
  λ t. Iff.trans (told_exactly r (with_run r (fire_added r.run t)) (fire_checked r t) (Err ClosedRun)) (fire_closed r t),
  λ w. Iff.trans (written_refused (wait_checked r w) ((card_of run_card r.net).text (wait_added r.run w)) ClosedRun) (wait_closed r w),
  Iff.trans (once_refused (still r) _ (λ p. calls.state_answered r (still_open r p)) ClosedRun) (still_closed r),
  Iff.trans (once_refused (still r) _ (λ p. calls.timetable_answered r (still_open r p)) ClosedRun) (still_closed r),
)

pub sum_past : SumPast
sum_past r w e o =
    let past = wait_refused r w e o in (
      Iff.trans (told_exactly r (with_run r (wait_added r.run w)) (wait_checked r w) (Err e)) past,
      Iff.trans (written_refused (wait_checked r w) ((card_of run_card r.net).text (wait_added r.run w)) e) past,
    )

pub fire_refused : FireRefused
fire_refused r t o =
    let n = suc r.run.count in
    let says = told_exactly r (with_run r (fire_added r.run t)) (fire_checked r t) in
    let few = (open_fits r o).few in (
      Iff.trans (says (Err (OutOfRange n))) (λ e. many few (fire_found r o t (OutOfRange n) e), λ h. fire_many r o t (omega arith)),
      Iff.trans (says (Err (NoSuchTransition n)))
          (λ e. unlisted (fire_found r o t (NoSuchTransition n) e), λ h. fire_unlisted r o t h.0 h.1),
      λ end a h inside e. Iff.trans (says (Err e)) (fire_published r o t h inside end a e),
    )
  where
    many : r.run.count ≤ 64 → Finding r o t (OutOfRange (suc r.run.count)) → r.run.count ≡ 64
    many few (inl (i, h)) = omega arith
    many few (inr (inl (i, h, past))) = absurd (omega (arith, ap number_of i))
    many few (inr (inr (least, most, at))) = absurd (omega arith)

    unlisted : Finding r o t (NoSuchTransition (suc r.run.count)) → (r.run.count < 64) × (r.net.transitions ≤ t)
    unlisted (inl (i, h)) = absurd (omega (arith, ap number_of i))
    unlisted (inr (inl (i, h, past))) = (h, past)
    unlisted (inr (inr (least, most, at))) = absurd (omega arith)

pub steps_placed : StepsPlaced
steps_placed r e o = (
  λ w p. ap position_of ((sum_past r w e o).0.0 p).0,
  λ t p. (fire_small r o t e (entering_refuses r (with_run r (fire_added r.run t)) (fire_checked r t) p).0).1,
  λ w p. ap position_of ((sum_past r w e o).1.0 p).0,
)

pub reachable_exactly : ReachableExactly
reachable_exactly = reached.reachable_exactly

-- ---- the card of the accepted steps
-- an opening that is accepted has passed its check
opening_passed : (net : Net) (memory : Memory) (D : ℕ) → (open_of net memory D).checked ≡ Passed → open_checked net D ≡ Passed
opening_passed net memory D e = (entering_accepts (halted (opened net memory D)) (opened net memory D) (open_checked net D) e).0

pub steps_entered : StepsEntered
steps_entered net memory D ss e =
    let p = opening_passed net memory D e in
    (steps_open net memory D ss p, steps_net net memory D ss p, steps_run net memory D ss p)

pub closing_writes : ClosingWrites
closing_writes net memory D ss w bytes e c =
    let p = opening_passed net memory D e in
    let r = behind (opened net memory D) ss in
    let text = written_answer (wait_checked r w) _ c in
    let later = with_run r (wait_added r.run w) in
    let o = open_waited r w text.0 in
    let back = run_reads_itself r.net (wait_added r.run w) ((open_parts later).0 o).checked (calls.open_clean later o) in
    let there : read_run r.net bytes ≡ found (wait_added r.run w) (length bytes) =
    subst (λ (l : List ℕ). read_run r.net l ≡ found (wait_added r.run w) (length l)) text.1 back in (
      r.run,
      subst (λ (x : Net). read_run x bytes ≡ found (wait_added r.run w) (length bytes)) (steps_net net memory D ss p) there,
      steps_run net memory D ss p,
    )

-- ---- the calls
pub calls_as_closed : CallsAsClosed
calls_as_closed r o = calls.calls_as_closed r o

pub state_published : StatePublished
state_published r end o a = calls.state_published r o end a

pub never_untimable : NeverUntimable
never_untimable r o = calls.never_untimable r o

-- ---- over cards
pub record_as_cards : RecordAsCards
record_as_cards r o = cards.record_as_cards r o

-- a card behind a step is refused as the step is
after_refused : (before later : OpenRun) (c : Checked) (e : Refusal) → (card_after (entering c before later) ≡ refusal e) ↔ (c ≡ Err e)
after_refused before later Passed e = (λ p. absurd (no_answer (sym p)), λ p. absurd (not_passed p))
after_refused before later (Err q) e = (checked_refused (Err q) (card_for before), λ p. ap (λ (c : Checked). written_if c (card_for before)) p)

-- what was read is closed exactly if its replay is not answered
module _ (s : List ℕ) where
  unread : (op : OpenRun → Outcome) → ((r : OpenRun) → (op r ≡ refusal ClosedRun) ↔ (is_open r ≡ false))
      → (on_record (run_cards s) op ≡ refusal ClosedRun) ↔ (Answered (replay_cards s) → ⊥)
  unread op closed = go (run_cards s) refl
    where
      not_open : (r : OpenRun) → ((is_open r ≡ true) → ⊥) → is_open r ≡ false
      not_open r h = pick (is_open r) h
        where
          pick : (b : Bool) → (b ≡ true → ⊥) → b ≡ false
          pick true k = absurd (k refl)
          pick false k = refl

      go : (f : Found (Net × Run)) → run_cards s ≡ f
          → (on_record f op ≡ refusal ClosedRun) ↔ (Answered (once_read f (λ v. replay_of v.0 v.1)) → ⊥)
      go (refused e) p = (λ x a. no_answer a.1, λ x. refl)
      go (found v next) p =
          let r : OpenRun = record { net = v.0; run = v.1; running = true } in
          let replays = work_answered v.0 v.1 replaying in
          let accepts = cards.read_open s v.0 v.1 next p in (
            λ x a. let z : ◌≡◌ {A = Bool} true false = sym (accepts.1 (replays.0 a)) ∙ (closed r).0 x in absurd (true_not_false z),
            λ h. (closed r).1 (not_open r (λ o. h (replays.1 (accepts.0 o)))),
          )

pub cards_closed_exactly : CardsClosedExactly
cards_closed_exactly s = (
  λ w. unread s (λ r. card_after (wait_of r w)) (λ r. Iff.trans (after_refused r (with_run r (wait_added r.run w)) (wait_checked r w) ClosedRun) (wait_closed r w)),
  λ t. unread s (λ r. card_after (fire_of r t)) (λ r. Iff.trans (after_refused r (with_run r (fire_added r.run t)) (fire_checked r t) ClosedRun) (fire_closed r t)),
  λ w. unread s (λ r. close_of r w) (λ r. (closed_exactly r).2 w),
  unread s state_of (λ r. (closed_exactly r).3),
  unread s timetable_now (λ r. (closed_exactly r).4),
)

-- the card that an accepted step writes is that of the record behind it, which is read from it again
after_answer : (before later : OpenRun) (c : Checked) {bytes : List ℕ} → card_after (entering c before later) ≡ answer bytes → (c ≡ Passed) × (card_for later ≡ bytes)
after_answer before later Passed e = (refl, answer_bytes e)
after_answer before later (Err q) e = absurd (no_answer e)

go_on : (r : OpenRun) → is_open r ≡ true → net_card.clean r.net ≡ r.net → (bytes : List ℕ) → card_for r ≡ bytes
    → run_cards (net_card.text r.net ++ bytes) ≡ found (r.net, r.run) (length (net_card.text r.net ++ bytes))
go_on r o clean bytes e =
    subst (λ (l : List ℕ). run_cards (net_card.text r.net ++ l) ≡ found (r.net, r.run) (length (net_card.text r.net ++ l))) e (cards.cards_read r o clean)

pub cards_go_on : CardsGoOn
cards_go_on s net q next bytes e =
    let r : OpenRun = record { net = net; run = q; running = true } in
    let clean = cards.read_net s net q next e in
    let onto : (op : OpenRun → Outcome) → on_record (run_cards s) op ≡ op r = λ op. ap (λ (f : Found (Net × Run)). on_record f op) e in (
      λ w a.
          let later = with_run r (wait_added q w) in
          let (p, text) = after_answer r later (wait_checked r w) (sym (onto (λ x. card_after (wait_of x w))) ∙ a) in
          go_on later (open_waited r w p) clean bytes text,
      λ t a.
          let later = with_run r (fire_added q t) in
          let (p, text) = after_answer r later (fire_checked r t) (sym (onto (λ x. card_after (fire_of x t))) ∙ a) in
          go_on later (open_fired r t p) clean bytes text,
    )

pub open_of_cards : OpenOfCards
open_of_cards = (
  λ s e p. ap (λ (f : Found (Net × (ℕ × (Memory × ℕ)))). once_read f (λ v. opened_card v.0 v.1)) p,
  λ s net sheet memory D next p.
      let (passed, clean) = openings_read s net (sheet, (memory, D)) next p in
      let r = opened net memory D in
      let o = open_opened net D memory passed in (
        entering_told (halted r) r (open_checked net D) ∙ passed,
        ap (λ (f : Found (Net × (ℕ × (Memory × ℕ)))). once_read f (λ v. opened_card v.0 v.1)) p
            ∙ ap (λ (c : Checked). card_after (entering c (halted r) r)) (sym passed),
        cards.cards_read r o clean,
      ),
)

-- ---- what demands 1 and 2 ask of every operation
pub open_replies : OpenReplies
open_replies = bounds.open_replies

pub open_prefix : OpenPrefix
open_prefix s k h =
    let same : (op : OpenRun → Outcome) → on_record (run_cards (take k s)) op ≡ on_record (run_cards s) op =
    λ op. ap (λ (f : Found (Net × Run)). on_record f op) (run_cards_prefix s k h) in (
      ap (λ (f : Found (Net × (ℕ × (Memory × ℕ)))). once_read f (λ v. opened_card v.0 v.1)) (openings_prefix s k h),
      λ w. same (λ r. card_after (wait_of r w)),
      λ t. same (λ r. card_after (fire_of r t)),
      λ w. same (λ r. close_of r w),
      same state_of,
      same timetable_now,
    )

pub open_slots : OpenSlots
open_slots a b q running s =
    let x : OpenRun = record { net = a; run = q; running = running } in
    let y : OpenRun = record { net = b; run = q; running = running } in (
      same_still s q running,
      λ w.
          entering_told x (with_run x (wait_added q w)) (wait_checked x w) ∙ same_wait s q running w
          ∙ sym (entering_told y (with_run y (wait_added q w)) (wait_checked y w)),
      λ t.
          entering_told x (with_run x (fire_added q t)) (fire_checked x t) ∙ same_fire s q running t
          ∙ sym (entering_told y (with_run y (fire_added q t)) (fire_checked y t)),
      same_close s q running,
      same_state s q running,
      same_timetable s q running,
    )
