-- Document 02, "The open run", over bytes: a record stands as two cards, its net's and that of its run, whose rest is the sum of the waits since the last
-- firing. The lines that open a run stand right behind its net card.
use Rattle.std.specs.Prelude.{ℕ, true, List}
use Rattle.reply.specs.declared.Refusal.TheVariants.{ClosedRun}
use Rattle.reply.specs.Respond.{Outcome, answer, refusal, written_if}
use Rattle.text.specs.Key.{bytes}
use Rattle.form.specs.Form.{Found, found, refused, Form, keyed, chain, front, alone, follow}
use Rattle.form.specs.Line.{ranged, number}
use Rattle.form.specs.Sheet.{on_sheet}
use Rattle.net.specs.declared.Net.{Net}
use Rattle.net.specs.Net.{net_card}
use Rattle.run.specs.declared.Memory.{Memory}
use Rattle.run.specs.declared.Run.{Run}
use Rattle.run.specs.Run.{memory, run_card}
use Rattle.cards.specs.Cards.{card_of, run_cards}
use Rattle.operations.specs.Operation.{once_read}
use Rattle.open_run.specs.declared.OpenRun.{OpenRun}
use Rattle.open_run.specs.declared.Entered.{Entered}
use Rattle.open_run.specs.Open.{opened, wait_of, fire_of, close_of, state_of, timetable_now}

-- the lines `sheet`, `memory` and `denominator`, 1 to 3; a denominator outside its range is 2 at 0
abbrev pub denominator : Form ℕ
denominator = keyed (bytes "denominator=") (number (λ n line. ranged 1 1000 n 0))

abbrev pub opening : ℕ → Form (ℕ × (Memory × ℕ))
opening own = on_sheet own (chain (keyed (bytes "memory=") memory) (λ _. denominator))

-- a net card and, right behind it, these lines
abbrev pub opening_cards : List ℕ → Found (Net × (ℕ × (Memory × ℕ)))
opening_cards = follow (front net_card) (λ net. alone (opening net.sheet))

-- the card of a record's run
abbrev pub card_for : OpenRun → List ℕ
card_for r = (card_of run_card r.net).text r.run

-- and that of the run that such lines open
abbrev pub opened_card : Net → ℕ × (Memory × ℕ) → Outcome
opened_card net v = answer (card_for (opened net v.1.0 v.1.1))

abbrev pub open_cards : List ℕ → Outcome
open_cards s = once_read (opening_cards s) (λ v. opened_card v.0 v.1)

-- a step or a call on the record that two cards stand for; cards that are refused are no open run
abbrev pub on_record : Found (Net × Run) → (OpenRun → Outcome) → Outcome
on_record (found v next) f = f (record { net = v.0; run = v.1; running = true })
on_record (refused e) f = refusal ClosedRun

-- the card of the run behind a step
abbrev pub card_after : Entered → Outcome
card_after e = written_if e.checked (card_for e.run)

abbrev pub wait_cards : List ℕ → ℕ → Outcome
wait_cards s w = on_record (run_cards s) (λ r. card_after (wait_of r w))

abbrev pub fire_cards : List ℕ → ℕ → Outcome
fire_cards s t = on_record (run_cards s) (λ r. card_after (fire_of r t))

abbrev pub close_cards : List ℕ → ℕ → Outcome
close_cards s w = on_record (run_cards s) (λ r. close_of r w)

abbrev pub state_cards : List ℕ → Outcome
state_cards s = on_record (run_cards s) state_of

abbrev pub timetable_now_cards : List ℕ → Outcome
timetable_now_cards s = on_record (run_cards s) timetable_now
