-- Every answer to a line fits 2,048 bytes: the two lines of a refusal are short, and so are the card of a run that passes its check, the text of where it
-- stands and its earliest timetable.
use Prim.Native.Nat.{ℕ, ◌≤◌}
use native.Mathlib.Omega.{arith}
use mathlib.Core.Path.{◌≡◌}
use mathlib.Core.Bool.{true}
use mathlib.Core.List.{List, ◌++◌}
use lib.ListN.{length, length-append}
use Rattle.reply.specs.declared.Refusal.{Refusal}
use Rattle.reply.specs.Refusal.{number_of, position_of}
use Rattle.reply.specs.Respond.{Outcome, answer}
use Rattle.reply.proofs.Laws.{written_answer}
use Rattle.text.specs.Key.{bytes}
use Rattle.text.specs.Decimal.{field}
use Rattle.text.proofs.DecimalLaws.{field_short}
use Rattle.run.specs.Run.{run_card}
use Rattle.cards.specs.Cards.{card_of}
use Rattle.cards.proofs.Cards.{run_short}
use Rattle.operations.specs.Replay.{replay_of}
use Rattle.operations.specs.Timetable.{timetable_of}
use Rattle.operations.proofs.Answers.{once_answer}
use Rattle.operations.proofs.Lengths.{end_short, timetable_fits}
use Rattle.open_run.specs.declared.OpenRun.{OpenRun}
use Rattle.open_run.specs.Open.{still, wait_added, wait_checked, close_of, state_of, order_so_far, timetable_now}
use Rattle.open_run.proofs.Opened.{still_open, wait_card}
use Rattle.open_run.proofs.Firing.{order_card_lem}
use Rattle.console.specs.Printed.{refusal_text}

-- no answer is longer
abbrev pub Short : Outcome → Type 0
Short o = (text : List ℕ) → o ≡ answer text → length text ≤ 2048

pub refusal_short : (e : Refusal) → length (refusal_text e) ≤ 64
refusal_short e =
    let first = field (number_of e) true in
    let second = field (position_of e) true in
    omega (
      arith,
      length-append (bytes "refused=" ++ first) (bytes "place=" ++ second),
      length-append (bytes "refused=") first,
      length-append (bytes "place=") second,
      field_short (number_of e) true,
      field_short (position_of e) true,
    )

module _ (r : OpenRun) where
  pub close_short : (w : ℕ) → Short (close_of r w)
  close_short w text e =
      let (passed, same) = written_answer (wait_checked r w) ((card_of run_card r.net).text (wait_added r.run w)) e in
      rw (← same) (omega (arith, run_short r.net (wait_added r.run w) (wait_card r w passed)))

  pub state_short : Short (state_of r)
  state_short text e = omega (arith, end_short r.net r.run text ((once_answer (still r) (replay_of r.net r.run) text).0 e).1)

  pub timetable_short : Short (timetable_now r)
  timetable_short text e =
      let order = order_so_far r.run in
      let (passed, made) = (once_answer (still r) (timetable_of r.net order) text).0 e in
      timetable_fits r.net order (order_card_lem r (still_open r passed)) text made
