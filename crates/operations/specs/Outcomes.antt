-- Every operation of the engine with what it is given, and what it comes to.
use Rattle.std.specs.Prelude.{ℕ, List}
use Rattle.reply.specs.Respond.{Outcome}
use Rattle.net.specs.declared.Net.{Net}
use Rattle.net.specs.Net.{net_text}
use Rattle.run.specs.declared.Run.{Run}
use Rattle.run.specs.declared.Order.{Order}
use Rattle.cards.specs.Cards.{run_checked, run_cards, run_text, order_text}
use Rattle.operations.specs.Operation.{once_checked, once_read}
use Rattle.operations.specs.Replay.{replay_of}
use Rattle.operations.specs.Round.{round_of}
use Rattle.operations.specs.Timetable.{timetable_values, timetable_cards}
use Rattle.operations.specs.Process.{process_of}

-- what is done with a run of a net
pub data OnRun : Type 0 where
  replaying : OnRun
  rounding : OnRun
  processing : OnRun

pub data Operation : Type 0 where
  -- over values
  of_run : OnRun → Net → Run → Operation
  of_order : Net → Order → Operation
  -- over the bytes of a net card and a run card, or an order card
  of_run_cards : OnRun → List ℕ → Operation
  of_order_cards : List ℕ → Operation
  -- the card of a value
  write_net : Net → Operation
  write_run : Net → Run → Operation
  write_order : Net → Order → Operation

-- what it comes to of a run that passed its check, over values, and over cards
abbrev pub work_of : OnRun → Net → Run → Outcome
work_of replaying = replay_of
work_of rounding = round_of
work_of processing = process_of

abbrev pub values_of : OnRun → Net → Run → Outcome
values_of what net r = once_checked (run_checked net r) (work_of what net r)

abbrev pub cards_of : OnRun → List ℕ → Outcome
cards_of what s = once_read (run_cards s) (λ v. work_of what v.0 v.1)

abbrev pub outcome_of : Operation → Outcome
outcome_of (of_run what net r) = values_of what net r
outcome_of (of_order net o) = timetable_values net o
outcome_of (of_run_cards what s) = cards_of what s
outcome_of (of_order_cards s) = timetable_cards s
outcome_of (write_net net) = net_text net
outcome_of (write_run net r) = run_text net r
outcome_of (write_order net o) = order_text net o
