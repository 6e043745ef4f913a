-- Document 01, "Windows and instants" and "Who can cause a refusal": the timetable of a firing order. 5 and 6 come through all firings, then 8.
use Rattle.std.specs.Prelude.{ℕ, List}
use Rattle.reply.specs.Respond.{Outcome, answer, refusal}
use Rattle.net.specs.declared.Net.{Net}
use Rattle.run.specs.declared.Order.{Order}
use Rattle.run.specs.Run.{run_card, fires_of}
use Rattle.firing.specs.Semantics.{arcs_of, Restart, rule_of}
use Rattle.timing.specs.Schedule.{Scheduled, timed, unschedulable, schedule}
use Rattle.timing.specs.Rounding.{timetable_run}
use Rattle.cards.specs.Cards.{card_of, order_checked, order_cards}
use Rattle.operations.specs.Operation.{once_checked, once_read}

-- the card of a timetable, or why there is none
abbrev pub schedule_text : Net → Order → Scheduled → Outcome
schedule_text net o (timed waits) = answer ((card_of run_card net).text (timetable_run o.sheet o.memory (fires_of o) waits))
schedule_text net o (unschedulable r) = refusal r

-- what the timetable of an order comes to under a restart rule
abbrev pub timetable_by : Net → Restart → Order → Outcome
timetable_by net restarts o = schedule_text net o (schedule net restarts (fires_of o))

abbrev pub timetable_of : Net → Order → Outcome
timetable_of net o = timetable_by net (rule_of (arcs_of net) o.memory) o

-- the timetable of an order on a net, over values and over cards
abbrev pub timetable_values : Net → Order → Outcome
timetable_values net o = once_checked (order_checked net o) (timetable_of net o)

abbrev pub timetable_cards : List ℕ → Outcome
timetable_cards s = once_read (order_cards s) (λ v. timetable_of v.0 v.1)
