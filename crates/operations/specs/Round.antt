-- Document 01, "Windows and instants", on rounding: a run is replayed first, and refused as the replay refuses it.
use Rattle.std.specs.Prelude.{ℕ, List}
use Rattle.reply.specs.Respond.{Outcome, answer}
use Rattle.net.specs.declared.Net.{Net}
use Rattle.run.specs.declared.Run.{Run}
use Rattle.run.specs.Run.{run_card}
use Rattle.firing.specs.Semantics.{arcs_of, Restart, rule_of}
use Rattle.firing.specs.Replay.{replay}
use Rattle.timing.specs.Rounding.{rounded_run}
use Rattle.cards.specs.Cards.{card_of, run_checked, run_cards}
use Rattle.operations.specs.Operation.{once_checked, once_read}

-- what the rounding of a run comes to under a restart rule: the card of the rounded run, or the first refusal of its replay
abbrev pub round_by : Net → Restart → Run → Outcome
round_by net restarts r = once_checked (replay net restarts r).checked (answer ((card_of run_card net).text (rounded_run r)))

abbrev pub round_of : Net → Run → Outcome
round_of net r = round_by net (rule_of (arcs_of net) r.memory) r

-- the rounding of a run of a net, over values and over cards
abbrev pub round_values : Net → Run → Outcome
round_values net r = once_checked (run_checked net r) (round_of net r)

abbrev pub round_cards : List ℕ → Outcome
round_cards s = once_read (run_cards s) (λ v. round_of v.0 v.1)
