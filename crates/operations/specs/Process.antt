-- Document 01, "Process": a run is replayed first, and refused as the replay refuses it.
use Rattle.std.specs.Prelude.{ℕ, List}
use Rattle.reply.specs.Respond.{Outcome, answer}
use Rattle.net.specs.declared.Net.{Net}
use Rattle.run.specs.declared.Run.{Run}
use Rattle.firing.specs.Semantics.{arcs_of, rule_of}
use Rattle.firing.specs.Replay.{replay}
use Rattle.run.specs.Run.{firings_of, order_of}
use Rattle.cards.specs.Cards.{run_checked, run_cards}
use Rattle.causal.specs.Print.{process_text}
use Rattle.operations.specs.Operation.{once_checked, once_read}

-- what the process of a run comes to: its text, or the first refusal of the replay
abbrev pub process_of : Net → Run → Outcome
process_of net r = once_checked (replay net (rule_of (arcs_of net) r.memory) r).checked (answer (process_text net (order_of (firings_of r))))

-- the process of a run of a net, over values and over cards
abbrev pub process_values : Net → Run → Outcome
process_values net r = once_checked (run_checked net r) (process_of net r)

abbrev pub process_cards : List ℕ → Outcome
process_cards s = once_read (run_cards s) (λ v. process_of v.0 v.1)
