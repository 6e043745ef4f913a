-- Document 01, "Process", last paragraph: the replay prints `end`, the tokens of each place, and a line `clock` for each transition, in parts after the
-- rest, `off` where not enabled.
use Rattle.std.specs.Prelude.{ℕ, zero, suc, true, cond, List, [], ◌++◌, Err}
use Rattle.laws.specs.Slots.{first_of}
use Rattle.reply.specs.Respond.{Outcome, answer, refusal, Checked, Passed}
use Rattle.text.specs.Key.{bytes}
use Rattle.text.specs.Decimal.{field}
use Rattle.form.specs.Line.{items_text}
use Rattle.net.specs.declared.Net.{Net}
use Rattle.run.specs.declared.Run.{Run}
use Rattle.firing.specs.declared.State.{State}
use Rattle.firing.specs.Semantics.{arcs_of, Timed, enabled, rule_of}
use Rattle.firing.specs.Replay.{replay}
use Rattle.firing.specs.Claims.{view}
use Rattle.cards.specs.Cards.{run_checked, run_cards}
use Rattle.operations.specs.Operation.{once_checked, once_read}

-- the line of one clock in a state of the published semantics
abbrev pub clock_text : Net → Timed → ℕ → List ℕ
clock_text net S u = bytes "clock=" ++ cond (enabled (arcs_of net) S.marking u) (field (S.clock u) true) (bytes "off\n")

-- the lines of the first n clocks
unfoldable pub clocks_text : Net → Timed → ℕ → List ℕ
clocks_text net S zero = []
clocks_text net S (suc u) = clocks_text net S u ++ clock_text net S u

abbrev pub end_text : Net → Timed → List ℕ
end_text net S = bytes "end=" ++ items_text (first_of (arcs_of net).places 0 S.marking) ++ clocks_text net S (arcs_of net).transitions

-- what the replay of a run says, under its memory word
abbrev pub replayed : Net → Run → Checked
replayed net r = (replay net (rule_of (arcs_of net) r.memory) r).checked

-- what a replay comes to: its end, or the first refusal
abbrev pub ended : Net → Checked → State → Outcome
ended net Passed st = answer (end_text net (view st))
ended net (Err r) st = refusal r

abbrev pub replay_of : Net → Run → Outcome
replay_of net r = ended net (replay net (rule_of (arcs_of net) r.memory) r).checked (replay net (rule_of (arcs_of net) r.memory) r).state

-- the replay of a run of a net, over values and over cards
abbrev pub replay_values : Net → Run → Outcome
replay_values net r = once_checked (run_checked net r) (replay_of net r)

abbrev pub replay_cards : List ℕ → Outcome
replay_cards s = once_read (run_cards s) (λ v. replay_of v.0 v.1)
