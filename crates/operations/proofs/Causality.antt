-- An accepted run's order is one that the tokens allow, so that its process is no longer than the longest.
use Rattle.reply.specs.Respond.{Passed}
use Prim.Native.Nat.{◌≤◌}
use native.Mathlib.Nat.{min-le_left, min-le_right}
use native.Mathlib.Omega.{arith}
use mathlib.Core.Path.{◌≡◌}
use lib.ListN.{length}
use Rattle.form.proofs.Found.{also_first}
use Rattle.net.specs.declared.Net.{Net}
use Rattle.net.specs.Net.{net_card}
use Rattle.net.proofs.Card.{net_start}
use Rattle.run.specs.declared.Run.{Run}
use Rattle.run.specs.Run.{firings_of, order_of}
use Rattle.firing.specs.Semantics.{arcs_of, start_marking, rule_of}
use Rattle.firing.specs.Replay.{replay}
use Rattle.firing.specs.Tokens.{tokens}
use Rattle.run.proofs.Firings.{length_firings}
use Rattle.timing.proofs.Meet.{length_order}
use Rattle.timing.proofs.Timings.{run_timing}
use Rattle.causal.specs.Print.{process_text}
use Rattle.causal.proofs.Longest.{process_text_short}
use Rattle.cards.specs.Cards.{run_checked}

pub accepted_tokens : (net : Net) (run : Run) → (replay net (rule_of (arcs_of net) run.memory) run).checked ≡ Passed
    → tokens net (order_of (firings_of run)) (start_marking net) 0 ≡ Passed
unfolding replay
accepted_tokens net run e = ((run_timing net (rule_of (arcs_of net) run.memory) run.denominator (firings_of run)).0 e).allowed

pub process_fits : (net : Net) (run : Run) → run_checked net run ≡ Passed → tokens net (order_of (firings_of run)) (start_marking net) 0 ≡ Passed
    → length (process_text net (order_of (firings_of run))) ≤ 22001
process_fits net run e allowed =
    let few : length (order_of (firings_of run)) ≤ 64 = omega (arith, length_order (firings_of run), length_firings run, min-le_right run.count 64) in
    process_text_short net (order_of (firings_of run)) few
    (λ p l. net_start net (also_first (net_card.check net 1) _ e) p (omega (arith, min-le_left net.places 16))) allowed
