-- Document 01, "The caller": slots past a value's counts are no part of it. Nets that agree in all that counts have the same windows for an order of
-- their transitions, and the same schedules; such runs are rounded to the same run.
use Rattle.reply.specs.Respond.{Checked, Passed}
use Rattle.std.specs.Prelude.{Err}
use Prim.Native.Nat.{ℕ, ◌<◌}
use mathlib.Core.Path.{◌≡◌, refl, sym, ap, ◌∙◌}
use mathlib.Core.List.{List, [], ◌∷◌}
use lib.ListN.{length}
use Rattle.laws.specs.Each.{Each}
use Rattle.net.specs.declared.Net.{Net}
use Rattle.net.specs.Same.{SameNet}
use Rattle.run.specs.declared.Memory.{Memory}
use Rattle.run.specs.declared.Run.{Run}
use Rattle.run.specs.Same.{SameRun}
use Rattle.run.proofs.Same.{same_firings}
use Rattle.firing.specs.declared.State.{State}
use Rattle.firing.specs.Semantics.{arcs_of, start_marking, rule_of}
use Rattle.firing.specs.Replay.{start_state, waited, fired}
use Rattle.firing.specs.Tokens.{tokens}
use Rattle.firing.proofs.Same.{same_start, same_interval, same_allowed, same_fired}
use Rattle.timing.specs.declared.Window.{Window}
use Rattle.timing.specs.Windows.{windows, window_at, windows_from, windows_of}
use Rattle.timing.specs.Solve.{solve_prefixes}
use Rattle.timing.specs.Schedule.{verdict_of, scheduled_by, schedule}
use Rattle.timing.specs.Rounding.{last_instant, rounded_run}
use Rattle.timing.proofs.Order.{tokens_listed}
use Rattle.timing.proofs.Scheduled.{schedule_refused, schedule_passed}

module _ {a b : Net} (same : SameNet a b) (memory : Memory) where
  windows_from_lem : (order : List ℕ) (st : State) → Each (λ t. t < (arcs_of a).transitions) order
      → windows_from a (rule_of (arcs_of a) memory) order st ≡ windows_from b (rule_of (arcs_of b) memory) order st
  unfolding windows_from
  windows_from_lem [] st h = refl
  windows_from_lem (t ∷ order) st h =
      let next = fired a (rule_of (arcs_of a) memory) (waited st 1) t in
      let later = windows_from_lem order next h.1
      ∙ ap (windows_from b (rule_of (arcs_of b) memory) order) (same_fired same memory (waited st 1) t h.0) in
      λ i. record { origin = (window_at a st t).origin; interval = same_interval same t h.0 i } ∷ later i

  module _ (order : List ℕ) where
    pub same_windows : Each (λ t. t < (arcs_of a).transitions) order
        → windows_of a (rule_of (arcs_of a) memory) order ≡ windows_of b (rule_of (arcs_of b) memory) order
    unfolding windows_of start_state
    same_windows h = windows_from_lem order (start_state a) h ∙ rw (same_start same) refl

    pub same_verdict : Each (λ t. t < (arcs_of a).transitions) order
        → verdict_of a (rule_of (arcs_of a) memory) order ≡ verdict_of b (rule_of (arcs_of b) memory) order
    unfolding verdict_of
    same_verdict h = ap (λ (ws : List Window). solve_prefixes 1 (windows ws) (length order)) (same_windows h)

    -- where the tokens refuse, the schedule is that refusal; what they allow is an order of the net's transitions
    pub same_schedule : schedule a (rule_of (arcs_of a) memory) order ≡ schedule b (rule_of (arcs_of b) memory) order
    same_schedule = go (tokens a order (start_marking a) 0) refl
      where
        go : (c : Checked) → tokens a order (start_marking a) 0 ≡ c → schedule a (rule_of (arcs_of a) memory) order ≡ schedule b (rule_of (arcs_of b) memory) order
        go Passed e =
            schedule_passed a (rule_of (arcs_of a) memory) order e ∙ ap scheduled_by (same_verdict (tokens_listed a order (start_marking a) 0 e))
            ∙ sym (schedule_passed b (rule_of (arcs_of b) memory) order (sym (same_allowed same order) ∙ e))
        go (Err r) e =
            schedule_refused a (rule_of (arcs_of a) memory) order r e
            ∙ sym (schedule_refused b (rule_of (arcs_of b) memory) order r (sym (same_allowed same order) ∙ e))

-- runs that agree in all that counts are rounded to one run
pub same_rounded : {r q : Run} → SameRun r q → rounded_run r ≡ rounded_run q
unfolding rounded_run last_instant
same_rounded same = rw (same_firings same, same.sheet, same.memory, same.denominator, same.count, same.rest) refl
