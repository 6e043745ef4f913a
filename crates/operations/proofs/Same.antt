-- Slots past the counts are no part of a value: values that agree in all that counts come to the same.
use Rattle.std.specs.Prelude.{Err}
use Prim.Native.Nat.{ℕ, zero, suc, min}
use mathlib.Core.Path.{◌≡◌, refl, ap, ◌∙◌}
use mathlib.Core.List.{List, ◌++◌}
use Rattle.laws.specs.Slots.{first_of}
use Rattle.reply.specs.Respond.{answer, Checked, Passed}
use Rattle.text.specs.Key.{bytes}
use Rattle.form.specs.Form.{also, Form}
use Rattle.form.specs.Line.{items_text}
use Rattle.net.specs.declared.Net.{Net}
use Rattle.net.specs.Net.{net_card}
use Rattle.net.specs.Same.{SameNet}
use Rattle.net.proofs.Same.{same_net_check}
use Rattle.run.specs.declared.Memory.{Memory}
use Rattle.run.specs.declared.Run.{Run}
use Rattle.run.specs.declared.Order.{Order}
use Rattle.run.specs.Run.{run_card, order_card, firings_of, fires_of, order_of}
use Rattle.run.specs.Same.{SameRun, SameOrder}
use Rattle.run.proofs.Same.{same_firings, same_fires, same_run_check, same_order_check}
use Rattle.firing.specs.declared.State.{State}
use Rattle.firing.specs.declared.Played.{Played}
use Rattle.firing.specs.Semantics.{arcs_of, Timed, rule_of}
use Rattle.firing.specs.Replay.{replay}
use Rattle.firing.specs.Claims.{view}
use Rattle.firing.proofs.Same.{same_enabled, same_replay, same_run}
use Rattle.timing.specs.Schedule.{Scheduled, timed, unschedulable, schedule}
use Rattle.timing.specs.Rounding.{rounded_run, timetable_run}
use Rattle.timing.proofs.Same.{same_schedule, same_rounded}
use Rattle.causal.specs.Print.{process_text}
use Rattle.causal.proofs.Same.{same_process}
use Rattle.cards.specs.Cards.{card_of, run_checked, order_checked}
use Rattle.cards.proofs.Cards.{same_card}
use Rattle.operations.specs.Operation.{once_checked}
use Rattle.operations.specs.Replay.{clocks_text, end_text, ended}
use Rattle.operations.specs.Timetable.{schedule_text, timetable_of}
use Rattle.operations.specs.Outcomes.{OnRun, replaying, rounding, processing, work_of}
use Rattle.operations.proofs.Causality.{accepted_tokens}

module _ {a b : Net} (s : SameNet a b) where
  clocks_same : (S : Timed) (n : ℕ) → clocks_text a S n ≡ clocks_text b S n
  unfolding clocks_text
  clocks_same S zero = refl
  clocks_same S (suc u) = rw (clocks_same S u, same_enabled s S.marking u) refl

  end_same : (S : Timed) → end_text a S ≡ end_text b S
  end_same S =
      let text : ℕ → List ℕ → List ℕ = λ places clocks. bytes "end=" ++ items_text (first_of (min places 16) 0 S.marking) ++ clocks in
      ap (λ (n : ℕ). text n (clocks_text a S (min a.transitions 32))) s.places
      ∙ ap (text b.places) (clocks_same S (min a.transitions 32) ∙ ap (λ (n : ℕ). clocks_text b S (min n 32)) s.transitions)

  ended_same : (c : Checked) (st : State) → ended a c st ≡ ended b c st
  ended_same Passed st = ap answer (end_same (view st))
  ended_same (Err r) st = refl

  module _ {r q : Run} (t : SameRun r q) where
    -- the replay of the one is that of the other
    abbrev one : Played
    one = replay a (rule_of (arcs_of a) r.memory) r

    abbrev other : Played
    other = replay b (rule_of (arcs_of b) q.memory) q

    pub replays_same : one ≡ other
    replays_same =
        same_replay s r.memory r ∙ same_run b (rule_of (arcs_of b) r.memory) t
        ∙ ap (λ (m : Memory). replay b (rule_of (arcs_of b) m) q) t.memory

    pub run_checks_same : run_checked a r ≡ run_checked b q
    run_checks_same =
        ap (λ (c : Checked). also c ((card_of run_card a).check r 1)) (same_net_check s 1)
        ∙ ap (λ (f : Form Run). also (net_card.check b 1) (f.check r 1)) (same_card run_card s)
        ∙ ap (also (net_card.check b 1)) (same_run_check b.sheet b.transitions t 1)

    processes_same : (c : Checked) → one.checked ≡ c
        → once_checked c (answer (process_text a (order_of (firings_of r)))) ≡ once_checked c (answer (process_text b (order_of (firings_of q))))
    processes_same Passed e =
        ap answer (same_process s (order_of (firings_of r)) (accepted_tokens a r e) ∙ ap (λ fs. process_text b (order_of fs)) (same_firings t))
    processes_same (Err e) p = refl

    pub work_same : (what : OnRun) → work_of what a r ≡ work_of what b q
    work_same replaying = ended_same one.checked one.state ∙ ap (λ (p : Played). ended b p.checked p.state) replays_same
    work_same rounding =
        ap (λ (p : Played). once_checked p.checked (answer ((card_of run_card a).text (rounded_run r)))) replays_same
        ∙ ap (λ (f : Form Run). once_checked other.checked (answer (f.text (rounded_run r)))) (same_card run_card s)
        ∙ ap (λ (x : Run). once_checked other.checked (answer ((card_of run_card b).text x))) (same_rounded t)
    work_same processing =
        processes_same one.checked refl
        ∙ ap (λ (p : Played). once_checked p.checked (answer (process_text b (order_of (firings_of q))))) replays_same

  module _ {o q : Order} (t : SameOrder o q) where
    pub order_checks_same : order_checked a o ≡ order_checked b q
    order_checks_same =
        ap (λ (c : Checked). also c ((card_of order_card a).check o 1)) (same_net_check s 1)
        ∙ ap (λ (f : Form Order). also (net_card.check b 1) (f.check o 1)) (same_card order_card s)
        ∙ ap (also (net_card.check b 1)) (same_order_check b.sheet b.transitions t 1)

    pub timetable_same : timetable_of a o ≡ timetable_of b q
    timetable_same =
        text_same (schedule a (rule_of (arcs_of a) o.memory) (fires_of o))
        ∙ ap (schedule_text b q) (same_schedule s o.memory (fires_of o) ∙ ap (λ (m : Memory). schedule b (rule_of (arcs_of b) m) (fires_of o)) t.memory
        ∙ ap (schedule b (rule_of (arcs_of b) q.memory)) (same_fires t))
      where
        text_same : (x : Scheduled) → schedule_text a o x ≡ schedule_text b q x
        text_same (timed ws) =
            let run : timetable_run o.sheet o.memory (fires_of o) ws ≡ timetable_run q.sheet q.memory (fires_of q) ws =
            rw (same_fires t, t.sheet, t.memory) refl in
            ap (λ (x : Run). answer ((card_of run_card a).text x)) run
            ∙ ap (λ (f : Form Run). answer (f.text (timetable_run q.sheet q.memory (fires_of q) ws))) (same_card run_card s)
        text_same (unschedulable r) = refl
