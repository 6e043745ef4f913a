-- What each operation comes to, from what the code computes of a run or an order that passed its check.
use Rattle.std.specs.Prelude.{Err, Ok, Result}
use Prim.Native.Nat.{ℕ, ◌+◌, ◌^◌, ◌≤◌, ◌<◌}
use native.Mathlib.Nat.{min-le_right}
use native.Mathlib.Omega.{arith}
use mathlib.Core.Path.{◌≡◌, refl, sym, ap, subst, ◌∙◌}
use mathlib.Core.List.{List}
use lib.ListN.{length}
use Rattle.laws.specs.Each.{each_map}
use Rattle.reply.specs.declared.Refusal.{Refusal}
use Rattle.reply.specs.Respond.{answer, Responded, Passed, Reply}
use Rattle.form.proofs.Found.{also_first, also_second}
use Rattle.net.specs.declared.Net.{Net}
use Rattle.net.specs.Net.{net_card}
use Rattle.run.specs.declared.Run.{Run}
use Rattle.run.specs.declared.Order.{Order}
use Rattle.run.specs.Run.{run_card, firings_of, fires_of, order_of}
use Rattle.run.proofs.Ranges.{run_in_ranges}
use Rattle.run.proofs.Text.{run_text_lem}
use Rattle.firing.specs.declared.State.{State}
use Rattle.firing.specs.declared.Played.{Played}
use Rattle.firing.specs.Semantics.{arcs_of, start_marking, rule_of}
use Rattle.firing.specs.Replay.{start_state, waited, play, rested, replay}
use Rattle.firing.specs.Tokens.{tokens}
use Rattle.firing.proofs.Agree.{play_soon}
use Rattle.run.proofs.Firings.{length_firings}
use Rattle.timing.specs.Schedule.{Scheduled, timed, unschedulable, schedule}
use Rattle.timing.specs.Rounding.{rounded_run, timetable_run}
use Rattle.timing.proofs.Rounded.{rounded_checked, scheduled_checked}
use Rattle.causal.specs.Print.{process_text}
use Rattle.cards.specs.Cards.{card_of, run_checked, order_checked}
use Rattle.cards.proofs.Cards.{run_short}
use Rattle.schedule.specs.Timetable.{timetabled, scheduled_run}
use Rattle.schedule.proofs.Timetables.{timetabled_scheduled}
use Rattle.firing.specs.Claims.{view}
use Rattle.operations.specs.Replay.{end_text, ended, replay_of}
use Rattle.operations.specs.Round.{round_of}
use Rattle.operations.specs.Process.{process_of}
use Rattle.operations.specs.Timetable.{schedule_text, timetable_of}
use Rattle.operations.proofs.Answers.{earliest_within}
use Rattle.operations.proofs.Causality.{accepted_tokens}
use Rattle.engine.proofs.Outcome.{refusal_answered, check_refused, check_passed}

-- the card of a run that passes its check fits the buffer
card_fits : (net : Net) (r : Run) → run_checked net r ≡ Passed → length ((run_card 0 0).text r) ≤ 2048
card_fits net r p = omega (arith, ap length (run_text_lem 0 0 net.sheet net.transitions r), run_short net r p)

-- the same answer
other_text : {a b entry : List ℕ} {r : Reply} {exit : List ℕ} → a ≡ b → Responded (answer a) entry r exit → Responded (answer b) entry r exit
other_text {entry = entry} {r} {exit} e v = subst (λ (t : List ℕ). Responded (answer t) entry r exit) e v

-- ---- p is what the firings of a run came to
module _ (net : Net) (run : Run) {p : Played} (is : p ≡ play net (rule_of (arcs_of net) run.memory) run.denominator (firings_of run)
    (start_state net) 0) where
  -- the state after the rest
  abbrev pub at_rest : State
  at_rest = record { marking = p.state.marking; since = p.state.since; now = p.state.now + run.rest }

  replay_same : replay net (rule_of (arcs_of net) run.memory) run ≡ record { checked = p.checked; state = at_rest }
  unfolding replay waited
  replay_same = ap (rested run.rest) (sym is)

  judged : (replay net (rule_of (arcs_of net) run.memory) run).checked ≡ p.checked
  judged = ap (λ (x : Played). x.checked) replay_same

  outcome_same : replay_of net run ≡ ended net p.checked at_rest
  outcome_same = ap (λ (x : Played). ended net x.checked x.state) replay_same

  -- the end of a run that passes its check is a number of 64 bits
  pub rest_fits : run_checked net run ≡ Passed → p.state.now + run.rest < 2 ^ 64
  unfolding start_state
  rest_fits e =
      let f = (run_in_ranges net.sheet net.transitions run).0 (also_second (net_card.check net 1) _ e) in
      let waits = each_map (λ g h. h.0) (firings_of run) f.each in
      let soon = play_soon net (rule_of (arcs_of net) run.memory) run.denominator 10000000 (firings_of run) (start_state net) 0 waits in
      omega (arith, ap (λ (x : Played). x.state.now) is, soon, length_firings run, f.few, f.rest, min-le_right run.count 64)

  module _ {r : Refusal} (out : List ℕ) (e : p.checked ≡ Err r) where
    pub replay_refused : Responded (replay_of net run) out (Err r) out
    replay_refused = rw (outcome_same, e) (refusal_answered r out)

    pub round_refused : Responded (round_of net run) out (Err r) out
    round_refused = check_refused (answer ((card_of run_card net).text (rounded_run run))) out (judged ∙ e)

    pub process_refused : Responded (process_of net run) out (Err r) out
    process_refused = check_refused (answer (process_text net (order_of (firings_of run)))) out (judged ∙ e)

  module _ (e : p.checked ≡ Passed) where
    pub process_allowed : tokens net (order_of (firings_of run)) (start_marking net) 0 ≡ Passed
    process_allowed = accepted_tokens net run (judged ∙ e)

    module _ {entry : List ℕ} {r : Reply} {exit : List ℕ} where
      pub replay_answered : Responded (answer (end_text net (view at_rest))) entry r exit → Responded (replay_of net run) entry r exit
      replay_answered v = rw (outcome_same, e) v

      pub process_answered : Responded (answer (process_text net (order_of (firings_of run)))) entry r exit → Responded (process_of net run) entry r exit
      process_answered v = check_passed (answer (process_text net (order_of (firings_of run)))) (judged ∙ e) v

      pub round_answered : {q : Run} → q ≡ rounded_run run → Responded (answer ((run_card 0 0).text q)) entry r exit → Responded (round_of net run) entry r exit
      round_answered same v =
          check_passed (answer ((card_of run_card net).text (rounded_run run))) (judged ∙ e)
          (other_text (ap (run_card 0 0).text same ∙ run_text_lem 0 0 net.sheet net.transitions (rounded_run run)) v)

-- the rounded run of a run that passes its check fits the buffer
pub rounded_fits : (net : Net) (run : Run) → run_checked net run ≡ Passed → {q : Run} → q ≡ rounded_run run → length ((run_card 0 0).text q) ≤ 2048
rounded_fits net run e {q} is =
    let own = also_second (net_card.check net 1) _ e in
    card_fits net q (rw (also_first (net_card.check net 1) _ e, is) (rounded_checked net.sheet net.transitions run own))

-- ---- t is the timetable of an order that passed its check, or why there is none
module _ (net : Net) (o : Order) (e : order_checked net o ≡ Passed) {t : Result Run Refusal} (is : t ≡ timetabled net o) where
  abbrev scheduled : Scheduled
  scheduled = schedule net (rule_of (arcs_of net) o.memory) (fires_of o)

  own : t ≡ scheduled_run o scheduled
  own = is ∙ timetabled_scheduled net o (earliest_within net (also_first (net_card.check net 1) _ e))

  pub timetable_refused : {r : Refusal} (out : List ℕ) → t ≡ Err r → Responded (timetable_of net o) out (Err r) out
  timetable_refused {r} out q = go scheduled (sym own ∙ q)
    where
      go : (s : Scheduled) → scheduled_run o s ≡ Err r → Responded (schedule_text net o s) out (Err r) out
      go (timed ws) h = let z : ◌≡◌ {A = ℕ} 0 1 = cc in absurd (omega arith)
      go (unschedulable q) h = let same : q ≡ r = cc in rw same (refusal_answered r out)

  module _ {run : Run} (q : t ≡ Ok run) where
    timely : (ws : List ℕ) × (scheduled ≡ timed ws) × (run ≡ timetable_run o.sheet o.memory (fires_of o) ws)
    timely = go scheduled refl (sym own ∙ q)
      where
        go : (s : Scheduled) → scheduled ≡ s → scheduled_run o s ≡ Ok run
            → (ws : List ℕ) × (scheduled ≡ timed ws) × (run ≡ timetable_run o.sheet o.memory (fires_of o) ws)
        go (timed ws) h k = let same : timetable_run o.sheet o.memory (fires_of o) ws ≡ run = cc in (ws, h, sym same)
        go (unschedulable r) h k = let z : ◌≡◌ {A = ℕ} 0 1 = cc in absurd (omega arith)

    pub timetable_fits : length ((run_card 0 0).text run) ≤ 2048
    timetable_fits =
        let (ws, h, same) = timely in
        let net_passed = also_first (net_card.check net 1) _ e in
        card_fits net run
        (rw (net_passed, same) (scheduled_checked net (rule_of (arcs_of net) o.memory) o ws h (earliest_within net net_passed)
        (also_second (net_card.check net 1) _ e)))

    pub timetable_answered : {entry : List ℕ} {r : Reply} {exit : List ℕ} → Responded (answer ((run_card 0 0).text run)) entry r exit
        → Responded (timetable_of net o) entry r exit
    timetable_answered v =
        let (ws, h, same) = timely in
        rw h (other_text (ap (run_card 0 0).text same ∙ run_text_lem 0 0 net.sheet net.transitions (timetable_run o.sheet o.memory (fires_of o) ws)) v)
