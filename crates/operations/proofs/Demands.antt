-- The demands, proved as specs/Demands.antt states them, under the same names. Each follows from a law of its subject in the crates below, and from what an
-- operation does around it: check or read, reply, write.
use Rattle.std.specs.Prelude.{Err}
use Prim.Native.Nat.{ℕ, ◌≤◌}
use native.Mathlib.Nat.{zero-add}
use native.Mathlib.Omega.{arith}
use mathlib.Core.Path.{◌≡◌, refl, sym, ap, subst, ◌∙◌}
use mathlib.Core.Logic.{◌↔◌}
use mathlib.Core.List.{List, ◌++◌}
use lib.ListN.{length, take, drop}
use lib.Seq.{take-append_seam}
use Rattle.reply.specs.declared.Refusal.{Refusal}
use Rattle.reply.specs.declared.Refusal.TheVariants.{OutputTooShort}
use Rattle.reply.specs.Respond.{answer, refusal, written_if, Answered, Checked, Passed}
use Rattle.reply.proofs.Laws.{demanded, written_answer, checked_refused}
use Rattle.form.specs.Form.{Found, found, refused, found_if}
use Rattle.form.proofs.Found.{also_first, also_second}
use Rattle.form.proofs.Writable.{told_placed}
use Rattle.net.specs.declared.Net.{Net}
use Rattle.net.specs.Net.{net_card}
use Rattle.net.specs.Same.{writable_net}
use Rattle.net.proofs.Card.{net_inverse, net_placed}
use Rattle.net.proofs.Same.{net_same, net_comes_back}
use Rattle.net.proofs.Writable.{net_told}
use Rattle.run.specs.declared.Run.{Run}
use Rattle.run.specs.declared.Order.{Order}
use Rattle.run.specs.Run.{run_card, order_card, firings_of, fires_of}
use Rattle.run.proofs.Same.{run_same, order_same}
use Rattle.run.proofs.Ranges.{run_in_ranges, order_in_ranges}
use Rattle.firing.specs.Semantics.{arcs_of, Restart, Timed, rule_of, Initial, Allowed}
use Rattle.firing.specs.Replay.{replay}
use Rattle.firing.proofs.Accept as accept
use Rattle.firing.proofs.Accept.{same_end}
use Rattle.firing.proofs.Rules.{rule_restarting}
use Rattle.timing.specs.Schedule.{Scheduled, schedule}
use Rattle.timing.specs.Rounding.{rounded_run, timetable_run}
use Rattle.timing.proofs.Timings.{ticks_exactly}
use Rattle.timing.proofs.Origins as origins
use Rattle.timing.proofs.Scheduled.{schedule_refused, scheduled_timing, scheduled_earliest, scheduled_exactly, untimable_none, untimable_allowed}
use Rattle.timing.proofs.Rounded as rounded
use Rattle.timing.proofs.Rounded.{fires_few, timetable_order, timetable_waits, timetable_clean, timetable_accepted, rounded_clean, rounded_order}
use Rattle.timing.proofs.Rounded.{rounded_instant, rounded_end, rounded_accepted, same_markings, rounded_checked, scheduled_within, scheduled_checked}
use Rattle.timing.proofs.RoundedClocks.{rounded_instants_near, rounded_end_near, rounded_clocks, rounded_end_clocks}
use Rattle.cards.specs.Cards.{card_of, input_of, run_checked, order_checked, run_cards}
use Rattle.cards.proofs.Cards.{run_counts, order_counts, run_cards_passed, order_cards_passed, run_cards_prefix, order_cards_prefix}
use Rattle.cards.proofs.Cards.{run_written_again, order_written_again, run_comes_back, order_comes_back, run_input_again, order_input_again}
use Rattle.cards.proofs.Values.{run_cards_told, order_cards_told, run_input_back, order_input_back}
use Rattle.operations.specs.Operation.{once_checked, once_read}
use Rattle.operations.specs.Replay.{end_text, ended, replay_of}
use Rattle.operations.specs.Timetable.{schedule_text, timetable_of, timetable_values}
use Rattle.operations.specs.Outcomes.{OnRun, replaying, Operation, of_run, of_order, of_run_cards, of_order_cards, write_net, write_run, write_order}
use Rattle.operations.specs.Outcomes.{work_of, values_of, outcome_of}
use Rattle.operations.specs.Demands.{EveryReply, RunAsCards, OrderAsCards}
use Rattle.operations.specs.Demands.{ValuesRefusedAsCards, CardsFirst}
use Rattle.operations.specs.Demands.{SlotsNoPart, PrefixDecides, Allows, AcceptedExactly, AcceptedCardsExactly, RefusedAt, RefusedAtExactly}
use Rattle.operations.specs.Demands.{RefusedAtCardsExactly, PrintedEnd}
use Rattle.operations.specs.Demands.{ReadWritten, InputsReadWritten, WrittenRead, InputsWrittenRead, TicksExactlyParts, TimingsAreRuns}
use Rattle.operations.specs.Demands.{OriginsAreRestarts, TimetableByMemory, RoundByMemory, TimetableExactly, TokensFirst, UntimableExactlyAt}
use Rattle.operations.specs.Demands.{UntimableWhenNone, TimetableEarliest, RoundExactly, RoundWhole}
use Rattle.operations.proofs.Answers.{earliest_within, once_answer, once_answered, work_refused, work_answered, schedule_answer, untimable_told}
use Rattle.operations.proofs.Answers.{no_answer, whole_tick_run}
use Rattle.operations.proofs.Places.{cards_placed, timetable_placed}
use Rattle.operations.proofs.Same.{run_checks_same, order_checks_same, work_same, timetable_same}
use Rattle.operations.proofs.Ends.{end_matches}

-- ======== demand 1
-- the work on a run that passed its check, or that was read, is that of the run as it is read back
pub run_as_cards : RunAsCards
run_as_cards what net r = rw (run_cards_told net r) (go (run_checked net r) refl)
  where
    go : (c : Checked) → run_checked net r ≡ c → once_checked c (work_of what net r)
        ≡ once_read {A = Net × Run} (found_if c (net_card.clean net, (card_of run_card net).clean r) (length (input_of run_card net r)))
        (λ v. work_of what v.0 v.1)
    go Passed p =
        let (places, transitions, count) = run_counts net r p in
        sym (work_same (net_same net places transitions) (run_same net.sheet net.transitions r count) what)
    go (Err e) p = refl

pub order_as_cards : OrderAsCards
order_as_cards net o = rw (order_cards_told net o) (go (order_checked net o) refl)
  where
    go : (c : Checked) → order_checked net o ≡ c → once_checked c (timetable_of net o)
        ≡ once_read {A = Net × Order} (found_if c (net_card.clean net, (card_of order_card net).clean o) (length (input_of order_card net o)))
        (λ v. timetable_of v.0 v.1)
    go Passed p =
        let (places, transitions, count) = order_counts net o p in
        sym (timetable_same (net_same net places transitions) (order_same net.sheet net.transitions o count))
    go (Err e) p = refl

-- a check that refuses refuses the text and the reading alike
refused_alike : {A : Type 0} (c : Checked) (text : List ℕ) (a : A) (next : ℕ) (e : Refusal) → (written_if c text ≡ refusal e) ↔ (found_if c a next ≡ refused e)
refused_alike Passed text a next e = (
  λ p. absurd (no_answer (sym p)),
  λ p. let z : ◌≡◌ {A = ℕ} 0 1 = cc in absurd (omega arith),
)
refused_alike (Err q) text a next e = (λ p. cc, λ p. cc)

pub values_refused_as_cards : ValuesRefusedAsCards
values_refused_as_cards = (
  λ net rest e.
      rw (net_told.told net (net_card.text (writable_net net) ++ rest) rest 0 1 refl)
      (refused_alike (net_card.check net 1) (net_card.text net) (net_card.clean net) _ e),
  λ net r e. rw (run_cards_told net r) (refused_alike (run_checked net r) _ _ _ e),
  λ net o e. rw (order_cards_told net o) (refused_alike (order_checked net o) _ _ _ e),
)

pub cards_first : CardsFirst
cards_first = (λ what s r e. rw e refl, λ s r e. rw e refl)

-- no operation finds 9 before it looks at the output: every refusal of its own has a place from 1 on
run_own : (what : OnRun) (net : Net) (r : Run) → values_of what net r ≡ refusal OutputTooShort → ⊥
run_own what net r e = omega (arith, (cards_placed what _ OutputTooShort (sym (run_as_cards what net r) ∙ e)).0)

order_own : (net : Net) (o : Order) → timetable_values net o ≡ refusal OutputTooShort → ⊥
order_own net o e = omega (arith, (timetable_placed _ OutputTooShort (sym (order_as_cards net o) ∙ e)).0)

own : (op : Operation) → outcome_of op ≡ refusal OutputTooShort → ⊥
own (of_run what net r) e = run_own what net r e
own (of_order net o) e = order_own net o e
own (of_run_cards what s) e = omega (arith, (cards_placed what s OutputTooShort e).0)
own (of_order_cards s) e = omega (arith, (timetable_placed s OutputTooShort e).0)
own (write_net net) e =
    let h : 1 ≤ 0 = told_placed net_told net_placed net 1 (checked_refused (net_card.check net 1) (net_card.text net) e) in
    omega arith
own (write_run net r) e =
    run_own replaying net r (ap (λ (c : Checked). once_checked c (work_of replaying net r)) (checked_refused (run_checked net r) _ e))
own (write_order net o) e = order_own net o (ap (λ (c : Checked). once_checked c (timetable_of net o)) (checked_refused (order_checked net o) _ e))

pub every_reply : EveryReply
every_reply op = demanded (outcome_of op) (own op)

pub slots_no_part : SlotsNoPart
slots_no_part = (
  λ what a b r q s t.
      ap (λ (c : Checked). once_checked c (work_of what a r)) (run_checks_same s t) ∙ ap (once_checked (run_checked b q)) (work_same s t what),
  λ a b o q s t.
      ap (λ (c : Checked). once_checked c (timetable_of a o)) (order_checks_same s t) ∙ ap (once_checked (order_checked b q)) (timetable_same s t),
)

pub prefix_decides : PrefixDecides
prefix_decides = (
  λ what s k h. ap (λ f. once_read f (λ v. work_of what v.0 v.1)) (run_cards_prefix s k h),
  λ s k h. ap (λ f. once_read f (λ v. timetable_of v.0 v.1)) (order_cards_prefix s k h),
)

-- ======== demand 2
module _ (net : Net) (r : Run) where
  pub allowed_exactly : ((replay net (rule_of (arcs_of net) r.memory) r).checked ≡ Passed) ↔ Allows net r
  allowed_exactly = accept.accepted_exactly net (rule_of (arcs_of net) r.memory) r (rule_restarting net r.memory)

  work_exactly : (what : OnRun) → Answered (work_of what net r) ↔ Allows net r
  work_exactly what =
      let done = work_answered net r what in
      (λ a. allowed_exactly.0 (done.0 a), λ h. done.1 (allowed_exactly.1 h))

pub accepted_exactly : AcceptedExactly
accepted_exactly what net r =
    let once = once_answered (run_checked net r) (work_of what net r) in
    let work = work_exactly net r what in
    (λ a. let h = once.0 a in (h.0, work.0 h.1), λ h. once.1 (h.0, work.1 h.1))

module _ (net : Net) (r : Run) (S : Timed) (i : Initial net S) (e : Refusal) where
  work_refused_at : (what : OnRun) → (work_of what net r ≡ refusal e) ↔ RefusedAt net r S e
  work_refused_at what =
      let why = work_refused net r what e in
      let first = accept.refused_exactly net (rule_of (arcs_of net) r.memory) r (rule_restarting net r.memory) S i e in
      (λ q. first.0 (why.0 q), λ x. why.1 (first.1 x))

pub refused_at_exactly : RefusedAtExactly
refused_at_exactly what net r S p i e = rw p (work_refused_at net r S i e what)

pub refused_at_cards_exactly : RefusedAtCardsExactly
refused_at_cards_exactly what s net r next S c i e = rw c (work_refused_at net r S i e what)

end_told : (net : Net) (r : Run) (end : Timed) → Allowed net (rule_of (arcs_of net) r.memory) r.denominator (firings_of r) r.rest end
    → replay_of net r ≡ answer (end_text net end)
end_told net r end a =
    let rule = rule_of (arcs_of net) r.memory in
    let st = (replay net rule r).state in
    ap (λ (c : Checked). ended net c st) ((allowed_exactly net r).1 (end, a))
    ∙ ap answer (sym (end_matches net end st (same_end net rule r (rule_restarting net r.memory) end a)))

pub printed_end : PrintedEnd
printed_end net r end a = (λ p. rw p (end_told net r end a), λ s next e. rw e (end_told net r end a))

pub accepted_cards_exactly : AcceptedCardsExactly
accepted_cards_exactly what s = (
  there (run_cards s) refl,
  λ h. let (net, r, e, allows) = h in rw e ((work_exactly net r what).1 allows),
)
  where
    there : (f : Found (Net × Run)) → run_cards s ≡ f → Answered (once_read f (λ v. work_of what v.0 v.1))
        → (net : Net) × (r : Run) × (run_cards s ≡ found (net, r) (length s)) × Allows net r
    there (found v next) e a =
        (v.0, v.1, e ∙ ap (found v) (run_input_again s e).1, (work_exactly v.0 v.1 what).0 a)
    there (refused r) e a = absurd (no_answer a.1)

pub read_written : ReadWritten
read_written = (
  λ s net next e.
      let w = net_inverse.written_read net s 0 next 1 e in
      ap (λ (c : Checked). written_if c (net_card.text net)) w.passed ∙ ap answer (front (w.end ∙ zero-add _) w.bytes),
  λ s net r next e. run_written_again net s e,
  λ s net o next e. order_written_again net s e,
)
  where
    front : {text s : List ℕ} {next : ℕ} → next ≡ length text → s ≡ text ++ drop next s → text ≡ take next s
    front {text} {s} {next} n e = sym (ap (take next) e ∙ rw n (take-append_seam text (drop (length text) s)))

pub inputs_read_written : InputsReadWritten
inputs_read_written = (λ s net r next e. (run_input_again s e).0, λ s net o next e. (order_input_again s e).0)

pub written_read : WrittenRead
written_read = (
  λ net bytes rest e.
      let (p, same) = written_answer (net_card.check net 1) (net_card.text net) e in
      let w = net_comes_back net rest p in
      (w.back, subst (λ (l : List ℕ). net_card.read (l ++ rest) 0 1 ≡ found w.back (length l)) same w.read, w.same),
  run_comes_back,
  order_comes_back,
)

pub inputs_written_read : InputsWrittenRead
inputs_written_read = (
  λ net r p.
      let (places, transitions, count) = run_counts net r p in
      (_, _, run_input_back net r p, net_same net places transitions, run_same net.sheet net.transitions r count),
  λ net o p.
      let (places, transitions, count) = order_counts net o p in
      (_, _, order_input_back net o p, net_same net places transitions, order_same net.sheet net.transitions o count),
)

-- ======== demand 3
pub ticks_exactly_parts : TicksExactlyParts
ticks_exactly_parts = ticks_exactly

pub timings_are_runs : TimingsAreRuns
timings_are_runs = rounded.timings_are_runs

pub origins_are_restarts : OriginsAreRestarts
origins_are_restarts = origins.origins_are_restarts

pub timetable_by_memory : TimetableByMemory
timetable_by_memory = (λ net o p. rw p refl, λ s net o next e. (order_cards_passed s e, rw e refl))

pub round_by_memory : RoundByMemory
round_by_memory = (λ net r p. rw p refl, λ s net r next e. (run_cards_passed s e, rw e refl))

module _ (net : Net) (restarts : Restart) (o : Order) where
  abbrev scheduled : Scheduled
  scheduled = schedule net restarts (fires_of o)

  pub timetable_exactly : TimetableExactly net restarts o
  timetable_exactly = (
    λ a. let s = schedule_answer net o scheduled a.0 a.1 in (1, omega arith, (s.0, scheduled_timing net restarts (fires_of o) s.0 s.1)),
    λ t. let s = (scheduled_exactly net restarts (fires_of o) t.2.1.allowed).1 t in (_, ap (schedule_text net o) s.1),
  )

  pub tokens_first : TokensFirst net restarts o
  tokens_first r e out = rw (schedule_refused net restarts (fires_of o) r e) refl

  pub untimable_exactly_at : UntimableExactlyAt net restarts o
  untimable_exactly_at k out =
      let told = untimable_told net o scheduled k out in
      let why = untimable_allowed net restarts (fires_of o) k in
      (λ e. why.0 (told.0 e), λ f. told.1 (why.1 f))

  pub untimable_when_none : UntimableWhenNone net restarts o
  untimable_when_none e out =
      let none = untimable_none net restarts (fires_of o) e in (
        λ u. none.0 (u.0, (untimable_told net o scheduled u.0 out).0 u.1),
        λ h. let u = none.1 h in (u.0, (untimable_told net o scheduled u.0 out).1 u.1),
      )

  pub timetable_earliest : TimetableEarliest net restarts o
  unfolding timetable_run
  timetable_earliest p bytes e =
      let order = fires_of o in
      let (waits, on-time, text) = schedule_answer net o scheduled bytes e in
      let t = scheduled_timing net restarts order waits on-time in
      let r = timetable_run o.sheet o.memory order waits in
      let q = also_first (net_card.check net 1) _ p in
      let passed = also_second (net_card.check net 1) ((card_of order_card net).check o 1) p in
      let few = fires_few o in
      let soon = earliest_within net q in
      let same = timetable_waits o.sheet o.memory order waits t.complete few in (
        r,
        whole_tick_run net restarts r refl (rw q (scheduled_checked net restarts o waits on-time soon passed))
            (timetable_accepted net restarts o.sheet o.memory order waits few t)
            (timetable_clean o.sheet o.memory order waits t.complete few net.sheet net.transitions) bytes text,
        record {
          sheet = (order_in_ranges net.sheet net.transitions o passed).own;
          memory = refl;
          order = timetable_order o.sheet o.memory order waits t.complete few;
          no_rest = refl;
          earliest = λ D d vs v i l. rw same (scheduled_earliest net restarts order waits on-time D d vs v i l);
          early = λ i. rw same (scheduled_within net restarts order waits on-time soon few i);
        },
      )

module _ (net : Net) (restarts : Restart) (r : Run) where
  pub round_exactly : RoundExactly net restarts r
  round_exactly =
      let once = once_answered (replay net restarts r).checked (answer ((card_of run_card net).text (rounded_run r))) in
      (λ a. (once.0 a).0, λ e. once.1 (e, (_, refl)))

  pub round_whole : RoundWhole net restarts r
  unfolding rounded_run
  round_whole p bytes e =
      let (accepted, text) = (once_answer (replay net restarts r).checked (answer ((card_of run_card net).text (rounded_run r))) bytes).0 e in
      let q = rounded_run r in
      let passed = also_second (net_card.check net 1) ((card_of run_card net).check r 1) p in
      let fits = (run_in_ranges net.sheet net.transitions r).0 passed in
      let d = fits.some_parts in (
        q,
        whole_tick_run net restarts q refl (rw (also_first (net_card.check net 1) _ p) (rounded_checked net.sheet net.transitions r passed))
            (rounded_accepted r d net restarts accepted) (rounded_clean r net.sheet net.transitions) bytes (cc),
        record {
          sheet = fits.own;
          memory = refl;
          order = rounded_order r;
          instant = rounded_instant r d;
          end = rounded_end r d;
          markings = λ i. sym (same_markings r d net restarts accepted i);
          instants_near = rounded_instants_near r d;
          end_near = rounded_end_near r d;
          clocks_near = rounded_clocks r d net restarts accepted;
          end_clocks_near = rounded_end_clocks r d net restarts accepted;
        },
      )
