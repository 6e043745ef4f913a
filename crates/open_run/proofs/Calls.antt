-- The calls read the run as its card would be read: an open record's array holds nothing that is no part of its run, so that the card gives it back.
use Prim.Native.Nat.{ℕ}
use native.Mathlib.Nat.{min-eq_left, add-zero}
use native.Mathlib.Omega.{arith}
use mathlib.Core.Path.{◌≡◌, refl, sym, ap, subst, ◌∙◌}
use mathlib.Core.Bool.{true}
use mathlib.Core.List.{List, ◌++◌}
use Rattle.reply.specs.Respond.{answer, Answered, Checked, Passed}
use Rattle.form.specs.Form.{found}
use Rattle.form.proofs.Found.{found_value}
use Rattle.net.specs.Net.{net_card}
use Rattle.net.specs.Same.{SameNet}
use Rattle.net.proofs.Same.{net_same}
use Rattle.run.specs.declared.Run.{Run}
use Rattle.run.specs.Run.{run_card, order_card, firings_of, fires_of, waits_of}
use Rattle.run.proofs.Firings.{length_firings}
use Rattle.run.proofs.Same.{run_same, order_same, run_clean}
use Rattle.firing.specs.Semantics.{arcs_of, rule_of, Timed, Allowed}
use Rattle.firing.proofs.Accept.{replay_plays}
use Rattle.timing.specs.Windows.{Timable}
use Rattle.timing.proofs.Timings.{run_timing}
use Rattle.cards.specs.Cards.{card_of, input_of, read_run, run_checked}
use Rattle.cards.proofs.Cards.{run_reads_itself, run_counts}
use Rattle.cards.proofs.Values.{run_input_back, order_input_back}
use Rattle.operations.specs.Operation.{once_checked}
use Rattle.operations.specs.Replay.{end_text, replay_of, replay_cards}
use Rattle.operations.specs.Timetable.{timetable_of, timetable_cards}
use Rattle.operations.specs.Outcomes.{replaying}
use Rattle.operations.specs.Demands.{rule_for}
use Rattle.operations.proofs.Answers.{work_answered}
use Rattle.operations.proofs.Same.{work_same, timetable_same}
use Rattle.operations.proofs.Demands.{printed_end, timetable_exactly}
use Rattle.open_run.specs.declared.OpenRun.{OpenRun}
use Rattle.open_run.specs.Open.{is_open, wait_added, close_of, state_of, order_so_far, timetable_now}
use Rattle.open_run.specs.Claims.{OrderIn}
use Rattle.open_run.proofs.Opened.{open_parts, open_still, open_fits, wait_passes}
use Rattle.open_run.proofs.Firing.{fires_so_far, order_card_lem}
use Rattle.open_run.proofs.Reached.{open_padded}

waited_none : (q : Run) → wait_added q 0 ≡ q
waited_none q =
    λ k.
    record {
      sheet = q.sheet;
      memory = q.memory;
      denominator = q.denominator;
      count = q.count;
      firings = q.firings;
      rest = add-zero q.rest k;
    }

module _ (r : OpenRun) (o : is_open r ≡ true) where
  checked : run_checked r.net r.run ≡ Passed
  checked = ((open_parts r).0 o).checked

  -- the run is read back as it is
  pub open_clean : (card_of run_card r.net).clean r.run ≡ r.run
  open_clean =
      let p = (open_parts r).0 o in
      let few = (open_fits r o).few in
      run_clean r.net.sheet r.net.transitions r.run (firings_of r.run) (length_firings r.run ∙ min-eq_left few) few
      (open_padded r.run few p.slots p.blank)

  pub net_read_lem : SameNet (net_card.clean r.net) r.net
  net_read_lem = let (places, transitions, count) = run_counts r.net r.run checked in net_same r.net places transitions

  -- the replay and the timetable of its cards
  replay_cards_lem : replay_cards (input_of run_card r.net r.run) ≡ replay_of r.net r.run
  replay_cards_lem =
      let few = (open_fits r o).few in
      rw (run_input_back r.net r.run checked)
      (work_same net_read_lem (run_same r.net.sheet r.net.transitions r.run few) replaying)

  timetable_cards_lem : timetable_cards (input_of order_card r.net (order_so_far r.run)) ≡ timetable_of r.net (order_so_far r.run)
  timetable_cards_lem =
      let few = (open_fits r o).few in
      rw (order_input_back r.net (order_so_far r.run) (order_card_lem r o))
      (timetable_same net_read_lem (order_same r.net.sheet r.net.transitions (order_so_far r.run) few))

  -- what the calls come to
  pub state_now : state_of r ≡ replay_of r.net r.run
  state_now = ap (λ (c : Checked). once_checked c (replay_of r.net r.run)) (open_still r o)

  pub timetable_now_lem : timetable_now r ≡ timetable_of r.net (order_so_far r.run)
  timetable_now_lem = ap (λ (c : Checked). once_checked c (timetable_of r.net (order_so_far r.run))) (open_still r o)

  order_in : OrderIn r.run (order_so_far r.run)
  order_in = record { sheet = refl; word = refl; order = fires_so_far r.run }

  pub calls_as_closed : (bytes : List ℕ) × (close_of r 0 ≡ answer bytes) × (state_of r ≡ replay_cards (net_card.text r.net ++ bytes))
      × ((q : Run) (next : ℕ) → read_run r.net bytes ≡ found q next
      → OrderIn q (order_so_far q) × (timetable_now r ≡ timetable_cards (input_of order_card r.net (order_so_far q))))
  calls_as_closed =
      let text = (card_of run_card r.net).text in
      let none = sym (waited_none r.run) in (
        text (wait_added r.run 0),
        rw (wait_passes r 0 o (omega (arith, (open_fits r o).rest))) refl,
        state_now ∙ sym replay_cards_lem ∙ ap (λ (q : Run). replay_cards (input_of run_card r.net q)) none,
        λ q next e.
            let back : read_run r.net (text r.run) ≡ found q next = ap (λ (x : Run). read_run r.net (text x)) none ∙ e in
            let same : r.run ≡ q = found_value (sym (run_reads_itself r.net r.run checked open_clean) ∙ back) in
            subst (λ (x : Run). OrderIn x (order_so_far x) × (timetable_now r ≡ timetable_cards (input_of order_card r.net (order_so_far x)))) same
            (order_in, timetable_now_lem ∙ sym timetable_cards_lem),
      )

  pub state_published : (end : Timed) → Allowed r.net (rule_for r.net r.run.memory) r.run.denominator (firings_of r.run) r.run.rest end
      → state_of r ≡ answer (end_text r.net end)
  state_published end a =
      state_now ∙ ap (λ (c : Checked). once_checked c (replay_of r.net r.run)) (sym checked) ∙ (printed_end r.net r.run end a).0 checked

  -- the waits of an accepted run are a timing of its order
  timable : Timable r.net (rule_of (arcs_of r.net) r.run.memory) r.run.denominator (fires_of (order_so_far r.run))
  timable =
      let rule = rule_of (arcs_of r.net) r.run.memory in
      let fs = firings_of r.run in
      rw (fires_so_far r.run)
      (waits_of fs, (run_timing r.net rule r.run.denominator fs).0 (sym (replay_plays r.net rule r.run) ∙ ((open_parts r).0 o).accepted))

  pub timetable_answered : Answered (timetable_of r.net (order_so_far r.run))
  timetable_answered =
      let rule = rule_of (arcs_of r.net) r.run.memory in
      (timetable_exactly r.net rule (order_so_far r.run)).1 (r.run.denominator, (open_fits r o).some_parts, timable)

  pub never_untimable : Answered (timetable_now r)
  never_untimable = (timetable_answered.0, timetable_now_lem ∙ timetable_answered.1)

  pub state_answered : Answered (replay_of r.net r.run)
  state_answered = (work_answered r.net r.run replaying).1 ((open_parts r).0 o).accepted
