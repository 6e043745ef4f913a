-- A timetable never ranks after another run of its order: no run of the order, at any denominator, has a firing or the end earlier.
use Prim.Native.Nat.{ℕ, suc, ◌+◌, ◌*◌, ◌≤◌, ◌<◌}
use native.Mathlib.Nat.{mul-one, mul_comm, eq-or-lt_of_le}
use native.Mathlib.Omega.{arith}
use mathlib.Core.Path.{◌≡◌, sym, ap, subst, ◌∙◌}
use mathlib.Core.Logic.{⊎_elim}
use mathlib.Core.List.{List}
use lib.ListN.{length}
use Rattle.reply.specs.Respond.{answer, Passed}
use Rattle.form.specs.Form.{found}
use Rattle.form.proofs.Found.{found_value, also_second}
use Rattle.net.specs.declared.Net.{Net}
use Rattle.net.specs.Net.{net_card}
use Rattle.run.specs.declared.Run.{Run}
use Rattle.run.specs.declared.Order.{Order}
use Rattle.run.specs.Run.{run_card, firings_of, fires_of, order_of, waits_of}
use Rattle.run.proofs.Ranges.{run_in_ranges}
use Rattle.firing.specs.Semantics.{Restart}
use Rattle.firing.specs.Replay.{replay}
use Rattle.timing.specs.Windows.{Timing}
use Rattle.timing.specs.Rounding.{last_instant, end_instant}
use Rattle.cards.specs.Cards.{card_of, read_run, run_checked, order_checked}
use Rattle.operations.specs.Claims.{instants_of, EarliestRun}
use Rattle.operations.specs.Timetable.{timetable_by}
use Rattle.operations.proofs.Demands.{timetable_earliest}
use Rattle.operations.proofs.Requests.{any_rule_accepts}
use Rattle.ranking.specs.Lead.{instant_of}
use Rattle.ranking.specs.Claims.{Before}
use Rattle.ranking.proofs.Ranks.{order_length, firing_instant, end_instant_lem}

-- the end is the last firing's instant and the rest
end_rests : (r : Run) (i : ℕ) → i ≡ length (firings_of r) → instant_of r i ≡ instants_of r i + r.rest
unfolding end_instant last_instant
end_rests r i e = rw e (end_instant_lem r)

module _ (net : Net) (restarts : Restart) (o : Order) (r t : Run) (first : EarliestRun net restarts o t) (w : t.denominator ≡ 1)
    (d : 0 < r.denominator) (accepted : (replay net restarts r).checked ≡ Passed) (one : order_of (firings_of r) ≡ fires_of o) where
  -- both have as many firings as the order
  length_run : length (firings_of r) ≡ length (fires_of o)
  length_run = order_length r (fires_of o) one

  length_table : length (firings_of t) ≡ length (fires_of o)
  length_table = order_length t (fires_of o) first.order

  -- each firing of the timetable is the earliest
  firing_early : (i : ℕ) → i ≤ length (fires_of o) → r.denominator * instants_of t i ≤ instants_of r i
  firing_early =
      let D = r.denominator in
      let waits = waits_of (firings_of r) in
      first.earliest D d waits (subst (λ (l : List ℕ). Timing net restarts D l waits) one ((any_rule_accepts net restarts r).0 accepted))

  -- so is each of its instants, the end included
  instant_early : (i : ℕ) → i ≤ length (fires_of o) → r.denominator * instant_of t i ≤ instant_of r i
  instant_early i l =
      ⊎_elim
      (λ (e : i ≡ length (fires_of o)).
      let a : instant_of t i ≡ instants_of t i = omega (arith, end_rests t i (omega (arith, length_table)), first.no_rest) in
      rw a (omega (arith, firing_early i l, end_rests r i (omega (arith, length_run)))))
      (λ (h : i < length (fires_of o)).
      rw (firing_instant r i (omega (arith, length_run)), firing_instant t i (omega (arith, length_table))) (firing_early (suc i) h))
      (eq-or-lt_of_le l)

  -- so no run of its order stands before it
  pub timetable_first : Before r t → ⊥
  timetable_first b =
      let i = b.at in
      let a : instant_of r i * t.denominator ≡ instant_of r i = ap (λ (n : ℕ). instant_of r i * n) w ∙ mul-one (instant_of r i) in
      omega (arith, b.earlier, a, mul_comm (instant_of t i) r.denominator, instant_early i (omega (arith, b.within, length_run)))

-- the timetable as its bytes are read
module _ (net : Net) (restarts : Restart) (o : Order) (bytes : List ℕ) (t : Run) (p : order_checked net o ≡ Passed)
    (e : timetable_by net restarts o ≡ answer bytes) (read : read_run net bytes ≡ found t (length bytes)) where
  pub read_earliest : EarliestRun net restarts o t × (t.denominator ≡ 1)
  read_earliest =
      let (table, whole, first) = timetable_earliest net restarts o p bytes e in
      let same : table ≡ t = found_value (sym whole.is_card ∙ read) in
      (subst (EarliestRun net restarts o) same first, rw same at whole.whole_ticks)

  pub timetable_never_after : (r : Run) → run_checked net r ≡ Passed → (replay net restarts r).checked ≡ Passed → order_of (firings_of r) ≡ fires_of o
      → Before r t → ⊥
  timetable_never_after r checked accepted one =
      let passed = also_second (net_card.check net 1) ((card_of run_card net).check r 1) checked in
      timetable_first net restarts o r t read_earliest.0 read_earliest.1 ((run_in_ranges net.sheet net.transitions r).0 passed).some_parts accepted one
