-- The rounded run of an accepted run is a run: its waits are the rounded waits, which are a timing of the same order in whole ticks. No number of it is
-- over that of the run, so its card passes the checks. A timing in whole ticks makes a run likewise.
use Rattle.reply.specs.Respond.{Passed}
use Prim.Native.Nat.{ℕ, zero, suc, ◌+◌, ◌/◌, ◌≤◌, ◌<◌, min}
use native.Mathlib.Nat.{le_of_suc-le-suc, not-suc-le-zero, min-le_right, min-eq_left}
use native.Mathlib.Omega.{arith}
use mathlib.Core.Path.{◌≡◌, refl, sym, ap, ◌∙◌}
use mathlib.Core.Logic.{◌↔◌, ⊎_elim}
use mathlib.Core.List.{List, [], ◌∷◌}
use lib.ListN.{length, get_or, take}
use Rattle.laws.specs.Division.{div_le, div_sum_le}
use Rattle.laws.specs.Each.{Each, each_of}
use Rattle.laws.specs.Slots.{length_first, first_pad}
use Rattle.laws.specs.Sums.{le_or_lt}
use Rattle.net.specs.declared.Net.{Net}
use Rattle.run.specs.declared.Memory.{Memory}
use Rattle.run.specs.declared.Firing.{Firing}
use Rattle.run.specs.declared.Run.{Run}
use Rattle.run.specs.declared.Order.{Order}
use Rattle.run.specs.Run.{no_firing, run_card, order_card, firings_of, fires_of, order_of, waits_of}
use Rattle.run.proofs.Ranges.{FiringFits, run_in_ranges, order_in_ranges}
use Rattle.run.proofs.Same.{run_clean}
use Rattle.firing.specs.Semantics.{arcs_of, Restart, transition_at, Timed, rule_of, Allowed}
use Rattle.firing.specs.Replay.{start_state, play, replay}
use Rattle.firing.proofs.Accept.{played_exactly}
use Rattle.firing.proofs.Rules.{rule_restarting}
use Rattle.run.proofs.Firings.{length_firings}
use Rattle.timing.specs.Windows.{instants, Timing}
use Rattle.timing.specs.Schedule.{timed, schedule, rounded_from, rounded_waits}
use Rattle.timing.specs.Rounding.{zip_firings, last_instant, end_instant, rounded_run, timetable_run}
use Rattle.timing.proofs.Meet.{length_order, length_waits}
use Rattle.timing.proofs.Instants.{wait_le, instants_past, length_rounded, rounded_instants}
use Rattle.timing.proofs.Timings.{run_timing, rounded_timing}
use Rattle.timing.proofs.Scheduled.{scheduled_timing, scheduled_early}
use Rattle.timing.proofs.Markings.{order_markings}

-- ---- the firings of an order after waits
pub order_zip : (ws order : List ℕ) → length ws ≡ length order → order_of (zip_firings ws order) ≡ order
unfolding zip_firings order_of
order_zip [] [] e = refl
order_zip [] (t ∷ order) e = absurd (omega arith)
order_zip (w ∷ ws) [] e = absurd (omega arith)
order_zip (w ∷ ws) (t ∷ order) e = ap (λ (l : List ℕ). t ∷ l) (order_zip ws order (omega arith))

pub waits_zip : (ws order : List ℕ) → length ws ≡ length order → waits_of (zip_firings ws order) ≡ ws
unfolding zip_firings waits_of
waits_zip [] [] e = refl
waits_zip [] (t ∷ order) e = absurd (omega arith)
waits_zip (w ∷ ws) [] e = absurd (omega arith)
waits_zip (w ∷ ws) (t ∷ order) e = ap (λ (l : List ℕ). w ∷ l) (waits_zip ws order (omega arith))

pub length_zip : (ws order : List ℕ) → length ws ≡ length order → length (zip_firings ws order) ≡ length order
length_zip ws order e = sym (length_order (zip_firings ws order)) ∙ ap length (order_zip ws order e)

pub zip_entry : (ws order : List ℕ) (i : ℕ) → i < length ws → length ws ≡ length order
    → get_or (zip_firings ws order) i no_firing ≡ record { wait = get_or ws i 0; fire = get_or order i 0 }
unfolding zip_firings
zip_entry [] order i l e = absurd (not-suc-le-zero l)
zip_entry (w ∷ ws) [] i l e = absurd (omega arith)
zip_entry (w ∷ ws) (t ∷ order) zero l e = refl
zip_entry (w ∷ ws) (t ∷ order) (suc i) l e = zip_entry ws order i (le_of_suc-le-suc l) (omega arith)

-- an order value has at most 64 firings
pub fires_few : (o : Order) → length (fires_of o) ≤ 64
unfolding fires_of
fires_few o = omega (arith, length_first (min o.count 64) 0 o.fires, min-le_right o.count 64)

-- ---- a run of the given waits and order
module _ (sheet : ℕ) (memory : Memory) (order waits : List ℕ) (e : length waits ≡ length order) (few : length order ≤ 64) where
  pub timetable_firings : firings_of (timetable_run sheet memory order waits) ≡ zip_firings waits order
  unfolding firings_of timetable_run
  timetable_firings = rw (min-eq_left few) (first_pad (length order) 64 no_firing (zip_firings waits order) (length_zip waits order e))

  pub timetable_order : order_of (firings_of (timetable_run sheet memory order waits)) ≡ order
  timetable_order = ap order_of timetable_firings ∙ order_zip waits order e

  pub timetable_waits : waits_of (firings_of (timetable_run sheet memory order waits)) ≡ waits
  timetable_waits = ap waits_of timetable_firings ∙ waits_zip waits order e

  -- nothing stands behind its firings
  pub timetable_clean : (own transitions : ℕ) → (run_card own transitions).clean (timetable_run sheet memory order waits) ≡ timetable_run sheet memory order waits
  unfolding timetable_run
  timetable_clean own transitions = run_clean own transitions (timetable_run sheet memory order waits) (zip_firings waits order) (length_zip waits order e) few refl

-- ---- a timing makes a run: firings after waits pass exactly when the waits are a timing
zip_timing : (net : Net) (restarts : Restart) (D : ℕ) (order waits : List ℕ) → length waits ≡ length order
    → ((play net restarts D (zip_firings waits order) (start_state net) 0).checked ≡ Passed) ↔ Timing net restarts D order waits
zip_timing net restarts D order waits e = rw (order_zip waits order e, waits_zip waits order e) at (run_timing net restarts D (zip_firings waits order))

-- a timing in whole ticks makes an accepted run
pub timetable_accepted : (net : Net) (restarts : Restart) (sheet : ℕ) (memory : Memory) (order waits : List ℕ) → length order ≤ 64 → Timing net restarts 1 order waits
    → (replay net restarts (timetable_run sheet memory order waits)).checked ≡ Passed
unfolding replay timetable_run
timetable_accepted net restarts sheet memory order waits few t =
    rw (timetable_firings sheet memory order waits t.complete few) ((zip_timing net restarts 1 order waits t.complete).1 t)

-- a timing under a memory word is a run of the published semantics with these waits and no rest
pub timings_are_runs : (net : Net) (memory : Memory) (D : ℕ) (order waits : List ℕ) → Timing net (rule_of (arcs_of net) memory) D order waits
    ↔ ((length waits ≡ length order) × ((end : Timed) × Allowed net (rule_of (arcs_of net) memory) D (zip_firings waits order) 0 end))
timings_are_runs net memory D order waits =
    let rule = rule_of (arcs_of net) memory in
    let allowed = played_exactly net rule D (zip_firings waits order) 0 (rule_restarting net memory) in (
      λ t. (t.complete, allowed.0 ((zip_timing net rule D order waits t.complete).1 t)),
      λ h. (zip_timing net rule D order waits h.0).0 (allowed.1 h.1),
    )

-- ---- the rounded run
module _ (r : Run) where
  abbrev D : ℕ
  D = r.denominator

  abbrev fs : List Firing
  fs = firings_of r

  pub rounded_sizes : length (rounded_waits D (waits_of fs)) ≡ length (order_of fs)
  rounded_sizes = length_rounded D (waits_of fs) ∙ length_waits fs ∙ sym (length_order fs)

  pub count_rounded : length (zip_firings (rounded_waits D (waits_of fs)) (order_of fs)) ≡ min r.count 64
  count_rounded = length_zip _ _ rounded_sizes ∙ length_order fs ∙ length_firings r

  pub rounded_firings : firings_of (rounded_run r) ≡ zip_firings (rounded_waits D (waits_of fs)) (order_of fs)
  unfolding firings_of rounded_run
  rounded_firings =
      rw (min-eq_left (min-le_right r.count 64))
      (first_pad (min r.count 64) 64 no_firing (zip_firings (rounded_waits D (waits_of fs)) (order_of fs)) count_rounded)

  -- nothing stands behind them
  pub rounded_clean : (own transitions : ℕ) → (run_card own transitions).clean (rounded_run r) ≡ rounded_run r
  unfolding rounded_run
  rounded_clean own transitions =
      run_clean own transitions (rounded_run r) (zip_firings (rounded_waits D (waits_of fs)) (order_of fs)) count_rounded (min-le_right r.count 64) refl

  pub rounded_order : order_of (firings_of (rounded_run r)) ≡ order_of fs
  rounded_order = ap order_of rounded_firings ∙ order_zip _ _ rounded_sizes

  pub rounded_waits_lem : waits_of (firings_of (rounded_run r)) ≡ rounded_waits D (waits_of fs)
  rounded_waits_lem = ap waits_of rounded_firings ∙ waits_zip _ _ rounded_sizes

  pub rounded_count : length (firings_of (rounded_run r)) ≡ length fs
  rounded_count = sym (length_order (firings_of (rounded_run r))) ∙ ap length rounded_order ∙ length_order fs

  module _ (d : 0 < r.denominator) where
    -- each instant is the run's, rounded down
    pub rounded_instant : (i : ℕ) → instants (waits_of (firings_of (rounded_run r))) i ≡ instants (waits_of fs) i / D
    rounded_instant i = ap (λ (ws : List ℕ). instants ws i) rounded_waits_lem ∙ rounded_instants D d (waits_of fs) i

    -- and so is the end
    rounded_last : last_instant (rounded_run r) ≡ last_instant r / D
    unfolding last_instant
    rounded_last = rounded_instant (length (firings_of (rounded_run r))) ∙ rw rounded_count refl

    pub rounded_end : end_instant (rounded_run r) ≡ end_instant r / D
    unfolding end_instant rounded_run
    rounded_end = let up : last_instant r / D ≤ (last_instant r + r.rest) / D = div_le D d (omega arith) in omega (arith, rounded_last)

    module _ (net : Net) (restarts : Restart) (e : (replay net restarts r).checked ≡ Passed) where
      -- it is still a run
      pub rounded_accepted : (replay net restarts (rounded_run r)).checked ≡ Passed
      unfolding replay rounded_run
      rounded_accepted =
          rw rounded_firings ((zip_timing net restarts 1 (order_of fs) (rounded_waits D (waits_of fs)) rounded_sizes).1
          (rounded_timing net restarts (order_of fs) D d (waits_of fs) ((run_timing net restarts D fs).0 e)))

      -- with the same marking after each firing
      pub same_markings : (i : ℕ) → (play net restarts D (take i fs) (start_state net) 0).state.marking
          ≡ (play net restarts 1 (take i (firings_of (rounded_run r))) (start_state net) 0).state.marking
      unfolding replay rounded_run
      same_markings i = order_markings net restarts D 1 fs (firings_of (rounded_run r)) (sym rounded_order) e rounded_accepted i

-- ---- numbers of the rounded run
-- of firings whose numbers lie in their ranges, the waits and the order, and back
abbrev Waits : List ℕ → Type 0
Waits ws = Each (λ w. w ≤ 10000000) ws

waits_fit : (transitions : ℕ) (fs : List Firing) → Each (FiringFits transitions) fs → Waits (waits_of fs)
unfolding waits_of
waits_fit transitions [] h = tt
waits_fit transitions (f ∷ fs) h = (h.0.0, waits_fit transitions fs h.1)

order_fit : (transitions : ℕ) (fs : List Firing) → Each (FiringFits transitions) fs → Each (λ t. t < transitions) (order_of fs)
unfolding order_of
order_fit transitions [] h = tt
order_fit transitions (f ∷ fs) h = (h.0.1, order_fit transitions fs h.1)

zip_fit : (transitions : ℕ) (ws order : List ℕ) → Waits ws → Each (λ t. t < transitions) order → Each (FiringFits transitions) (zip_firings ws order)
unfolding zip_firings
zip_fit transitions [] order h o = tt
zip_fit transitions (w ∷ ws) [] h o = tt
zip_fit transitions (w ∷ ws) (t ∷ order) h o = ((h.0, o.0), zip_fit transitions ws order h.1 o.1)

-- rounded down, no wait grows
rounded_fit : (D : ℕ) → 0 < D → (s : ℕ) (ws : List ℕ) → Waits ws → Waits (rounded_from D s ws)
unfolding rounded_from
rounded_fit D d s [] h = tt
rounded_fit D d s (w ∷ ws) h = (omega (arith, div_sum_le D d s w, h.0), rounded_fit D d (s + w) ws h.1)

-- the card of the rounded run passes where the run's does
pub rounded_checked : (sheet transitions : ℕ) (r : Run) → (run_card sheet transitions).check r 1 ≡ Passed → (run_card sheet transitions).check (rounded_run r) 1 ≡ Passed
unfolding rounded_run rounded_waits
rounded_checked sheet transitions r e =
    let f = (run_in_ranges sheet transitions r).0 e in
    let D = r.denominator in
    let fs = firings_of r in
    let d : 0 < D = f.some_parts in
    (run_in_ranges sheet transitions (rounded_run r)).1 (record {
      own = f.own;
      sheet_small = f.sheet_small;
      some_parts = omega arith;
      few_parts = omega arith;
      few = min-le_right r.count 64;
      each =
          rw (rounded_firings r)
          (zip_fit transitions (rounded_from D 0 (waits_of fs)) (order_of fs) (rounded_fit D d 0 (waits_of fs) (waits_fit transitions fs f.each))
          (order_fit transitions fs f.each));
      rest = omega (arith, div_sum_le D d (last_instant r) r.rest, f.rest);
    })

-- the card of a timetable passes where that of its order does and no wait is too long
pub timetable_checked : (sheet transitions : ℕ) (o : Order) (memory : Memory) (waits : List ℕ) → (order_card sheet transitions).check o 1 ≡ Passed
    → length waits ≡ length (fires_of o) → ((i : ℕ) → i < length waits → get_or waits i 0 ≤ 10000000)
    → (run_card sheet transitions).check (timetable_run o.sheet memory (fires_of o) waits) 1 ≡ Passed
unfolding timetable_run
timetable_checked sheet transitions o memory waits e size h =
    let order = fires_of o in
    let f = order_in_ranges sheet transitions o e in
    let few = fires_few o in
    (run_in_ranges sheet transitions (timetable_run o.sheet memory order waits)).1 (record {
      own = f.own;
      sheet_small = f.sheet_small;
      some_parts = omega arith;
      few_parts = omega arith;
      few = few;
      each = rw (timetable_firings o.sheet memory order waits size few) (zip_fit transitions waits order (each_of (λ w. w ≤ 10000000) 0 waits h) f.each);
      rest = omega arith;
    })

-- a timetable of at most 64 firings on a net where no lower bound is over 1,000 ticks
module _ (net : Net) (restarts : Restart) (order ws : List ℕ) (e : schedule net restarts order ≡ timed ws)
    (h : (t : ℕ) → t < (arcs_of net).transitions → (transition_at net t).earliest ≤ 1000) (few : length order ≤ 64) where
  -- no instant is over 64,000 ticks
  pub scheduled_within : (i : ℕ) → instants ws i ≤ 64000
  scheduled_within i =
      let size = (scheduled_timing net restarts order ws e).complete in
      let early = scheduled_early net restarts order ws e 1000 h in
      ⊎_elim (λ l. omega (arith, early i)) (λ l. omega (arith, instants_past ws i (omega arith), early (length ws))) (le_or_lt i (length ws))

  -- so no wait is too long
  pub scheduled_short : (i : ℕ) → i < length ws → get_or ws i 0 ≤ 10000000
  scheduled_short i l = omega (arith, wait_le ws i, scheduled_within (suc i))

-- the card of the timetable of an order passes where the order's does
pub scheduled_checked : (net : Net) (restarts : Restart) (o : Order) (ws : List ℕ) → schedule net restarts (fires_of o) ≡ timed ws
    → ((t : ℕ) → t < (arcs_of net).transitions → (transition_at net t).earliest ≤ 1000) → (order_card net.sheet net.transitions).check o 1 ≡ Passed
    → (run_card net.sheet net.transitions).check (timetable_run o.sheet o.memory (fires_of o) ws) 1 ≡ Passed
scheduled_checked net restarts o ws e h p =
    timetable_checked net.sheet net.transitions o o.memory ws p (scheduled_timing net restarts (fires_of o) ws e).complete
    (scheduled_short net restarts (fires_of o) ws e h (fires_few o))
