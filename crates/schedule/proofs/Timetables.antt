-- The windows of an order are measured from earlier firings, so that what is found for them as they stand in an array is the verdict on the order; and where
-- no instant is too large for a run, the run is the one of the earliest schedule.
use Rattle.reply.specs.Respond.{Checked, Passed}
use Prim.Native.Nat.{ℕ, suc, ◌+◌, ◌-◌, ◌≤◌, ◌<◌, min}
use native.Mathlib.Nat.{min-le_right}
use native.Mathlib.Numerals.{add-one}
use native.Mathlib.Omega.{arith}
use native.Mathlib.Decide.{dec_lt}
use mathlib.Core.Path.{◌≡◌, refl, sym, ap, ◌∙◌}
use mathlib.Core.List.{List}
use lib.ListN.{length, get_or, replicate, length-replicate, get_or-replicate, get_or-eq_default}
use lib.Seq.{ext_get_or}
use Rattle.laws.specs.Arrays.{filled, length_filled, filled_at, filled_past, filled_same}
use Rattle.laws.specs.Slots.{pad_to, length_first, length_pad, get_d_first, get_d_padded}
use Rattle.reply.specs.declared.Refusal.{Refusal}
use Rattle.reply.specs.declared.Refusal.TheVariants.{Untimable}
use Rattle.net.specs.declared.Net.{Net}
use Rattle.run.specs.declared.Firing.{Firing}
use Rattle.run.specs.declared.Order.{Order}
use Rattle.run.specs.declared.Run.{Run}
use Rattle.run.specs.Run.{no_firing, fires_of}
use Rattle.firing.specs.Semantics.{arcs_of, Restart, transition_at, rule_of, start_marking}
use Rattle.firing.specs.Tokens.{tokens}
use Rattle.timing.specs.declared.Window.{Window}
use Rattle.timing.specs.Timing.{Wellformed}
use Rattle.timing.specs.Windows.{no_window, windows, windows_of}
use Rattle.timing.specs.Solve.{Verdict, met_by, fails_at, solve_prefixes}
use Rattle.timing.specs.Claims.{Judges}
use Rattle.timing.specs.Schedule.{timed, verdict_of, waits_between, scheduled_by, schedule}
use Rattle.timing.specs.Rounding.{zip_firings, timetable_run}
use Rattle.timing.proofs.Solved.{prefixes_right, judge_unique, judges_windows}
use Rattle.timing.proofs.Order.{windows_wellformed}
use Rattle.timing.proofs.Instants.{length_between, between_entry, wait_le}
use Rattle.timing.proofs.Scheduled.{schedule_refused, schedule_passed, verdict_right}
use Rattle.timing.proofs.Rounded.{zip_entry, length_zip, fires_few, scheduled_within}
use Rattle.std.specs.Prelude.{Result, Ok, Err}
use Rattle.sweep.specs.Arrays.{earliest_by, clipped_at, earliest_of}
use Rattle.schedule.specs.Collect.{collected}
use Rattle.schedule.specs.Timetable.{timed_firing, timed_run, timetabled_by, timetabled_after, timetabled, scheduled_run}

-- ---- the verdict
module _ (net : Net) (o : Order) where
  abbrev rule : Restart
  rule = rule_of (arcs_of net) o.memory

  abbrev order : List ℕ
  order = fires_of o

  abbrev all : List Window
  all = windows_of net rule order

  counted : min o.count 64 ≡ length order
  unfolding fires_of
  counted = sym (length_first (min o.count 64) 0 o.fires)

  -- in the array the windows are the same
  same_window : (i : ℕ) → i < length order → clipped_at (pad_to 64 no_window all) i ≡ windows all i
  same_window i l =
      let e : get_or (pad_to 64 no_window all) i no_window ≡ get_or all i no_window = get_d_padded all (64 - length all) no_window i in
      let m : min (get_or all i no_window).origin i ≡ (get_or all i no_window).origin = omega (arith, windows_wellformed net rule order i l) in
      rw (e, m) refl

  earlier : Wellformed (clipped_at (pad_to 64 no_window all)) (length order)
  earlier i l = min-le_right (get_or (pad_to 64 no_window all) i no_window).origin i

  same_verdict : solve_prefixes 1 (clipped_at (pad_to 64 no_window all)) (length order) ≡ verdict_of net rule order
  unfolding verdict_of
  same_verdict =
      let U = clipped_at (pad_to 64 no_window all) in
      let W = windows all in
      let n = length order in
      judge_unique 1 W n (solve_prefixes 1 U n) (solve_prefixes 1 W n) (judges_windows 1 n same_window (solve_prefixes 1 U n) (prefixes_right 1 U n earlier))
      (prefixes_right 1 W n (windows_wellformed net rule order))

  -- what is found for the windows that are collected
  collected_earliest : earliest_of (pad_to 64 no_window all) o.count ≡ earliest_by (verdict_of net rule order)
  unfolding earliest_of
  collected_earliest = rw counted (ap earliest_by same_verdict)

-- ---- the run
padded_run : (o : Order) (x : List ℕ) → timed_run o (pad_to 65 0 x) ≡ timed_run o x
unfolding timed_run
padded_run o x =
    let p = get_d_padded x (65 - length x) 0 in
    rw (filled_same (timed_firing o (pad_to 65 0 x)) (timed_firing o x) (replicate 64 no_firing) (min o.count 64) (λ k l. rw (p k, p (k + 1)) refl)) refl

-- a run as what is told
abbrev as_timetable : Run → Result Run Refusal
as_timetable run = Ok run

-- the timetable at the instants that are found, or the refusal
abbrev pub answered : Order → Result (List ℕ) ℕ → Result Run Refusal
answered o (Ok x) = Ok (timed_run o x)
answered o (Err k) = Err (Untimable k)

answered_by : (o : Order) (v : Verdict) → answered o (earliest_by v) ≡ timetabled_by o v
answered_by o (met_by x) = ap as_timetable (padded_run o x)
answered_by o (fails_at k) = refl

module _ (net : Net) (o : Order) where
  -- the tokens forbid the order
  pub timetabled_refused : {r : Refusal} → collected net o ≡ Err r → Err r ≡ timetabled net o
  unfolding timetabled collected
  timetabled_refused {r} q = go (tokens net (fires_of o) (start_marking net) 0) refl
    where
      go : (c : Checked) → tokens net (fires_of o) (start_marking net) 0 ≡ c → Err r ≡ timetabled net o
      go Passed e = let h = rw e at q in let z : ◌≡◌ {A = ℕ} 0 1 = cc in absurd (omega arith)
      go (Err x) e = let h = rw e at q in let same : x ≡ r = cc in rw (e, same) refl

  -- the tokens allow the order
  pub timetabled_found : {ws : List Window} {e : Result (List ℕ) ℕ} → collected net o ≡ Ok ws → e ≡ earliest_of ws o.count → answered o e ≡ timetabled net o
  unfolding timetabled collected
  timetabled_found {ws} {e} p q = go (tokens net (fires_of o) (start_marking net) 0) refl
    where
      go : (c : Checked) → tokens net (fires_of o) (start_marking net) 0 ≡ c → answered o e ≡ timetabled net o
      go Passed h =
          let k = rw h at p in
          let same : pad_to 64 no_window (windows_of net (rule net o) (fires_of o)) ≡ ws = cc in
          let found : e ≡ earliest_by (verdict_of net (rule net o) (fires_of o)) = q ∙ rw (← same) (collected_earliest net o) in
          rw (h, found) (answered_by o (verdict_of net (rule net o) (fires_of o)))
      go (Err x) h = let k = rw h at p in let z : ◌≡◌ {A = ℕ} 0 1 = cc in absurd (omega arith)

-- ---- the run of instants that are not too large is that of the waits between them
module _ (o : Order) (x : List ℕ) (size : length x ≡ suc (length (fires_of o))) (small : (i : ℕ) → get_or x (suc i) 0 - get_or x i 0 ≤ 4294967295) where
  abbrev gs : List Firing
  gs = zip_firings (waits_between x) (fires_of o)

  same_length : length (waits_between x) ≡ length (fires_of o)
  same_length = length_between x (length (fires_of o)) size

  fires_length : length (fires_of o) ≡ min o.count 64
  unfolding fires_of
  fires_length = length_first (min o.count 64) 0 o.fires

  fires_at : (i : ℕ) → i < min o.count 64 → get_or (fires_of o) i 0 ≡ get_or o.fires i 0
  unfolding fires_of
  fires_at i l = get_d_first (min o.count 64) 0 o.fires i l

  entry_at : (i : ℕ) → i < min o.count 64 → get_or gs i no_firing ≡ timed_firing o x i
  entry_at i l =
      let e : get_or x (suc i) 0 - get_or x i 0 ≡ min (get_or x (suc i) 0 - get_or x i 0) 4294967295 = omega (arith, small i) in
      zip_entry (waits_between x) (fires_of o) i (omega (arith, same_length, fires_length)) same_length
      ∙ rw (between_entry x i (omega (arith, fires_length)), fires_at i l, add-one i) (ap (λ (w : ℕ). record { wait = w; fire = get_or o.fires i 0 }) e)

  pub timed_scheduled : timed_run o x ≡ timetable_run o.sheet o.memory (fires_of o) (waits_between x)
  unfolding timed_run timetable_run
  timed_scheduled =
      let n = min o.count 64 in
      let long : length gs ≡ n = length_zip (waits_between x) (fires_of o) same_length ∙ fires_length in
      let l = filled (timed_firing o x) n (replicate 64 no_firing) in
      let full : length l ≡ 64 = length_filled (timed_firing o x) (replicate 64 no_firing) n ∙ length-replicate 64 no_firing in
      let few : n ≤ 64 = min-le_right o.count 64 in
      let same : l ≡ pad_to 64 no_firing gs =
      ext_get_or no_firing l (pad_to 64 no_firing gs) (full ∙ sym (length_pad 64 no_firing gs (omega arith))) (λ i b. at i (omega arith) (dec_lt i n)) in
      rw (same, fires_length) refl
    where
      at : (i : ℕ) → i < 64 → Dec (i < min o.count 64)
          → get_or (filled (timed_firing o x) (min o.count 64) (replicate 64 no_firing)) i no_firing ≡ get_or (pad_to 64 no_firing gs) i no_firing
      at i b (yes l) =
          filled_at (timed_firing o x) (replicate 64 no_firing) no_firing (min o.count 64) i l (omega (arith, length-replicate 64 no_firing))
          ∙ sym (entry_at i l) ∙ sym (get_d_padded gs (64 - length gs) no_firing i)
      at i b (no l) =
          filled_past (timed_firing o x) (replicate 64 no_firing) no_firing (min o.count 64) i (omega arith)
          ∙ get_or-replicate 64 i no_firing no_firing b
          ∙ sym (get_d_padded gs (64 - length gs) no_firing i ∙ get_or-eq_default gs no_firing {n = i}
          (omega (arith, length_zip (waits_between x) (fires_of o) same_length, fires_length)))

-- ---- on a net with lower bounds of at most 1,000 ticks the timetable is that of the schedule
module _ (net : Net) (o : Order) (h : (t : ℕ) → t < (arcs_of net).transitions → (transition_at net t).earliest ≤ 1000) where
  waits_small : (x : List ℕ) → length x ≡ suc (length (fires_of o)) → schedule net (rule net o) (fires_of o) ≡ timed (waits_between x)
      → (i : ℕ) → get_or x (suc i) 0 - get_or x i 0 ≤ 4294967295
  waits_small x size e i = go (dec_lt (suc i) (length x))
    where
      go : Dec (suc i < length x) → get_or x (suc i) 0 - get_or x i 0 ≤ 4294967295
      go (yes l) =
          omega (
            arith,
            between_entry x i l,
            wait_le (waits_between x) i,
            scheduled_within net (rule net o) (fires_of o) (waits_between x) e h (fires_few o) (suc i),
          )
      go (no l) = omega (arith, get_or-eq_default x 0 {n = suc i} (omega arith))

  by_verdict : tokens net (fires_of o) (start_marking net) 0 ≡ Passed → (v : Verdict) → verdict_of net (rule net o) (fires_of o) ≡ v
      → Judges 1 (windows (windows_of net (rule net o) (fires_of o))) (length (fires_of o)) v → timetabled_by o v ≡ scheduled_run o (scheduled_by v)
  by_verdict e (met_by x) q j =
      let timely = schedule_passed net (rule net o) (fires_of o) e ∙ ap scheduled_by q in
      ap as_timetable (timed_scheduled o x j.size (waits_small x j.size timely))
  by_verdict e (fails_at k) q j = refl

  pub timetabled_scheduled : timetabled net o ≡ scheduled_run o (schedule net (rule net o) (fires_of o))
  unfolding timetabled
  timetabled_scheduled = go (tokens net (fires_of o) (start_marking net) 0) refl
    where
      go : (c : Checked) → tokens net (fires_of o) (start_marking net) 0 ≡ c
          → timetabled_after o c (verdict_of net (rule net o) (fires_of o)) ≡ scheduled_run o (schedule net (rule net o) (fires_of o))
      go Passed e =
          by_verdict e (verdict_of net (rule net o) (fires_of o)) refl (verdict_right net (rule net o) (fires_of o))
          ∙ ap (scheduled_run o) (sym (schedule_passed net (rule net o) (fires_of o) e))
      go (Err r) e = ap (scheduled_run o) (sym (schedule_refused net (rule net o) (fires_of o) r e))
