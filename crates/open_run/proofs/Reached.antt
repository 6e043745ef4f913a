-- A record is open exactly if opening and accepted steps leave it: each of them leaves an open record, and an open record is made again by a wait and a firing
-- for each firing that it holds, and a wait at last.
use Rattle.reply.specs.Respond.{Passed}
use Prim.Native.Nat.{ℕ, zero, suc, ◌+◌, ◌-◌, ◌≤◌, ◌<◌, min}
use native.Mathlib.Nat.{min-eq_left, le_refl}
use native.Mathlib.Numerals.{add-one}
use native.Mathlib.Omega.{arith}
use mathlib.Core.Path.{◌≡◌, refl, sym, ap, subst, ◌∙◌}
use mathlib.Core.Bool.{true}
use mathlib.Core.Logic.{◌↔◌, ◌⊎◌, inl, inr}
use mathlib.Core.List.{List}
use lib.ListN.{length, get_or, set, take, get_or-eq_default}
use lib.Seq.{ext_get_or, length-take-le, take_all}
use Rattle.laws.specs.Sums.{le_or_lt}
use Rattle.laws.specs.Each.{each_at}
use Rattle.laws.specs.Slots.{pad_to, length_pad, first_pad, get_d_padded, pad_next}
use Rattle.run.specs.declared.Firing.{Firing}
use Rattle.run.specs.declared.Run.{Run}
use Rattle.run.specs.Run.{no_firing, firings_of}
use Rattle.run.proofs.Firings.{length_firings, firing_at}
use Rattle.run.proofs.Ranges.{FiringFits}
use Rattle.firing.specs.Semantics.{arcs_of, rule_of}
use Rattle.firing.specs.Replay.{start_state, play, replay}
use Rattle.timing.proofs.Markings.{play_prefix}
use Rattle.operations.specs.Replay.{replayed}
use Rattle.open_run.specs.declared.OpenRun.{OpenRun}
use Rattle.open_run.specs.Open.{blank_behind, is_open, with_run, halted, opened, wait_added, fire_added, open_checked, wait_checked, fire_checked}
use Rattle.open_run.specs.Claims.{Reachable, opening, waiting, firing}
use Rattle.open_run.proofs.Opened.{open_parts, open_fits, open_net, wait_passes, fire_passes, blank_exactly}
use Rattle.open_run.proofs.Accepted.{entering_accepts, entering_told, opened_exactly, open_opened, open_waited, open_fired}

-- ---- what is left is open
pub reached_open : (r : OpenRun) → Reachable r → is_open r ≡ true
reached_open r (opening net memory D e) =
    let (p, same) = entering_accepts (halted (opened net memory D)) (opened net memory D) (open_checked net D) e in
    rw same (open_opened net D memory p)
reached_open r (waiting q w h e) =
    let (p, same) = entering_accepts q (with_run q (wait_added q.run w)) (wait_checked q w) e in
    rw same (open_waited q w p)
reached_open r (firing q t h e) =
    let (p, same) = entering_accepts q (with_run q (fire_added q.run t)) (fire_checked q t) e in
    rw same (open_fired q t p)

-- ---- an open record's array: its firings, and nothing behind them
pub open_padded : (q : Run) → q.count ≤ 64 → length q.firings ≡ 64 → blank_behind q ≡ true → q.firings ≡ pad_to 64 no_firing (firings_of q)
open_padded q few slots blank =
    let fs = firings_of q in
    let many : length fs ≡ q.count = length_firings q ∙ min-eq_left few in
    ext_get_or no_firing q.firings (pad_to 64 no_firing fs) (slots ∙ sym (length_pad 64 no_firing fs (omega arith))) (λ i l. go i (omega arith) (le_or_lt q.count i))
  where
    go : (i : ℕ) → i < 64 → (q.count ≤ i) ⊎ (i < q.count) → get_or q.firings i no_firing ≡ get_or (pad_to 64 no_firing (firings_of q)) i no_firing
    go i l (inl past) =
        let many : length (firings_of q) ≡ q.count = length_firings q ∙ min-eq_left few in
        (blank_exactly q).0 blank i past l
        ∙ sym (get_d_padded (firings_of q) (64 - length (firings_of q)) no_firing i ∙ get_or-eq_default (firings_of q) no_firing {n = i} (omega arith))
    go i l (inr inside) =
        let here : i < min q.count 64 = rw (min-eq_left few) inside in
        sym (get_d_padded (firings_of q) (64 - length (firings_of q)) no_firing i ∙ firing_at q i here)

-- ---- and is made again
module _ (r : OpenRun) (o : is_open r ≡ true) where
  abbrev fs : List Firing
  fs = firings_of r.run

  -- the record after the first i firings
  abbrev run_after : ℕ → Run
  run_after i =
      record {
        sheet = r.net.sheet;
        memory = r.run.memory;
        denominator = r.run.denominator;
        count = i;
        firings = pad_to 64 no_firing (take i fs);
        rest = 0;
      }

  abbrev after : ℕ → OpenRun
  after i = record { net = r.net; run = run_after i; running = true }

  many : length fs ≡ r.run.count
  many = length_firings r.run ∙ min-eq_left (open_fits r o).few

  few : length fs ≤ 64
  few = omega (arith, many, (open_fits r o).few)

  firings_after : (i : ℕ) → i ≤ length fs → firings_of (run_after i) ≡ take i fs
  unfolding firings_of
  firings_after i h =
      let so-many : min i 64 ≡ i = min-eq_left (omega (arith, few)) in
      rw so-many (first_pad i 64 no_firing (take i fs) (length-take-le i fs h))

  -- each part of the run from its start passes its replay
  replayed_after : (i : ℕ) → i ≤ length fs → replayed r.net (run_after i) ≡ Passed
  unfolding replay
  replayed_after i h =
      let rule = rule_of (arcs_of r.net) r.run.memory in
      let D = r.run.denominator in
      ap (λ (l : List Firing). (play r.net rule D l (start_state r.net) 0).checked) (firings_after i h)
      ∙ play_prefix r.net rule D i fs (start_state r.net) 0 ((open_parts r).0 o).accepted

  -- a wait and a firing more
  abbrev next : ℕ → Firing
  next i = get_or fs i no_firing

  run_more : (i : ℕ) → i < length fs → fire_added (wait_added (run_after i) (next i).wait) (next i).fire ≡ run_after (suc i)
  run_more i h =
      let same : set (pad_to 64 no_firing (take i fs)) i (next i) ≡ pad_to 64 no_firing (take (suc i) fs) =
      pad_next 64 no_firing fs i h few ∙ rw add-one refl in
      let sum : 0 + (next i).wait ≡ (next i).wait = omega arith in
      (λ k.
      record {
        sheet = r.net.sheet;
        memory = r.run.memory;
        denominator = r.run.denominator;
        count = suc i;
        firings = set (pad_to 64 no_firing (take i fs)) i (record { wait = sum k; fire = (next i).fire });
        rest = 0;
      })
      ∙ (λ k.
      record {
        sheet = r.net.sheet;
        memory = r.run.memory;
        denominator = r.run.denominator;
        count = suc i;
        firings = same k;
        rest = 0;
      })

  waited_on : (q : OpenRun) (w : ℕ) → Reachable q → q.run.rest + w ≤ 10000000 → Reachable (with_run q (wait_added q.run w))
  waited_on q w h l =
      let c = entering_told q (with_run q (wait_added q.run w)) (wait_checked q w) ∙ wait_passes q w (reached_open q h) l in
      subst Reachable (entering_accepts q (with_run q (wait_added q.run w)) (wait_checked q w) c).1 (waiting q w h c)

  fired_on : (q : OpenRun) (t : ℕ) → Reachable q → fire_checked q t ≡ Passed → Reachable (with_run q (fire_added q.run t))
  fired_on q t h e =
      let c = entering_told q (with_run q (fire_added q.run t)) (fire_checked q t) ∙ e in
      subst Reachable (entering_accepts q (with_run q (fire_added q.run t)) (fire_checked q t) c).1 (firing q t h c)

  reach : (i : ℕ) → i ≤ length fs → Reachable (after i)
  reach zero h =
      let net = r.net in
      let memory = r.run.memory in
      let D = r.run.denominator in
      let f = open_fits r o in
      let c = entering_told (halted (opened net memory D)) (opened net memory D) (open_checked net D)
      ∙ (opened_exactly net D).1 (open_net r o, f.some_parts, f.few_parts) in
      subst Reachable (entering_accepts (halted (opened net memory D)) (opened net memory D) (open_checked net D) c).1 (opening net memory D c)
  reach (suc i) h =
      let inside : i < length fs = h in
      let fits = each_at (FiringFits r.net.transitions) no_firing fs (open_fits r o).each i inside in
      let q = with_run (after i) (wait_added (run_after i) (next i).wait) in
      let waited = waited_on (after i) (next i).wait (reach i (omega arith)) (omega (arith, fits.0)) in
      let passes = fire_passes q (next i).fire (reached_open q waited) (omega (arith, few)) fits.1
      ∙ ap (replayed r.net) (run_more i inside) ∙ replayed_after (suc i) h in
      subst (λ (x : Run). Reachable (record { net = r.net; run = x; running = true })) (run_more i inside) (fired_on q (next i).fire waited passes)

  pub open_reached : Reachable r
  open_reached =
      let p = (open_parts r).0 o in
      let f = open_fits r o in
      let n = length fs in
      let last = waited_on (after n) r.run.rest (reach n (le_refl n)) (omega (arith, f.rest)) in
      let all = ap (pad_to 64 no_firing) (take_all n fs (le_refl n)) ∙ sym (open_padded r.run f.few p.slots p.blank) in
      let sum : 0 + r.run.rest ≡ r.run.rest = omega arith in
      let same : with_run (after n) (wait_added (run_after n) r.run.rest) ≡ r =
      λ k.
      record {
        net = r.net;
        run = record {
          sheet = sym f.own k;
          memory = r.run.memory;
          denominator = r.run.denominator;
          count = many k;
          firings = all k;
          rest = sum k;
        };
        running = sym p.running k;
      } in
      subst Reachable same last

pub reachable_exactly : (r : OpenRun) → (is_open r ≡ true) ↔ Reachable r
reachable_exactly r = (open_reached r, reached_open r)
