-- What an open record says of its run, and a step's check of the record: each is a test or a check whose parts all passed.
use Rattle.reply.specs.Respond.{Checked, Passed}
use Rattle.std.specs.Prelude.{Err}
use Prim.Native.Nat.{ℕ, suc, ◌+◌, ◌≤◌, ◌<◌, min}
use native.Mathlib.Nat.{min-eq_left}
use native.Mathlib.Omega.{arith}
use mathlib.Core.Path.{◌≡◌, refl}
use mathlib.Core.Bool.{Bool, true, false, cond, ◌&&◌, ◌||◌, and-eq-true_iff}
use mathlib.Core.Logic.{◌↔◌}
use mathlib.Core.List.{List, [], ◌∷◌, ◌++◌}
use lib.ListN.{length, get_or}
use lib.Dec.{ltb, eqb}
use borrow.Author.Tests.{lt-ltb, le-ltb, ltb-false, eqb-true, eq-eqb}
use Rattle.laws.specs.Tests.{all_at, all_each}
use Rattle.laws.specs.Each.{each_append, each_last}
use Rattle.laws.specs.Slots.{first_set}
use Rattle.reply.specs.declared.Refusal.TheVariants.{ClosedRun}
use Rattle.form.specs.Line.{ranged, listed}
use Rattle.form.proofs.Found.{also_first, also_second}
use Rattle.form.proofs.Lines.{ranged_within}
use Rattle.net.specs.declared.Net.{Net}
use Rattle.net.specs.Net.{net_card}
use Rattle.run.specs.declared.Firing.{Firing}
use Rattle.run.specs.declared.Run.{Run}
use Rattle.run.specs.Run.{no_firing, run_card, firings_of}
use Rattle.run.proofs.Ranges.{ranged_passes, listed_within, FiringFits, RunFits, run_in_ranges}
use Rattle.firing.specs.Replay.{replay}
use Rattle.cards.specs.Cards.{card_of, run_checked}
use Rattle.cards.proofs.Cards.{run_counts}
use Rattle.operations.specs.Replay.{replayed}
use Rattle.open_run.specs.declared.OpenRun.{OpenRun}
use Rattle.open_run.specs.Open.{passes, blank, blank_behind, is_open, still, wait_added, fire_added, wait_checked, fire_checked}

-- ---- tests
passes_passed : (c : Checked) → passes c ≡ true → c ≡ Passed
passes_passed Passed e = refl
passes_passed (Err r) e = let z : ◌≡◌ {A = ℕ} 0 1 = cc in absurd (omega arith)

-- ---- an open record
-- the parts of the test
pub record Parts (r : OpenRun) : Type 0 where
  pub running : r.running ≡ true
  pub checked : run_checked r.net r.run ≡ Passed
  pub accepted : replayed r.net r.run ≡ Passed
  pub slots : length r.run.firings ≡ 64
  pub blank : blank_behind r.run ≡ true

pub open_parts : (r : OpenRun) → (is_open r ≡ true) ↔ Parts r
unfolding is_open
open_parts r =
    let a = passes (run_checked r.net r.run) in
    let b = passes (replayed r.net r.run) in
    let c = eqb (length r.run.firings) 64 in
    let d = blank_behind r.run in (
      λ e.
          let e₁ = (and-eq-true_iff r.running (a && (b && (c && d)))).0 e in
          let e₂ = (and-eq-true_iff a (b && (c && d))).0 e₁.1 in
          let e₃ = (and-eq-true_iff b (c && d)).0 e₂.1 in
          let e₄ = (and-eq-true_iff c d).0 e₃.1 in
          record {
            running = e₁.0;
            checked = passes_passed (run_checked r.net r.run) e₂.0;
            accepted = passes_passed (replayed r.net r.run) e₃.0;
            slots = eqb-true (length r.run.firings) 64 e₄.0;
            blank = e₄.1;
          },
      λ p. rw (p.running, p.checked, p.accepted, eq-eqb (length r.run.firings) 64 p.slots) p.blank,
    )

module _ (r : OpenRun) where
  pub still_open : still r ≡ Passed → is_open r ≡ true
  still_open = go (is_open r)
    where
      go : (b : Bool) → cond b Passed (Err ClosedRun) ≡ Passed → b ≡ true
      go true e = refl
      go false e = let z : ◌≡◌ {A = ℕ} 0 1 = cc in absurd (omega arith)

  pub open_still : is_open r ≡ true → still r ≡ Passed
  open_still e = rw e refl

  pub closed_still : is_open r ≡ false → still r ≡ Err ClosedRun
  closed_still e = rw e refl

  module _ (o : is_open r ≡ true) where
    -- the numbers of its run lie in their ranges
    pub open_fits : RunFits r.net.sheet r.net.transitions r.run
    open_fits =
        let p = (open_parts r).0 o in
        (run_in_ranges r.net.sheet r.net.transitions r.run).0 (also_second (net_card.check r.net 1) _ p.checked)

    pub open_net : net_card.check r.net 1 ≡ Passed
    open_net = also_first (net_card.check r.net 1) ((card_of run_card r.net).check r.run 1) ((open_parts r).0 o).checked

    pub open_few : r.net.transitions ≤ 32
    open_few = (run_counts r.net r.run ((open_parts r).0 o).checked).1

-- a run whose numbers lie in their ranges passes on a net that does
pub fits_checked : (net : Net) (q : Run) → net_card.check net 1 ≡ Passed → RunFits net.sheet net.transitions q → run_checked net q ≡ Passed
fits_checked net q n f = rw n ((run_in_ranges net.sheet net.transitions q).1 f)

-- ---- the run with a wait added
module _ (r : OpenRun) (w : ℕ) where
  pub wait_fits : wait_checked r w ≡ Passed → (is_open r ≡ true) × (r.run.rest + w ≤ 10000000)
  wait_fits e =
      let sum = ranged 0 10000000 (r.run.rest + w) (suc r.run.count) in
      (still_open r (also_first (still r) sum e), (ranged_within 0 10000000 (r.run.rest + w) (suc r.run.count) (also_second (still r) sum e)).1)

  pub wait_passes : is_open r ≡ true → r.run.rest + w ≤ 10000000 → wait_checked r w ≡ Passed
  wait_passes o h = rw (open_still r o) (ranged_passes 0 10000000 (r.run.rest + w) (suc r.run.count) (omega arith) h)

-- a run with another rest
pub firings_waited : (q : Run) (w : ℕ) → firings_of (wait_added q w) ≡ firings_of q
unfolding firings_of
firings_waited q w = refl

pub replayed_waited : (net : Net) (q : Run) (w : ℕ) → replayed net (wait_added q w) ≡ replayed net q
unfolding replay firings_of
replayed_waited net q w = refl

pub blank_waited : (q : Run) (w : ℕ) → blank_behind (wait_added q w) ≡ blank_behind q
unfolding blank_behind
blank_waited q w = refl

pub fits_waited : (sheet transitions : ℕ) (q : Run) (w : ℕ) → RunFits sheet transitions q → q.rest + w ≤ 10000000
    → RunFits sheet transitions (wait_added q w)
fits_waited sheet transitions q w f h =
    record {
      own = f.own;
      sheet_small = f.sheet_small;
      some_parts = f.some_parts;
      few_parts = f.few_parts;
      few = f.few;
      each = rw (firings_waited q w) f.each;
      rest = h;
    }

pub wait_card : (r : OpenRun) (w : ℕ) → wait_checked r w ≡ Passed → run_checked r.net (wait_added r.run w) ≡ Passed
wait_card r w e =
    let (o, h) = wait_fits r w e in
    fits_checked r.net (wait_added r.run w) (open_net r o) (fits_waited r.net.sheet r.net.transitions r.run w (open_fits r o) h)

-- ---- the run with a firing added
module _ (q : Run) (t : ℕ) where
  abbrev pub added : Firing
  added = record { wait = q.rest; fire = t }

  pub firings_fired : q.count < 64 → length q.firings ≡ 64 → firings_of (fire_added q t) ≡ firings_of q ++ (added ∷ [])
  unfolding firings_of
  firings_fired few slots =
      let now : min q.count 64 ≡ q.count = min-eq_left (omega arith) in
      let then : min (suc q.count) 64 ≡ suc q.count = min-eq_left (omega arith) in
      rw (now, then) (first_set q.count no_firing added q.firings (omega arith))

  pub fits_fired : (sheet transitions : ℕ) → q.count < 64 → length q.firings ≡ 64 → RunFits sheet transitions q
      → RunFits sheet transitions (fire_added q t) ↔ (t < transitions)
  fits_fired sheet transitions few slots f =
      let all = firings_fired few slots in (
        λ g. (each_last (FiringFits transitions) (firings_of q) added (rw all at g.each)).1,
        λ h.
            record {
              own = f.own;
              sheet_small = f.sheet_small;
              some_parts = f.some_parts;
              few_parts = f.few_parts;
              few = omega arith;
              each = rw all (each_append (FiringFits transitions) (firings_of q) (added ∷ []) f.each ((f.rest, h), tt));
              rest = omega arith;
            },
      )

module _ (r : OpenRun) (t : ℕ) where
  pub fire_fits : fire_checked r t ≡ Passed
      → (is_open r ≡ true) × (r.run.count < 64) × (t < r.net.transitions) × (replayed r.net (fire_added r.run t) ≡ Passed)
  fire_fits e =
      let N = r.run.count in
      let e₁ = also_second (still r) _ e in
      let e₂ = also_second (ranged 0 63 N (suc N)) _ e₁ in
      let few = (ranged_within 0 63 N (suc N) (also_first (ranged 0 63 N (suc N)) _ e₁)).1 in (
        still_open r (also_first (still r) _ e),
        omega arith,
        listed_within r.net.transitions t (suc N) (also_first (listed r.net.transitions t (suc N)) _ e₂),
        also_second (listed r.net.transitions t (suc N)) _ e₂,
      )

  pub fire_passes : is_open r ≡ true → r.run.count < 64 → t < r.net.transitions
      → fire_checked r t ≡ replayed r.net (fire_added r.run t)
  fire_passes o few h =
      let N = r.run.count in
      rw (open_still r o, ranged_passes 0 63 N (suc N) (omega arith) (omega arith), lt-ltb t r.net.transitions h) refl

-- ---- nothing past the count
-- slot by slot
abbrev pub BlankFrom : List Firing → ℕ → Type 0
BlankFrom l n = (i : ℕ) → n ≤ i → i < 64 → get_or l i no_firing ≡ no_firing

blank_one : (f : Firing) → (blank f ≡ true) ↔ (f ≡ no_firing)
blank_one f = (
  λ e.
      let h = (and-eq-true_iff (eqb f.wait 0) (eqb f.fire 0)).0 e in
      let w = eqb-true f.wait 0 h.0 in
      let t = eqb-true f.fire 0 h.1 in
      λ k. record { wait = w k; fire = t k },
  λ e. rw e refl,
)

pub blank_exactly : (q : Run) → (blank_behind q ≡ true) ↔ BlankFrom q.firings q.count
unfolding blank_behind
blank_exactly q = (
  λ e i h l. (blank_one (get_or q.firings i no_firing)).0 (rw (le-ltb i q.count h) at (all_at test i 64 e l)),
  λ h. all_each test 64 (λ i l. go i l (ltb i q.count) refl h),
)
  where
    test : ℕ → Bool
    test i = ltb i q.count || blank (get_or q.firings i no_firing)

    go : (i : ℕ) → i < 64 → (b : Bool) → ltb i q.count ≡ b → BlankFrom q.firings q.count → test i ≡ true
    go i l true e h = rw e refl
    go i l false e h = rw e ((blank_one (get_or q.firings i no_firing)).1 (h i (ltb-false i q.count e) l))
