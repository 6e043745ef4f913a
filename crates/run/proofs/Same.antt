-- What was read back is the same run, or the same order: cleaning changes no slot that counts, and nothing where the others hold the filler.
-- And runs, or orders, that agree in all that counts are checked alike.
use Prim.Native.Nat.{ℕ, ◌≤◌, min}
use native.Mathlib.Nat.{min-eq_left}
use native.Mathlib.Omega.{arith}
use mathlib.Core.Path.{◌≡◌, refl, ap, ◌∙◌}
use mathlib.Core.List.{List, map, map-id}
use lib.ListN.{length}
use Rattle.laws.specs.Slots.{first_of, pad_to, first_same, first_pad, get_d_changed}
use Rattle.form.specs.Form.{times}
use Rattle.form.proofs.Same.{exactly_same, clean_check}
use Rattle.run.specs.declared.Firing.{Firing}
use Rattle.run.specs.declared.Run.{Run}
use Rattle.run.specs.declared.Order.{Order}
use Rattle.run.specs.Run.{fire, no_firing, firing, to_run, run_card, to_order, order_card, firings_of, fires_of}
use Rattle.run.specs.Same.{SameRun, SameOrder}
use Rattle.run.proofs.Card.{run_format, order_format}

pub run_same : (sheet transitions : ℕ) (r : Run) → r.count ≤ 64 → SameRun ((run_card sheet transitions).clean r) r
run_same sheet transitions r few =
    record {
      sheet = refl;
      memory = refl;
      denominator = refl;
      count = refl;
      firings = λ i h. get_d_changed (firing transitions).clean (min r.count 64) 64 no_firing r.firings i (omega (arith, min-eq_left few));
      rest = refl;
    }

pub order_same : (sheet transitions : ℕ) (o : Order) → o.count ≤ 64 → SameOrder ((order_card sheet transitions).clean o) o
order_same sheet transitions o few =
    record {
      sheet = refl;
      memory = refl;
      count = refl;
      fires = λ i h. get_d_changed (λ (n : ℕ). n) (min o.count 64) 64 0 o.fires i (omega (arith, min-eq_left few));
    }

-- runs that are the same have the same firings, and orders the same fired transitions
pub same_firings : {r q : Run} → SameRun r q → firings_of r ≡ firings_of q
unfolding firings_of
same_firings {r} {q} same = rw same.count (first_same (min q.count 64) no_firing r.firings q.firings (λ i h. same.firings i (omega arith)))

pub same_fires : {o q : Order} → SameOrder o q → fires_of o ≡ fires_of q
unfolding fires_of
same_fires {o} {q} same = rw same.count (first_same (min q.count 64) 0 o.fires q.fires (λ i h. same.fires i (omega arith)))

-- a run whose slots past the count hold the filler is read back as it is
pub run_clean : (sheet transitions : ℕ) (r : Run) (fs : List Firing) → length fs ≡ r.count → r.count ≤ 64 → r.firings ≡ pad_to 64 no_firing fs
    → (run_card sheet transitions).clean r ≡ r
run_clean sheet transitions r fs n few e =
    let count = r.count in
    let all = min-eq_left few in
    let found = ap (first_of count no_firing) e ∙ first_pad count 64 no_firing fs n in
    let same : pad_to 64 no_firing (map (firing transitions).clean (first_of (min count 64) no_firing r.firings)) ≡ r.firings =
    rw (all, found, map-id fs, e) refl in
    λ i. record { sheet = r.sheet; memory = r.memory; denominator = r.denominator; count = count; firings = same i; rest = r.rest }

-- ---- runs and orders that agree in all that counts
module _ (sheet transitions : ℕ) {a b : Run} (w : SameRun a b) where
  pub same_run_clean : (run_card sheet transitions).clean a ≡ (run_card sheet transitions).clean b
  same_run_clean =
      let same = exactly_same (min b.count 64) 64 no_firing (firing transitions) a.firings b.firings (λ i h. w.firings i (omega arith)) in
      (λ k. to_run (w.sheet k, (w.memory k, (w.denominator k, (w.count k, ((times (w.count k) 64 no_firing (firing transitions)).clean a.firings, w.rest k))))))
      ∙ (λ k. to_run (b.sheet, (b.memory, (b.denominator, (b.count, (same k, b.rest))))))

  pub same_run_check : (line : ℕ) → (run_card sheet transitions).check a line ≡ (run_card sheet transitions).check b line
  same_run_check = clean_check (run_format sheet transitions).settled same_run_clean

module _ (sheet transitions : ℕ) {a b : Order} (w : SameOrder a b) where
  pub same_order_clean : (order_card sheet transitions).clean a ≡ (order_card sheet transitions).clean b
  same_order_clean =
      let same = exactly_same (min b.count 64) 64 0 (fire transitions) a.fires b.fires (λ i h. w.fires i (omega arith)) in
      (λ k. to_order (w.sheet k, (w.memory k, (w.count k, (times (w.count k) 64 0 (fire transitions)).clean a.fires))))
      ∙ (λ k. to_order (b.sheet, (b.memory, (b.count, same k))))

  pub same_order_check : (line : ℕ) → (order_card sheet transitions).check a line ≡ (order_card sheet transitions).check b line
  same_order_check = clean_check (order_format sheet transitions).settled same_order_clean
