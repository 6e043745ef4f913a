-- A run card, and an order card, passes its check exactly when it is on its net's sheet and each of its numbers lies in its range.
use Rattle.reply.specs.Respond.{Passed}
use Prim.Native.Nat.{ℕ, ◌+◌, ◌≤◌, ◌<◌}
use native.Mathlib.Omega.{arith}
use mathlib.Core.Path.{◌≡◌, refl}
use mathlib.Core.Logic.{◌↔◌}
use mathlib.Core.List.{List, [], ◌∷◌}
use lib.Dec.{ltb}
use borrow.Author.Tests.{le-leb, lt-ltb, ltb-true}
use Rattle.laws.specs.Each.{Each}
use Rattle.reply.specs.declared.Refusal.TheVariants.{NoSuchTransition}
use Rattle.form.specs.Form.{checks}
use Rattle.form.specs.Line.{ranged, listed}
use Rattle.form.proofs.Found.{also_first, also_second, checks_each, test_passed}
use Rattle.form.specs.Sheet.{sheet_checked}
use Rattle.form.proofs.Lines.{ranged_within}
use Rattle.form.proofs.Sheets.{sheet_within, sheet_same, own_sheet}
use Rattle.run.specs.declared.Firing.{Firing}
use Rattle.run.specs.declared.Run.{Run}
use Rattle.run.specs.declared.Order.{Order}
use Rattle.run.specs.Run.{fire, firing, run_card, order_card, firings_of, fires_of}

pub ranged_passes : (low high n line : ℕ) → low ≤ n → n ≤ high → ranged low high n line ≡ Passed
ranged_passes low high n line a b = rw (le-leb low n a, le-leb n high b) refl

pub listed_within : (transitions n line : ℕ) → listed transitions n line ≡ Passed → n < transitions
listed_within transitions n line e = ltb-true n transitions (test_passed (ltb n transitions) (NoSuchTransition line) e)

-- a firing whose numbers lie in their ranges
abbrev pub FiringFits : ℕ → Firing → Type 0
FiringFits transitions f = (f.wait ≤ 10000000) × (f.fire < transitions)

module _ (transitions : ℕ) where
  firings_fit : (l : List Firing) (line : ℕ) → checks (firing transitions) l line ≡ Passed → Each (FiringFits transitions) l
  firings_fit =
      checks_each (firing transitions) (FiringFits transitions) (λ f line e.
      let wait = ranged 0 10000000 f.wait line in
      let fired = listed transitions f.fire (line + 1) in
      ((ranged_within 0 10000000 f.wait line (also_first wait fired e)).1, listed_within transitions f.fire (line + 1) (also_second wait fired e)))

  firings_pass : (l : List Firing) (line : ℕ) → Each (FiringFits transitions) l → checks (firing transitions) l line ≡ Passed
  unfolding checks
  firings_pass [] line h = refl
  firings_pass (f ∷ l) line h =
      rw (ranged_passes 0 10000000 f.wait line (omega arith) h.0.0, lt-ltb f.fire transitions h.0.1) (firings_pass l (line + 2) h.1)

  fires_fit : (l : List ℕ) (line : ℕ) → checks (fire transitions) l line ≡ Passed → Each (λ t. t < transitions) l
  fires_fit = checks_each (fire transitions) (λ t. t < transitions) (listed_within transitions)

  fires_pass : (l : List ℕ) (line : ℕ) → Each (λ t. t < transitions) l → checks (fire transitions) l line ≡ Passed
  unfolding checks
  fires_pass [] line h = refl
  fires_pass (t ∷ l) line h = rw (lt-ltb t transitions h.0) (fires_pass l (line + 1) h.1)

-- a run on a net's sheet whose numbers lie in their ranges
pub record RunFits (sheet transitions : ℕ) (r : Run) : Type 0 where
  pub own : r.sheet ≡ sheet
  pub sheet_small : sheet ≤ 9999
  pub some_parts : 1 ≤ r.denominator
  pub few_parts : r.denominator ≤ 1000
  pub few : r.count ≤ 64
  pub each : Each (FiringFits transitions) (firings_of r)
  pub rest : r.rest ≤ 10000000

-- and such an order
pub record OrderFits (sheet transitions : ℕ) (o : Order) : Type 0 where
  pub own : o.sheet ≡ sheet
  pub sheet_small : sheet ≤ 9999
  pub few : o.count ≤ 64
  pub each : Each (λ t. t < transitions) (fires_of o)

module _ (sheet transitions : ℕ) where
  pub run_in_ranges : (r : Run) → ((run_card sheet transitions).check r 1 ≡ Passed) ↔ RunFits sheet transitions r
  unfolding firings_of
  run_in_ranges r =
      let first = sheet_checked sheet r.sheet 1 in
      let denominator = ranged 1 1000 r.denominator 3 in
      let count = ranged 0 64 r.count 4 in
      let firings = checks (firing transitions) (firings_of r) 5 in (
        λ e.
            let behind = also_second first _ e in
            let later = also_second denominator _ behind in
            let last = also_second count _ later in
            let own = sheet_same sheet r.sheet 1 (also_first first _ e) in
            let parts = ranged_within 1 1000 r.denominator 3 (also_first denominator _ behind) in
            record {
              own = own;
              sheet_small = omega (arith, sheet_within sheet r.sheet 1 (also_first first _ e));
              some_parts = parts.0;
              few_parts = parts.1;
              few = (ranged_within 0 64 r.count 4 (also_first count _ later)).1;
              each = firings_fit transitions (firings_of r) 5 (also_first firings _ last);
              rest = (ranged_within 0 10000000 r.rest _ (also_second firings _ last)).1;
            },
        λ f.
            rw (
              own_sheet sheet r.sheet 1 (omega (arith, f.sheet_small, f.own)) f.own,
              ranged_passes 1 1000 r.denominator 3 f.some_parts f.few_parts,
              ranged_passes 0 64 r.count 4 (omega arith) f.few,
              firings_pass transitions (firings_of r) 5 f.each,
            ) (ranged_passes 0 10000000 r.rest _ (omega arith) f.rest),
      )

  pub order_in_ranges : (o : Order) → (order_card sheet transitions).check o 1 ≡ Passed → OrderFits sheet transitions o
  unfolding fires_of
  order_in_ranges o e =
      let first = sheet_checked sheet o.sheet 1 in
      let count = ranged 0 64 o.count 3 in
      let behind = also_second first _ e in
      let own = sheet_same sheet o.sheet 1 (also_first first _ e) in
      record {
        own = own;
        sheet_small = omega (arith, sheet_within sheet o.sheet 1 (also_first first _ e));
        few = (ranged_within 0 64 o.count 3 (also_first count _ behind)).1;
        each = fires_fit transitions (fires_of o) 4 (also_second count _ behind);
      }

  pub order_passes : (o : Order) → OrderFits sheet transitions o → (order_card sheet transitions).check o 1 ≡ Passed
  unfolding fires_of
  order_passes o f =
      rw (
        own_sheet sheet o.sheet 1 (omega (arith, f.sheet_small, f.own)) f.own,
        ranged_passes 0 64 o.count 3 (omega arith) f.few,
      ) (fires_pass transitions (fires_of o) 4 f.each)
