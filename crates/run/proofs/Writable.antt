-- Runs and orders are checked as their cards are read, a number too long to write standing as the largest that can be written.
use Prim.Native.Nat.{ℕ, ◌≤◌, min}
use native.Mathlib.Omega.{arith}
use mathlib.Core.Path.{refl}
use mathlib.Core.List.{map}
use lib.Dec.{lit<}
use Rattle.text.specs.Key.{bytes}
use Rattle.form.specs.Line.{writable}
use Rattle.form.specs.Inverse.{Told}
use Rattle.form.proofs.Format.{times_format}
use Rattle.form.proofs.Sheets.{sheet_told}
use Rattle.form.proofs.Writable.{keyed_told, pair_told, held_told, exactly_told, ranged_told, listed_told, counted_told}
use Rattle.run.specs.declared.Memory.{Memory}
use Rattle.run.specs.Run.{memory, fire, to_firing, from_firing, firing, no_firing, steps, run_lines, to_run, from_run, run_card, order_lines, to_order, from_order, order_card}
use Rattle.run.specs.Same.{writable_firing, writable_run, writable_order}
use Rattle.run.proofs.Card.{memory_back, firing_format}

memory_told : Told memory (λ (m : Memory). m)
memory_told = record { told = λ m s rest at line e. memory_back m s rest at line refl e }

module _ (transitions : ℕ) (few : transitions ≤ 32) where
  fire_told : Told (fire transitions) writable
  fire_told = listed_told (bytes "fire=") transitions (omega arith)

  firing_told : Told (firing transitions) writable_firing
  firing_told = held_told to_firing from_firing writable_firing (λ f. refl) (pair_told (λ n. refl) (ranged_told (bytes "wait=") 0 10000000 (lit< tt)) fire_told)

  steps_told : (count : ℕ) → Told (steps transitions count) (λ v. (map writable_firing v.0, writable v.1))
  steps_told count =
      pair_told (times_format count 64 no_firing (firing_format transitions)).settled.same_lines
      (exactly_told (λ f. refl) firing_told (min count 64) 64 no_firing refl) (ranged_told (bytes "rest=") 0 10000000 (lit< tt))

  -- the lines behind the sheet
  pub run_lines_told : Told (run_lines transitions)
      (λ v. (v.0, (writable v.1.0, (writable v.1.1.0, (map writable_firing v.1.1.1.0, writable v.1.1.1.1)))))
  run_lines_told =
      pair_told (λ m. refl) (keyed_told (bytes "memory=") memory_told)
      (pair_told (λ n. refl) (ranged_told (bytes "denominator=") 1 1000 (lit< tt)) (counted_told (bytes "firings=") 0 64 (lit< tt) steps_told))

  pub order_lines_told : Told (order_lines transitions) (λ v. (v.0, (writable v.1.0, map writable v.1.1)))
  order_lines_told =
      pair_told (λ m. refl) (keyed_told (bytes "memory=") memory_told)
      (counted_told (bytes "firings=") 0 64 (lit< tt) (λ count. exactly_told (λ n. refl) fire_told (min count 64) 64 0 refl))

pub run_told_lem : (sheet transitions : ℕ) → transitions ≤ 32 → Told (run_card sheet transitions) writable_run
unfolding writable_run
run_told_lem sheet transitions few = held_told to_run from_run writable_run (λ r. refl) (sheet_told sheet (run_lines_told transitions few))

pub order_told_lem : (sheet transitions : ℕ) → transitions ≤ 32 → Told (order_card sheet transitions) writable_order
unfolding writable_order
order_told_lem sheet transitions few = held_told to_order from_order writable_order (λ o. refl) (sheet_told sheet (order_lines_told transitions few))
