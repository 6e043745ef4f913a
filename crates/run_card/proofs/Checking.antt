-- A run and an order as values, by the cases of the code: the first refusal counts, and behind the parts that pass the answer is that of the
-- part that follows.
use Rattle.reply.specs.Respond.{Checked, Passed}
use Rattle.std.specs.Prelude.{Err}
use Prim.Native.Nat.{ℕ, ◌+◌, ◌*◌, min}
use native.Mathlib.Nat.{min-eq_left}
use native.Mathlib.Omega.{arith}
use mathlib.Core.Path.{◌≡◌, refl, sym}
use lib.ListN.{length, take}
use Rattle.laws.specs.Slots.{first_of, first_take}
use Rattle.reply.specs.declared.Refusal.{Refusal}
use Rattle.form.specs.Form.{checks}
use Rattle.form.specs.Line.{ranged}
use Rattle.form.specs.Sheet.{sheet_checked}
use Rattle.form.proofs.Answers.{exactly_lines}
use Rattle.form.proofs.Lines.{ranged_within}
use Rattle.run.specs.declared.Run.{Run}
use Rattle.run.specs.declared.Order.{Order}
use Rattle.run.specs.Run.{fire, firing, no_firing, run_card, order_card}

-- ---- a run: its firings are the front of an array of 64
module _ (own transitions : ℕ) (run : Run) (h : sheet_checked own run.sheet 1 ≡ Passed) (d : ranged 1 1000 run.denominator 3 ≡ Passed)
    (n : ranged 0 64 run.count 4 ≡ Passed) (size : length run.firings ≡ 64) where
  -- what the check of the firings says
  abbrev firings_checked : Checked
  firings_checked = checks (firing transitions) (take run.count run.firings) 5

  -- all firings count
  all_count : min run.count 64 ≡ run.count
  all_count = min-eq_left (ranged_within 0 64 run.count 4 n).1

  counted : first_of (min run.count 64) no_firing run.firings ≡ take run.count run.firings
  counted = rw all_count (sym (first_take run.count no_firing run.firings (omega (arith, all_count, size))))

  pub firings_fail : {r : Refusal} → firings_checked ≡ Err r → Err r ≡ (run_card own transitions).check run 1
  firings_fail e = rw (h, d, n, counted, e)

  pub rest_decides : firings_checked ≡ Passed → ranged 0 10000000 run.rest (5 + 2 * run.count) ≡ (run_card own transitions).check run 1
  rest_decides e =
      rw (h, d, n, exactly_lines (min run.count 64) 64 no_firing (firing transitions) 2 (λ f. refl) run.firings, counted, e, all_count)

-- ---- an order, likewise
pub fires_decide : (own transitions : ℕ) (order : Order) → sheet_checked own order.sheet 1 ≡ Passed → ranged 0 64 order.count 3 ≡ Passed
    → length order.fires ≡ 64
    → checks (fire transitions) (take order.count order.fires) 4 ≡ (order_card own transitions).check order 1
fires_decide own transitions order h n size =
    let all_count : min order.count 64 ≡ order.count = min-eq_left (ranged_within 0 64 order.count 3 n).1 in
    rw (h, n, all_count, first_take order.count 0 order.fires (omega (arith, all_count, size)))
