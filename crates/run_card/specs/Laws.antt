-- What the traits ask of the forms: of a firing and a fired transition, of a run card and an order card.
use Rattle.reply.specs.Respond.{Passed}
use Prim.Native.Nat.{ℕ, ◌*◌, ◌≤◌}
use native.Mathlib.Omega.{arith}
use mathlib.Core.Path.{◌≡◌}
use lib.ListN.{length}
use Rattle.form.proofs.Card.{text_short}
use Rattle.run.specs.declared.Run.{Run}
use Rattle.run.specs.declared.Order.{Order}
use Rattle.run.specs.Run.{run_card, order_card}
use Rattle.run.proofs.Card.{run_format, order_format}
use Rattle.run.proofs.Text.{run_text_lem, order_text_lem}

pub one_each : (i : ℕ) → i ≤ 64 → 1 * i ≤ 128
one_each i h = omega arith

pub two_each : (i : ℕ) → i ≤ 64 → 2 * i ≤ 128
two_each i h = omega arith

pub run_same_text : (own n : ℕ) (r : Run) → (run_card 0 0).text r ≡ (run_card own n).text r
run_same_text own n r = run_text_lem 0 0 own n r

pub order_same_text : (own n : ℕ) (o : Order) → (order_card 0 0).text o ≡ (order_card own n).text o
order_same_text own n o = order_text_lem 0 0 own n o

pub run_fits : (own n : ℕ) (r : Run) → n ≤ 32 → (run_card own n).check r 1 ≡ Passed → length ((run_card own n).text r) ≤ 2048
run_fits own n r few p = let w = run_format own n in omega (arith, text_short (w.inverse few) (w.reaches few) r p)

pub order_fits : (own n : ℕ) (o : Order) → n ≤ 32 → (order_card own n).check o 1 ≡ Passed → length ((order_card own n).text o) ≤ 2048
order_fits own n o few p = let w = order_format own n in omega (arith, text_short (w.inverse few) (w.reaches few) o p)
