-- The sign of a lead, and the test of two runs for one order.
use Prim.Native.Nat.{zero, suc}
use mathlib.Core.Path.{◌≡◌, refl, sym, ap, ◌∙◌}
use mathlib.Core.Bool.{true, and-eq-true_iff}
use mathlib.Core.Logic.{◌↔◌}
use mathlib.Core.List.{[], append-nil}
use lib.IntN.{ℤ, pos, negsuc, neg_ℤ}
use Rattle.laws.specs.Tests.{same_numbers, same_numbers_exactly}
use Rattle.form.proofs.Found.{found_value}
use Rattle.run.specs.declared.Memory.{Memory}
use Rattle.run.specs.declared.Run.{Run}
use Rattle.run.specs.Run.{memory_text, firings_of, order_of}
use Rattle.run.proofs.Card.{memory_back}
use Rattle.ranking.specs.Lead.{of_one_order, sign_of}
use Rattle.ranking.specs.Claims.{OfOneOrder}

-- the sign of a negated lead
pub sign_negated : (z : ℤ) → sign_of (neg_ℤ z) ≡ neg_ℤ (sign_of z)
sign_negated (pos zero) = refl
sign_negated (pos (suc n)) = refl
sign_negated (negsuc n) = refl

-- ---- runs of one order
-- memory words with the same bytes are the same: each reads back
same_word : (m k : Memory) → memory_text m ≡ memory_text k → m ≡ k
same_word m k e =
    let s = memory_text m in
    found_value (sym (memory_back m s [] 0 1 refl (sym (append-nil s))) ∙ memory_back k s [] 0 1 refl (e ∙ sym (append-nil (memory_text k))))

-- the test finds just the runs of one order
pub of_one_order_exactly : (x y : Run) → (of_one_order x y ≡ true) ↔ OfOneOrder x y
of_one_order_exactly x y =
    let words = same_numbers_exactly (memory_text x.memory) (memory_text y.memory) in
    let orders = same_numbers_exactly (order_of (firings_of x)) (order_of (firings_of y)) in
    let same_words = same_numbers (memory_text x.memory) (memory_text y.memory) in
    let both = and-eq-true_iff same_words (same_numbers (order_of (firings_of x)) (order_of (firings_of y))) in (
      λ e. let h = both.0 e in (same_word x.memory y.memory (words.0 h.0), orders.0 h.1),
      λ h. both.1 (words.1 (ap memory_text h.0), orders.1 h.1),
    )
