-- Weights in their arrays: storing the lists of a row in its slots makes of the arrays of some rows those of the same rows with this one among them.
use Prim.Native.Nat.{ℕ, ◌+◌, ◌-◌, ◌*◌, ◌/◌, ◌%◌, ◌≤◌, ◌<◌}
use native.Mathlib.Omega.{arith}
use native.Mathlib.Decide.{dec_lt}
use mathlib.Core.Path.{◌≡◌, refl, sym, ap, ◌∙◌}
use mathlib.Core.Bool.{Bool, true, false}
use mathlib.Core.List.{List, []}
use lib.Dec.{eqb}
use lib.ListN.{length, get_or, set, replicate, length-replicate, get_or-eq_default}
use lib.Seq.{ext_get_or, get_or-set_same, get_or-set_other}
use borrow.Author.Tests.{eqb-true, eqb-false}
use Rattle.laws.specs.Arrays.{filled, length_filled, filled_at, filled_idle, filled_same}
use Rattle.laws.specs.Slots.{first_of, pad_to, length_first, get_d_first, get_d_padded}
use Rattle.net.specs.declared.Net.{Net}
use Rattle.net.specs.Net.{Row, no_row, takes_in, gives_in, take_of, give_of, row_at}
use Rattle.net_card.specs.Code.{spread}
use Rattle.net_card.proofs.Stored.{length_spread, spread_other, spread_at}

-- an array of the weights of rows: slot j holds a weight of row `which j`, for the place `place j`
module _ (part : Row → List ℕ) (which place : ℕ → ℕ) where
  -- what slot j holds
  abbrev weight : List Row → ℕ → ℕ
  weight rs j = get_or (part (get_or rs (which j) no_row)) (place j) 0

  -- the array
  abbrev table_of : List Row → List ℕ
  table_of rs = filled (weight rs) 512 (replicate 512 0)

  table_long : (rs : List Row) → length (table_of rs) ≡ 512
  table_long rs = length_filled (weight rs) (replicate 512 0) 512 ∙ length-replicate {A = ℕ} 512 0

  table_at : (rs : List Row) (j : ℕ) → j < 512 → get_or (table_of rs) j 0 ≡ weight rs j
  table_at rs j h = filled_at (weight rs) (replicate 512 0) 0 512 j h (omega (arith, length-replicate {A = ℕ} 512 0))

  module _ (none : part no_row ≡ replicate 16 0) where
    -- a row that is none has no weights
    no_weight : (p : ℕ) → get_or (part no_row) p 0 ≡ 0
    no_weight p = rw none (get_d_padded [] 16 0 p)

    pub table_empty : table_of (replicate 32 no_row) ≡ replicate 512 0
    table_empty =
        filled_idle (weight (replicate 32 no_row)) (replicate 512 0) 0 512
        (λ j h. get_d_padded [] 512 0 j ∙ sym (ap (λ (r : Row). get_or (part r) (place j) 0) (get_d_padded [] 32 no_row (which j)) ∙ no_weight (place j)))

    -- row t, of which `count` places count, has its weights from slot `first` on, each a step further
    module _ (rs : List Row) (r : Row) (t count first step : ℕ) (long : t < length rs) (free : get_or rs t no_row ≡ no_row)
        (clean : pad_to 16 0 (first_of count 0 (part r)) ≡ part r) (some : 1 ≤ step)
        (slots : (p : ℕ) → p < count → (first + step * p < 512) × (which (first + step * p) ≡ t) × (place (first + step * p) ≡ p))
        (own : (j : ℕ) → which j ≡ t → j ≡ first + step * place j) where
      -- the weights that count
      abbrev listed : List ℕ
      listed = first_of count 0 (part r)

      -- a slot that is none of these
      other : (j : ℕ) → ((p : ℕ) → p < count → j ≡ first + step * p → ⊥) → get_or (spread listed first step (table_of rs)) j 0 ≡ get_or (table_of rs) j 0
      other j h = spread_other (first_of count 0 (part r)) first step (table_of rs) j (λ p b e. h p (omega (arith, length_first count 0 (part r))) e)

      -- in row t stand the weights of r
      new_weight : (j : ℕ) → which j ≡ t → get_or (part r) (place j) 0 ≡ weight (set rs t r) j
      new_weight j e = sym (ap (λ (x : Row). get_or (part x) (place j) 0) (ap (λ (k : ℕ). get_or (set rs t r) k no_row) e ∙ get_or-set_same rs t r no_row long))

      weight_at_lem : (j : ℕ) → j < 512 → (a : Bool) → eqb (which j) t ≡ a → Dec (place j < count)
          → get_or (spread listed first step (table_of rs)) j 0 ≡ weight (set rs t r) j
      weight_at_lem j h true e (yes l) =
          let own-slot = own j (eqb-true (which j) t e) in
          ap (λ (k : ℕ). get_or (spread listed first step (table_of rs)) k 0) own-slot
          ∙ spread_at listed first step (table_of rs) (place j) some (omega (arith, length_first count 0 (part r))) (omega (arith, table_long rs))
          ∙ get_d_first count 0 (part r) (place j) l
          ∙ new_weight j (eqb-true (which j) t e)
      weight_at_lem j h true e (no l) =
          let here = eqb-true (which j) t e in
          other j (λ p b q. l (rw (q, (slots p b).2) b))
          ∙ table_at rs j h
          ∙ ap (λ (x : Row). get_or (part x) (place j) 0) (ap (λ (k : ℕ). get_or rs k no_row) here ∙ free)
          ∙ no_weight (place j)
          ∙ sym (get_or-eq_default listed 0 (omega (arith, length_first count 0 (part r))))
          ∙ sym (get_d_padded listed (16 - length listed) 0 (place j))
          ∙ ap (λ (x : List ℕ). get_or x (place j) 0) clean
          ∙ new_weight j here
      weight_at_lem j h false e l =
          other j (λ p b q. eqb-false (which j) t e (ap which q ∙ (slots p b).1))
          ∙ table_at rs j h
          ∙ sym (ap (λ (x : Row). get_or (part x) (place j) 0) (get_or-set_other rs t (which j) r no_row (eqb-false (which j) t e)))

      pub table_stored : spread listed first step (table_of rs) ≡ table_of (set rs t r)
      table_stored =
          let l = length_spread listed first step (table_of rs) ∙ table_long rs in
          ext_get_or 0 (spread listed first step (table_of rs)) (table_of (set rs t r)) (l ∙ sym (table_long (set rs t r)))
          (λ j b. let h : j < 512 = omega arith in weight_at_lem j h (eqb (which j) t) refl (dec_lt (place j) count) ∙ sym (table_at (set rs t r) j h))

-- ---- the two arrays of a net
pub take_empty : take_of (replicate 32 no_row) ≡ replicate 512 0
unfolding take_of
take_empty = table_empty (λ (r : Row). r.take) (λ j. j % 32) (λ j. j / 32) refl

pub give_empty : give_of (replicate 32 no_row) ≡ replicate 512 0
unfolding give_of
give_empty = table_empty (λ (r : Row). r.give) (λ j. j / 16) (λ j. j % 16) refl

module _ (rs : List Row) (r : Row) (t count : ℕ) (long : length rs ≡ 32) (small : t < 32) (few : count ≤ 16) (free : get_or rs t no_row ≡ no_row) where
  pub take_stored : pad_to 16 0 (first_of count 0 r.take) ≡ r.take → spread (first_of count 0 r.take) t 32 (take_of rs) ≡ take_of (set rs t r)
  unfolding take_of
  take_stored clean =
      table_stored (λ (x : Row). x.take) (λ j. j % 32) (λ j. j / 32) refl rs r t count t 32 (omega arith) free clean (omega arith)
      (λ p b. (omega arith, omega arith, omega arith)) (λ j e. omega arith)

  pub give_stored : pad_to 16 0 (first_of count 0 r.give) ≡ r.give → spread (first_of count 0 r.give) (16 * t) 1 (give_of rs) ≡ give_of (set rs t r)
  unfolding give_of
  give_stored clean =
      table_stored (λ (x : Row). x.give) (λ j. j / 16) (λ j. j % 16) refl rs r t count (16 * t) 1 (omega arith) free clean (omega arith)
      (λ p b. (omega arith, omega arith, omega arith)) (λ j e. omega arith)

-- ---- the rows of a net
module _ (n : Net) (t : ℕ) {l : List ℕ} where
  -- its lists, gathered from the slots of the arrays
  pub take_gathered : l ≡ filled (λ p. get_or n.take (t + 32 * p) 0) 16 (replicate 16 0) → l ≡ (row_at n t).take
  take_gathered e =
      e
      ∙ filled_same (λ p. get_or n.take (t + 32 * p) 0) (takes_in n.take t) (replicate 16 0) 16 (λ p h. ap (λ (k : ℕ). get_or n.take k 0) (omega arith))

  pub give_gathered : l ≡ filled (λ p. get_or n.give (16 * t + 1 * p) 0) 16 (replicate 16 0) → l ≡ (row_at n t).give
  give_gathered e =
      e
      ∙ filled_same (λ p. get_or n.give (16 * t + 1 * p) 0) (gives_in n.give t) (replicate 16 0) 16 (λ p h. ap (λ (k : ℕ). get_or n.give k 0) (omega arith))
