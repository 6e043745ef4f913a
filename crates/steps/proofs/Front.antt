-- The slots of an array that count stand in front: one of them, and a copy of them.
use Rattle.std.proofs.Common.{◌≡◌, ℕ, ◌+◌, ◌-◌, ◌<◌, ◌≤◌, List, ◌++◌, length, get_or, take, drop, sym, ap, ◌∙◌, arith, ext_get_or}
use Rattle.std.proofs.lemmas.List.{length-take-le, length-append, length-drop, get_or-take, get_or-drop, get_or_append_left, get_or-append_right}
use Rattle.std.proofs.Math.Decide.{dec_lt}
use Rattle.laws.specs.Arrays.{filled, length_filled, filled_at, filled_past}

-- ---- one slot
module _ {A : Type 0} (n : ℕ) (l : List A) (few : n ≤ length l) {p : ℕ} where
  pub front_at : (d : A) → p < length (take n l) → get_or (take n l) p d ≡ get_or l p d
  front_at d h = get_or-take n l p d (omega (arith, length-take-le n l few))

  pub front_inside : p < length (take n l) → p < n
  front_inside h = omega (arith, length-take-le n l few)

  pub front_passed : length (take n l) ≤ p → n ≤ p
  front_passed h = omega (arith, length-take-le n l few)

-- ---- a copy of those of a list
pub copied_front : (l old : List ℕ) (n : ℕ) → n ≤ length l → n ≤ length old → take n l ++ drop n old ≡ filled (λ p. get_or l p 0) n old
copied_front l old n h g =
    let long = length-take-le n l h in
    let all : length (take n l ++ drop n old) ≡ length old = omega (arith, length-append (take n l) (drop n old), length-drop n old) in
    ext_get_or 0 (take n l ++ drop n old) (filled (λ p. get_or l p 0) n old) (all ∙ sym (length_filled (λ p. get_or l p 0) old n)) (λ k b. at k (omega arith) (dec_lt k n))
  where
    at : (k : ℕ) → k < length old → Dec (k < n) → get_or (take n l ++ drop n old) k 0 ≡ get_or (filled (λ p. get_or l p 0) n old) k 0
    at k b (yes c) =
        get_or_append_left (take n l) (drop n old) 0 k (omega (arith, length-take-le n l h))
        ∙ get_or-take n l k 0 c
        ∙ sym (filled_at (λ p. get_or l p 0) old 0 n k c b)
    at k b (no c) =
        let past : n ≤ k = omega arith in
        let there : n + (k - n) ≡ k = omega arith in
        get_or-append_right (take n l) (drop n old) n k 0 (length-take-le n l h) past
        ∙ get_or-drop n old (k - n) 0
        ∙ ap (λ (i : ℕ). get_or old i 0) there
        ∙ sym (filled_past (λ p. get_or l p 0) old 0 n k past)
