-- Weights and tokens moved to the places of the joined net, and the rows of a net in arrays.
use Prim.Native.Nat.{ℕ, suc, ◌+◌, ◌-◌, ◌*◌, ◌≤◌, ◌<◌}
use native.Mathlib.Nat.{mul-suc, eq-or-lt_of_le, le_of_suc-le-suc, le_refl}
use native.Mathlib.Numerals.{add-one}
use native.Mathlib.Omega.{arith}
use mathlib.Core.Path.{◌≡◌, refl, sym, ap, ◌∙◌}
use mathlib.Core.List.{List, [], ◌∷◌, ◌++◌, map}
use mathlib.Core.Option.{none}
use mathlib.Core.Logic.{⊎_elim}
use Rattle.std.specs.Prelude.{Option, Some, None}
use Rattle.laws.specs.Sums.{le_or_lt}
use Rattle.std.proofs.lemmas.List.{drop-map, drop-append-le, append_assoc}
use lib.ListN.{length, get_or, set, drop, replicate, length-map, length-replicate, length-append, length-drop, length-set, get_or-map, get_or-eq_default}
use lib.ListN.{drop_of_length-le}
use lib.Seq.{ext_get_or, get_or-set_same, get_or-set_other, drop-cons}
use Rattle.laws.specs.Arrays.{filled}
use Rattle.laws.specs.Slots.{pad_to, get_d_padded, length_pad}
use Rattle.net.proofs.Rows.{sixteen_at}
use Rattle.net_card.specs.Code.{spread}
use Rattle.joining.specs.Joining.{weight_at}
use Rattle.joining.specs.Code.{place_in, places_in}
use Rattle.joining.proofs.Layouts.{length_places, place_at}

-- ---- the weights of a transition
-- its sixteen weights in an array, from a slot on and each a step further
abbrev pub weights_in : List ℕ → ℕ → ℕ → List ℕ
weights_in from first step = filled (λ p. get_or from (first + step * p) 0) 16 (replicate 16 0)

-- those at the places of a layout
abbrev pub moved_to : List ℕ → List (Option ℕ) → List ℕ
moved_to weights at = map (weight_at weights) (places_in at)

-- p places are passed: what is left to store
pub record Moving (weights : List ℕ) (at : List (Option ℕ)) (slot step : ℕ) (old : List ℕ) (p : ℕ) (to : List ℕ) : Type 0 where
  pub rest : spread (moved_to weights at) slot step old ≡ spread (drop p (moved_to weights at)) (slot + step * p) step to

pub moving_start : (weights : List ℕ) (at : List (Option ℕ)) (slot step : ℕ) (old : List ℕ) → Moving weights at slot step old 0 old
moving_start weights at slot step old =
    let z : slot + step * 0 ≡ slot = omega arith in
    record { rest = rw z refl }

pub length_moved : (weights : List ℕ) (at : List (Option ℕ)) → length (moved_to weights at) ≡ length at
length_moved weights at = length-map (places_in at) (weight_at weights) ∙ length_places at

moved_at : (weights : List ℕ) (at : List (Option ℕ)) (p : ℕ) → get_or (moved_to weights at) p 0 ≡ weight_at weights (place_in (get_or at p None))
moved_at weights at p = get_or-map (weight_at weights) (places_in at) p none ∙ ap (weight_at weights) (place_at at p)

module _ {weights : List ℕ} {at : List (Option ℕ)} {slot step : ℕ} {old : List ℕ} {p : ℕ} {to : List ℕ} (w : Moving weights at slot step old p to) where
  module _ (h : p < length at) where
    pub moving_more : {x : ℕ} → x ≡ weight_at weights (place_in (get_or at p None)) → Moving weights at slot step old (p + 1) (set to (slot + step * p) x)
    unfolding spread
    moving_more {x} e =
        let next : drop p (moved_to weights at) ≡ x ∷ drop (p + 1) (moved_to weights at) =
        rw add-one (drop-cons (moved_to weights at) p 0 (omega (arith, length_moved weights at))
        ∙ ap (λ (y : ℕ). y ∷ drop (suc p) (moved_to weights at)) (moved_at weights at p ∙ sym e)) in
        let further : slot + step * (p + 1) ≡ slot + step * p + step = rw add-one (omega (arith, mul-suc step p)) in
        record { rest = w.rest ∙ rw (next, further) refl }

  pub moving_done : length at ≤ p → to ≡ spread (moved_to weights at) slot step old
  unfolding spread
  moving_done h = sym (w.rest ∙ rw (drop_of_length-le (moved_to weights at) {i = p} (omega (arith, length_moved weights at))) refl)

-- no place
pub none_there : (place : Option ℕ) → ((q : ℕ) → place ≡ Some q → ⊥) → place ≡ None
none_there None h = refl
none_there (Some q) h = absurd (h q refl)

-- the weight at a place that is there
pub weight_there : (from : List ℕ) (first step : ℕ) {place : Option ℕ} {q : ℕ} → place ≡ Some q → q < 16
    → get_or from (first + step * q) 0 ≡ weight_at (weights_in from first step) (place_in place)
weight_there from first step {q = q} e h = rw e (sym (sixteen_at (λ k. get_or from (first + step * k) 0) q h))

-- ---- the tokens at the start
module _ (other : List ℕ) (at : List (Option ℕ)) where
  -- the places before p hold theirs, and those from p on none
  pub record Starting (tokens : List ℕ) (p : ℕ) : Type 0 where
    pub long : length tokens ≡ 16
    pub so_far : (k : ℕ) → k < p → get_or tokens k 0 ≡ get_or (moved_to other at) k 0
    pub ahead : (k : ℕ) → p ≤ k → get_or tokens k 0 ≡ 0

  pub starting : Starting (replicate 16 0) 0
  starting =
      record {
        long = length-replicate {A = ℕ} 16 0;
        so_far = λ k l. absurd (omega (arith, l));
        ahead = λ k l. get_d_padded {A = ℕ} [] 16 0 k;
      }

  module _ {tokens : List ℕ} {p : ℕ} (w : Starting tokens p) where
    -- a place that has a place of the second net, and one that has none
    pub starting_more : {q : ℕ} → get_or at p None ≡ Some q → p < 16 → Starting (set tokens p (get_or other q 0)) (p + 1)
    starting_more {q} e l =
        record {
          long = length-set tokens p (get_or other q 0) ∙ w.long;
          so_far = λ k b.
              ⊎_elim
              (λ (h : k ≡ p). rw h (get_or-set_same tokens p (get_or other q 0) 0 (omega (arith, w.long)) ∙ sym (moved_at other at p ∙ rw e refl)))
              (λ (h : k < p). get_or-set_other tokens p k (get_or other q 0) 0 (λ z. omega arith) ∙ w.so_far k h)
              (eq-or-lt_of_le (le_of_suc-le-suc (rw add-one at b)));
          ahead = λ k b. get_or-set_other tokens p k (get_or other q 0) 0 (λ z. omega arith) ∙ w.ahead k (omega arith);
        }

    pub starting_none : get_or at p None ≡ None → Starting tokens (p + 1)
    starting_none e =
        record {
          long = w.long;
          so_far = λ k b.
              ⊎_elim
              (λ (h : k ≡ p). rw h (w.ahead p (le_refl p) ∙ sym (moved_at other at p ∙ rw e refl)))
              (λ (h : k < p). w.so_far k h)
              (eq-or-lt_of_le (le_of_suc-le-suc (rw add-one at b)));
          ahead = λ k b. w.ahead k (omega arith);
        }

    starting_done : length at ≤ 16 → length at ≤ p → tokens ≡ pad_to 16 0 (moved_to other at)
    starting_done few all =
        ext_get_or 0 tokens (pad_to 16 0 (moved_to other at)) (w.long ∙ sym (length_pad 16 0 (moved_to other at) (omega (arith, length_moved other at))))
        (λ k b.
        ⊎_elim
        (λ (h : p ≤ k). w.ahead k h ∙ sym (get_or-eq_default (moved_to other at) 0 {n = k} (omega (arith, length_moved other at))))
        (λ (h : k < p). w.so_far k h)
        (le_or_lt p k)
        ∙ sym (get_d_padded (moved_to other at) (16 - length (moved_to other at)) 0 k))

    -- and the first net's over them
    pub first_over : (start : List ℕ) → length start ≤ length at → length at ≤ 16 → length at ≤ p
        → start ++ drop (length start) tokens ≡ pad_to 16 0 (start ++ map (weight_at other) (drop (length start) (places_in at)))
    first_over start front few all =
        let places = length start in
        let behind = map (weight_at other) (drop places (places_in at)) in
        let moved = moved_to other at in
        let cut : drop places moved ≡ behind = drop-map (weight_at other) places (places_in at) in
        let same : length (start ++ behind) ≡ length moved =
        omega (arith, length-append start behind, ap length cut, length-drop places moved, length_moved other at) in
        let rest : drop places tokens ≡ behind ++ replicate (16 - length (start ++ behind)) 0 =
        ap (drop places) (starting_done few all)
        ∙ drop-append-le places moved (replicate (16 - length moved) 0) (omega (arith, length_moved other at))
        ∙ rw (cut, same) refl in
        rw rest (sym (append_assoc start behind (replicate (16 - length (start ++ behind)) 0)))
