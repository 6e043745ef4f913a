-- A list of numbers told by the index that a loop counts, and how long it can be.
use Prim.Native.Nat.{ℕ, ◌+◌, ◌*◌, ◌≤◌}
use native.Mathlib.Omega.{arith}
use mathlib.Core.Path.{◌≡◌, refl, ap}
use mathlib.Core.List.{List, [], ◌∷◌}
use lib.ListN.{length, get_or, drop, length-append, length-drop, drop_of_length-le}
use lib.Dec.{eqb}
use lib.Seq.{drop-cons}
use native.Mathlib.Numerals.{add-one}
use Rattle.laws.specs.Writing.{joined, joined_whole}
use Rattle.laws.specs.Slots.{last_left}
use Rattle.text.specs.Decimal.{field}
use Rattle.text.proofs.DecimalLaws.{field_short}
use Rattle.form.specs.Line.{items_text}

-- numbers, each with what stands behind it, told by the index that a loop counts
pub items_joined : (ns : List ℕ) → items_text ns ≡ joined (λ i. field (get_or ns i 0) (eqb (i + 1) (length ns))) (length ns)
unfolding items_text
items_joined ns =
    joined_whole (λ i. field (get_or ns i 0) (eqb (i + 1) (length ns))) (λ i. items_text (drop i ns)) (length ns)
    (λ i l. let e : drop i ns ≡ get_or ns i 0 ∷ drop (i + 1) ns = rw add-one (drop-cons ns i 0 l) in
    rw (e, length-drop (i + 1) ns, last_left i (length ns) l) refl)
    (ap items_text (drop_of_length-le ns {i = length ns} (omega arith)))

-- no list of numbers is longer than its longest numbers make it
pub length_items : (ns : List ℕ) → length (items_text ns) ≤ 21 * length ns
unfolding items_text
length_items [] = omega arith
length_items (n ∷ ns) =
    let last = eqb (length ns) 0 in
    omega (arith, length-append (field n last) (items_text ns), field_short n last, length_items ns)
