-- Document 02, "Sorter and changer on one drawing": two nets joined by a list of place numbers, over values and over cards.
use Rattle.std.specs.Prelude.{ℕ, zero, suc, ◌+◌, ◌%◌, Bool, true, false, not, cond, ◌&&◌, ◌||◌, List, [], ◌∷◌, ◌++◌, map, length, get_or, replicate, leb, ltb, eqb, Err}
use Rattle.std.proofs.Math.Option.{Option, none, some}
use Rattle.laws.specs.Arrays.{filled}
use Rattle.laws.specs.Slots.{first_of, pad_to}
use Rattle.reply.specs.declared.Refusal.TheVariants.{BadPairs, UnequalStarts, TooLarge}
use Rattle.reply.specs.Respond.{Outcome, written_if, Checked, Passed}
use Rattle.form.specs.Form.{Found, also, front, alone, follow}
use Rattle.net.specs.declared.Net.{Net}
use Rattle.net.specs.Net.{Row, no_row, rows_of, to_net, net_card}
use Rattle.operations.specs.Operation.{once_checked, once_read}
use Rattle.joining.specs.Pairs.{pairs}

-- ---- the list
-- "a list of place numbers read two by two as pairs, first net's place then second's"; one that is left over is in no pair
unfoldable pub pairs_of : List ℕ → List (ℕ × ℕ)
pairs_of [] = []
pairs_of (p ∷ []) = []
pairs_of (p ∷ q ∷ list) = (p, q) ∷ pairs_of list

-- the places of each side
abbrev pub firsts : List (ℕ × ℕ) → List ℕ
firsts vs = map (λ (v : ℕ × ℕ). v.0) vs

abbrev pub seconds : List (ℕ × ℕ) → List ℕ
seconds vs = map (λ (v : ℕ × ℕ). v.1) vs

-- p is one of the numbers
unfoldable pub among : ℕ → List ℕ → Bool
among p [] = false
among p (q ∷ ps) = eqb p q || among p ps

-- each number names one of n places, and no place is named twice
unfoldable pub distinct_places : ℕ → List ℕ → Bool
distinct_places n [] = true
distinct_places n (p ∷ ps) = ltb p n && not (among p ps) && distinct_places n ps

-- the tokens of paired places are equal
unfoldable pub equal_starts : List ℕ → List ℕ → List (ℕ × ℕ) → Bool
equal_starts start start' [] = true
equal_starts start start' (v ∷ vs) = eqb (get_or start v.0 0) (get_or start' v.1 0) && equal_starts start start' vs

-- ---- the joined net
-- the second net's place that is paired with place p of the first
unfoldable pub partner : List (ℕ × ℕ) → ℕ → Option ℕ
partner [] p = none
partner (v ∷ vs) p = cond (eqb v.0 p) (some v.1) (partner vs p)

-- "the second's unpaired ones in order": those of its first n places
unfoldable pub unpaired : List (ℕ × ℕ) → ℕ → List ℕ
unpaired vs zero = []
unpaired vs (suc q) = unpaired vs q ++ cond (among q (seconds vs)) [] (q ∷ [])

-- the places of the joined net, each told by the place of one of the two nets that stands there, if any does: for the first net, whose places keep their
-- numbers, and for the second
unfoldable pub own_places : ℕ → List (Option ℕ)
own_places places = filled some places (replicate places none)

unfoldable pub sources : List (ℕ × ℕ) → ℕ → ℕ → List (Option ℕ)
sources vs places places' = filled (partner vs) places (replicate places none) ++ map some (unpaired vs places')

-- the weight there
abbrev pub weight_at : List ℕ → Option ℕ → ℕ
weight_at weights none = 0
weight_at weights (some q) = get_or weights q 0

-- a transition with its weights at the places of the joined net, and none at places that are not its own
abbrev pub moved_row : List (Option ℕ) → Row → Row
moved_row at r = record { interval = r.interval; take = pad_to 16 0 (map (weight_at r.take) at); give = pad_to 16 0 (map (weight_at r.give) at) }

-- "The joined net has the first's places, then the second's unpaired ones in order, and likewise all transitions; it takes the first's sheet"
unfoldable pub joined_start : Net → Net → List (ℕ × ℕ) → List ℕ
joined_start a b vs = pad_to 16 0 (first_of a.places 0 a.start ++ map (λ q. get_or b.start q 0) (unpaired vs b.places))

unfoldable pub joined_rows : Net → Net → List (ℕ × ℕ) → List Row
joined_rows a b vs =
    pad_to 32 no_row
    (map (moved_row (own_places a.places)) (first_of a.transitions no_row (rows_of a))
    ++ map (moved_row (sources vs a.places b.places)) (first_of b.transitions no_row (rows_of b)))

abbrev pub joined_net : Net → Net → List (ℕ × ℕ) → Net
joined_net a b vs =
    to_net
    (a.sheet, (a.places + length (unpaired vs b.places), (a.transitions + b.transitions, (joined_start a b vs, joined_rows a b vs))))

-- ---- the checks of a list, each over the whole of it
-- "12 for an odd list, a pair naming no place or a place twice on its side"
abbrev pub pairs_checked : ℕ → ℕ → List ℕ → Checked
pairs_checked places places' list =
    cond (eqb (length list % 2) 0 && distinct_places places (firsts (pairs_of list)) && distinct_places places' (seconds (pairs_of list))) Passed (Err BadPairs)

-- "13 for paired places with unequal starts"
abbrev pub starts_checked : List ℕ → List ℕ → List ℕ → Checked
starts_checked start start' list = cond (equal_starts start start' (pairs_of list)) Passed (Err UnequalStarts)

-- "14 for a joined net above 16 places or 32 transitions"
abbrev pub size_checked : Net → Checked
size_checked j = cond (leb j.places 16 && leb j.transitions 32) Passed (Err TooLarge)

-- "in this order"
abbrev pub join_checked : Net → Net → List ℕ → Checked
join_checked a b list =
    also (pairs_checked a.places b.places list)
    (also (starts_checked a.start b.start list) (size_checked (joined_net a b (pairs_of list))))

-- ---- what joining comes to: the card of the joined net. Values are checked as their cards, the first net before the second
abbrev pub join_of : Net → Net → List ℕ → Outcome
join_of a b list = written_if (join_checked a b list) (net_card.text (joined_net a b (pairs_of list)))

abbrev pub join_values : Net → Net → List ℕ → Outcome
join_values a b list = once_checked (also (net_card.check a 1) (net_card.check b 1)) (join_of a b list)

-- over cards: a net card, right behind it the other's, and behind that the line `pairs`
abbrev pub net_and_pairs : List ℕ → Found (Net × List ℕ)
net_and_pairs = follow (front net_card) (λ _. alone pairs)

abbrev pub nets_and_pairs : List ℕ → Found (Net × (Net × List ℕ))
nets_and_pairs = follow (front net_card) (λ _. net_and_pairs)

abbrev pub join_cards : List ℕ → Outcome
join_cards s = once_read (nets_and_pairs s) (λ v. join_of v.0 v.1.0 v.1.1)
