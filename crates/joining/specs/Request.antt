-- Document 02, "Sorter and changer on one drawing", as statements, each under its sentence; proofs/Request.antt proves each of them under the same name in
-- small letters.
use Rattle.std.specs.Prelude.{ℕ, ◌+◌, ◌^◌, ◌≤◌, ◌<◌, ◌≡◌, ◌↔◌, List, [], ◌++◌, map, length, Err}
use Rattle.laws.specs.Each.{Each}
use Rattle.laws.specs.Slots.{first_of}
use Rattle.reply.specs.declared.Refusal.{Refusal}
use Rattle.reply.specs.declared.Refusal.TheVariants.{BadPairs, UnequalStarts, TooLarge}
use Rattle.reply.specs.Respond.{answer, refusal, Answered, Passed}
use Rattle.reply.specs.Demanded.{Demanded}
use Rattle.form.specs.Form.{found, refused, alone}
use Rattle.form.specs.Line.{writable}
use Rattle.net.specs.declared.Net.{Net}
use Rattle.net.specs.Net.{net_card}
use Rattle.net.specs.Same.{SameNet, writable_net}
use Rattle.run.specs.declared.Run.{Run}
use Rattle.run.specs.Run.{firings_of}
use Rattle.run.specs.Same.{SameRun}
use Rattle.firing.specs.Semantics.{Timed, Allowed}
use Rattle.timing.specs.Rounding.{end_instant}
use Rattle.cards.specs.Cards.{run_checked}
use Rattle.operations.specs.Demands.{rule_for, Allows}
use Rattle.operations.specs.Outcomes.{OnRun, values_of}
use Rattle.joining.specs.Pairs.{pairs}
use Rattle.joining.specs.Joining.{pairs_of, joined_net, join_checked, join_values, nets_and_pairs, join_cards}
use Rattle.joining.specs.Claims.{Paired, EqualStarts, Fits, OnOneDrawing}
use Rattle.joining.specs.Interleaving.{Interleaved, first_side, second_side}

-- j is the joined net: what is read from the answer
abbrev pub Joins : Net → Net → List ℕ → Net → Type 0
Joins a b list j = (bytes : List ℕ) × (join_values a b list ≡ answer bytes) × (alone net_card bytes ≡ found j (length bytes))

-- ---- "Join two nets by a list of place numbers read two by two as pairs": the answer is the card of the joined net, which is what that card says
abbrev pub JoinedExactly : Type 0
JoinedExactly =
    (a b j : Net) (list : List ℕ) → Joins a b list j
    ↔ ((net_card.check a 1 ≡ Passed) × (net_card.check b 1 ≡ Passed) × (join_checked a b list ≡ Passed) × (j ≡ joined_net a b (pairs_of list)))

-- "The joined net has the first's places, then the second's unpaired ones in order, and likewise all transitions; it takes the first's sheet"
abbrev pub JoinedParts : Type 0
JoinedParts = (a b j : Net) (list : List ℕ) → Joins a b list j → OnOneDrawing a b list j

-- "Place 0 in each refusal, in this order: 12 for an odd list, a pair naming no place or a place twice on its side, 13 for paired places with unequal starts, 14
-- for a joined net above 16 places or 32 transitions"; a net that is refused is so first
abbrev pub RefusedInOrder : Type 0
RefusedInOrder =
    (a b : Net) (list : List ℕ)
    → ((e : Refusal) → net_card.check a 1 ≡ Err e → join_values a b list ≡ refusal e)
    × ((e : Refusal) → net_card.check a 1 ≡ Passed → net_card.check b 1 ≡ Err e → join_values a b list ≡ refusal e)
    × (net_card.check a 1 ≡ Passed → net_card.check b 1 ≡ Passed
    → ((join_values a b list ≡ refusal BadPairs) ↔ (Paired a.places b.places list → ⊥))
    × ((join_values a b list ≡ refusal UnequalStarts) ↔ (Paired a.places b.places list × (EqualStarts a b list → ⊥)))
    × ((join_values a b list ≡ refusal TooLarge) ↔ (Paired a.places b.places list × EqualStarts a b list × (Fits a b list → ⊥)))
    × (Answered (join_values a b list) ↔ (Paired a.places b.places list × EqualStarts a b list × Fits a b list)))

-- ---- "With no pairs, and all three runs and nets within the card limits, a run of the joined net is exactly an interleaving in time of a run of each under the
-- same memory and denominator and with the same end instant": nets joined with no pairs, and runs of the three
pub record Apart (a b j : Net) (x y r : Run) : Type 0 where
  pub joins : Joins a b [] j
  pub first_within : run_checked a x ≡ Passed
  pub second_within : run_checked b y ≡ Passed
  pub joined_within : run_checked j r ≡ Passed

-- an interleaving is a run of the joined net exactly if the two are runs of theirs: by the published semantics, and by the operations
abbrev pub InterleavedExactly : Type 0
InterleavedExactly =
    (a b j : Net) (x y r : Run) → Apart a b j x y r → Interleaved a x y r
    → (Allows j r ↔ (Allows a x × Allows b y))
    × ((what : OnRun) → Answered (values_of what j r) ↔ (Answered (values_of what a x) × Answered (values_of what b y)))

-- whatever is within the limits of the joined net is an interleaving, of its two sides
abbrev pub SidesInterleaved : Type 0
SidesInterleaved =
    (a b j : Net) (r : Run) → Joins a b [] j → run_checked j r ≡ Passed → Interleaved a (first_side a r) (second_side a b r) r

-- and of no other runs
abbrev pub InterleavedSides : Type 0
InterleavedSides =
    (a b j : Net) (x y r : Run) → Apart a b j x y r → Interleaved a x y r → SameRun x (first_side a r) × SameRun y (second_side a b r)

-- two runs under one memory and denominator and with one end have an interleaving within the limits, if these hold their firings
abbrev pub SomeInterleaving : Type 0
SomeInterleaving =
    (a b j : Net) (x y : Run) → Joins a b [] j → run_checked a x ≡ Passed → run_checked b y ≡ Passed
    → x.memory ≡ y.memory → x.denominator ≡ y.denominator → end_instant x ≡ end_instant y → x.count + y.count ≤ 64
    → (r : Run) × (run_checked j r ≡ Passed) × Interleaved a x y r

-- so, where its sides are within the limits
abbrev pub RunExactly : Type 0
RunExactly =
    (a b j : Net) (r : Run) → Apart a b j (first_side a r) (second_side a b r) r
    → Allows j r ↔ ((x : Run) × (y : Run) × Apart a b j x y r × Interleaved a x y r × Allows a x × Allows b y)

-- "and its end marking is theirs side by side"
abbrev pub EndsAt : Net → Run → Timed → Type 0
EndsAt net r end = Allowed net (rule_for net r.memory) r.denominator (firings_of r) r.rest end

abbrev pub tokens_at : Net → Timed → List ℕ
tokens_at net S = first_of net.places 0 S.marking

abbrev pub JoinedMarking : Type 0
JoinedMarking =
    (a b j : Net) (x y r : Run) → Apart a b j x y r → Interleaved a x y r
    → (end first second : Timed) → EndsAt j r end → EndsAt a x first → EndsAt b y second → tokens_at j end ≡ tokens_at a first ++ tokens_at b second

-- ---- over cards it is the same, and values are joined as their cards, in which a number too long to write is no place
abbrev pub JoinOfCards : Type 0
JoinOfCards =
    ((s : List ℕ) (e : Refusal) → nets_and_pairs s ≡ refused e → join_cards s ≡ refusal e)
    × ((s : List ℕ) (a b : Net) (list : List ℕ) (next : ℕ) → nets_and_pairs s ≡ found (a, (b, list)) next → join_cards s ≡ join_values a b list)

abbrev pub join_input : Net → Net → List ℕ → List ℕ
join_input a b list = net_card.text a ++ (net_card.text b ++ pairs.text list)

abbrev pub JoinAsCards : Type 0
JoinAsCards = (a b : Net) (list : List ℕ) → join_values a b list ≡ join_cards (join_input (writable_net a) (writable_net b) (map writable list))

-- reading the cards and the line and writing them again gives back their bytes, and writing them and reading gives back the same values
abbrev pub JoinInverse : Type 0
JoinInverse =
    ((s : List ℕ) (a b : Net) (list : List ℕ) (next : ℕ) → nets_and_pairs s ≡ found (a, (b, list)) next → join_input a b list ≡ s)
    × ((a b : Net) (list : List ℕ) → net_card.check a 1 ≡ Passed → net_card.check b 1 ≡ Passed → Each (λ n. n < 10 ^ 9) list
    → (c : Net) × (d : Net) × (nets_and_pairs (join_input a b list) ≡ found (c, (d, list)) (length (join_input a b list))) × SameNet c a × SameNet d b)

-- ---- what demands 1 and 2 ask of every operation
abbrev pub JoinReplies : Type 0
JoinReplies = ((s : List ℕ) → Demanded (join_cards s)) × ((a b : Net) (list : List ℕ) → Demanded (join_values a b list))

abbrev pub JoinSlots : Type 0
JoinSlots = (a b c d : Net) (list : List ℕ) → SameNet a c → SameNet b d → join_values a b list ≡ join_values c d list
