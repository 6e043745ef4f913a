-- The sentences of document 02, "Sorter and changer on one drawing", each under the name of its statement (specs/Request.antt): here those about runs, and
-- by name those about the joined net, its refusals and its cards.
use Prim.Native.Nat.{ℕ, ◌<◌}
use mathlib.Core.Path.{sym, subst}
use mathlib.Core.Logic.{◌↔◌}
use mathlib.Core.List.{List, [], map}
use Rattle.laws.specs.Each.{Each, each_map}
use Rattle.reply.specs.Respond.{Answered}
use Rattle.form.specs.Line.{writable}
use Rattle.net.specs.declared.Net.{Net}
use Rattle.net.specs.Same.{writable_net}
use Rattle.run.specs.declared.Firing.{Firing}
use Rattle.run.specs.declared.Memory.{Memory}
use Rattle.run.specs.declared.Run.{Run}
use Rattle.run.specs.Run.{firings_of}
use Rattle.run.specs.Same.{SameRun}
use Rattle.run.proofs.Same.{same_firings}
use Rattle.firing.specs.Semantics.{Timed, Allowed}
use Rattle.operations.specs.Demands.{rule_for, Allows}
use Rattle.operations.specs.Outcomes.{OnRun, values_of}
use Rattle.operations.proofs.Demands.{accepted_exactly}
use Rattle.joining.specs.Interleaving.{Interleaved, first_side, second_side}
use Rattle.joining.specs.Request.{Apart, EndsAt, InterleavedExactly, SidesInterleaved, InterleavedSides, SomeInterleaving, RunExactly, JoinedMarking}
use Rattle.joining.specs.Request.{join_input, JoinReplies}
use Rattle.joining.proofs.Inputs.{cards_replies}
use Rattle.joining.proofs.AsCards.{join_as_cards}
use Rattle.joining.proofs.Sides.{run_fits, sides_of, no_other_sides}
use Rattle.joining.proofs.Interleavings.{has_interleaving}
use Rattle.joining.proofs.Replayed.{allows_sides, joined_ends}
use Rattle.joining.proofs.Unpaired.{joins_passed, side_by_side}
pub use Rattle.joining.proofs.Joins.{joined_exactly, join_slots}
pub use Rattle.joining.proofs.Drawing.{joined_parts}
pub use Rattle.joining.proofs.Refusing.{refused_in_order}
pub use Rattle.joining.proofs.Inputs.{join_of_cards, join_inverse}
pub use Rattle.joining.proofs.AsCards.{join_as_cards}

-- ---- runs that agree in all that counts
same_ends : (net : Net) {x y : Run} → SameRun x y → (end : Timed) → EndsAt net x end → EndsAt net y end
same_ends net same end h =
    subst (λ (v : Memory × (ℕ × (List Firing × ℕ))). Allowed net (rule_for net v.0) v.1.0 v.1.1.0 v.1.1.1 end)
    (λ i. (same.memory i, (same.denominator i, (same_firings same i, same.rest i)))) h

same_allows : (net : Net) {x y : Run} → SameRun x y → Allows net x → Allows net y
same_allows net same (end, h) = (end, same_ends net same end h)

same_back : {x y : Run} → SameRun x y → SameRun y x
same_back {x} {y} same =
    record {
      sheet = sym same.sheet;
      memory = sym same.memory;
      denominator = sym same.denominator;
      count = sym same.count;
      firings = λ i h. sym (same.firings i (rw (← same.count) h));
      rest = sym same.rest;
    }

-- ---- runs of nets joined with no pairs
module _ (a b j : Net) (x y r : Run) (w : Apart a b j x y r) where
  listed : Each (λ (f : Firing). f.fire < j.transitions) (firings_of r)
  listed = each_map (λ f h. h.1) (firings_of r) (run_fits j r w.joined_within).each

  module _ (i : Interleaved a x y r) where
    same : SameRun x (first_side a r) × SameRun y (second_side a b r)
    same = no_other_sides a b x y r w.first_within w.second_within i

    exactly : Allows j r ↔ (Allows a x × Allows b y)
    exactly =
        let s = allows_sides (side_by_side a b j w.joins) r listed in (
          λ h. let k = s.0 h in (same_allows a (same_back same.0) k.0, same_allows b (same_back same.1) k.1),
          λ h. s.1 (same_allows a same.0 h.0, same_allows b same.1 h.1),
        )

    answered : (what : OnRun) → Answered (values_of what j r) ↔ (Answered (values_of what a x) × Answered (values_of what b y))
    answered what =
        let whole = accepted_exactly what j r in
        let first = accepted_exactly what a x in
        let second = accepted_exactly what b y in (
          λ h. let k = exactly.0 (whole.0 h).1 in (first.1 (w.first_within, k.0), second.1 (w.second_within, k.1)),
          λ h. whole.1 (w.joined_within, exactly.1 ((first.0 h.0).1, (second.0 h.1).1)),
        )

pub interleaved_exactly : InterleavedExactly
interleaved_exactly a b j x y r w i = (exactly a b j x y r w i, answered a b j x y r w i)

pub sides_interleaved : SidesInterleaved
sides_interleaved a b j r h within = sides_of a b r

pub interleaved_sides : InterleavedSides
interleaved_sides a b j x y r w i = same a b j x y r w i

pub some_interleaving : SomeInterleaving
some_interleaving a b j x y h = has_interleaving a b j x y (joins_passed a b j [] h) (side_by_side a b j h).transitions

pub run_exactly : RunExactly
run_exactly a b j r w =
    let i = sides_of a b r in
    let s = exactly a b j (first_side a r) (second_side a b r) r w i in (
      λ h. let k = s.0 h in (first_side a r, second_side a b r, w, i, k.0, k.1),
      λ (x, y, v, k, mine, others). (exactly a b j x y r v k).1 (mine, others),
    )

pub joined_marking : JoinedMarking
joined_marking a b j x y r w i end first second whole mine others =
    let e = same a b j x y r w i in
    joined_ends (side_by_side a b j w.joins) r (listed a b j x y r w) end first second whole
    (same_ends a e.0 first mine) (same_ends b e.1 second others)

-- ---- what every reply is asked for: of values as of their cards
pub join_replies : JoinReplies
join_replies = (cards_replies, λ a b list. rw (join_as_cards a b list) (cards_replies (join_input (writable_net a) (writable_net b) (map writable list))))
