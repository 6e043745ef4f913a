-- Nets joined with no pairs stand side by side: the second net's places and transitions lie behind the first's, and neither touches the other's.
use Prim.Native.Nat.{ℕ, zero, suc, ◌+◌, ◌-◌, ◌≤◌, ◌<◌}
use native.Mathlib.Nat.{zero-add}
use native.Mathlib.Omega.{arith}
use mathlib.Core.Path.{◌≡◌}
use mathlib.Core.Logic.{⊎_elim}
use mathlib.Core.List.{List, []}
use lib.ListN.{length}
use Rattle.reply.specs.Respond.{Passed}
use Rattle.form.proofs.Card.{alone_found}
use Rattle.net.specs.declared.Net.{Net}
use Rattle.net.specs.Net.{takes_in, gives_in, net_card}
use Rattle.net.proofs.Card.{net_inverse, net_places, net_transitions, net_start}
use Rattle.joining.specs.Claims.{Unpaired, OnOneDrawing}
use Rattle.joining.specs.Request.{Joins}
use Rattle.joining.proofs.Drawing.{joined_parts}
use Rattle.joining.proofs.Embedded.{Outside}
use Rattle.joining.proofs.Replayed.{SideBySide}

-- no place is in a pair, so that those of the second net, which keep their order, can only follow one another
module _ {a b j : Net} (w : OnOneDrawing a b [] j) where
  in_no_pair : (q : ℕ) → Unpaired [] q
  in_no_pair q i h e = omega arith

  at_least : (q : ℕ) → q < b.places → a.places + q ≤ w.at q
  at_least zero h = omega (arith, (w.behind 0 h (in_no_pair 0)).0)
  at_least (suc q) h = omega (arith, at_least q (omega arith), w.in_order q (suc q) (omega arith) h (in_no_pair q) (in_no_pair (suc q)))

  at_most : (left q : ℕ) → q + suc left ≡ b.places → w.at q + suc left ≤ j.places
  at_most zero q e = omega (arith, (w.behind q (omega arith) (in_no_pair q)).1)
  at_most (suc left) q e =
      omega (arith, at_most left (suc q) (omega arith), w.in_order q (suc q) (omega arith) (omega arith) (in_no_pair q) (in_no_pair (suc q)))

  one_by_one : (q : ℕ) → q < b.places → w.at q ≡ a.places + q
  one_by_one q h = omega (arith, at_least q h, at_most (b.places - suc q) q (omega arith), w.places)

-- the joined net is within the limits of a card
pub joins_passed : (a b j : Net) (list : List ℕ) → Joins a b list j → net_card.check j 1 ≡ Passed
joins_passed a b j list (bytes, e, r) = let f = alone_found net_card bytes r in (net_inverse.written_read j bytes 0 (length bytes) 1 f.0).passed

-- the first net keeps its places and transitions and touches none of the second's places; the second stands behind and touches none of the first's
pub side_by_side : (a b j : Net) → Joins a b [] j → SideBySide a b j
side_by_side a b j h =
    let w = joined_parts a b j [] h in
    let at = one_by_one w in
    let passed = joins_passed a b j [] h in
    let all : j.places ≡ a.places + b.places = omega (arith, w.places) in
    let few : j.places ≤ 16 = (net_places j passed).1 in
    let short : j.transitions ≤ 32 = (net_transitions j passed).1 in
    let second_else : (t p : ℕ) → t < b.transitions → p < j.places → Outside b a.places p
    → (takes_in j.take (a.transitions + t) p ≡ 0) × (gives_in j.give (a.transitions + t) p ≡ 0) =
    λ t p l k o. w.second_else t p l k (λ q m e. ⊎_elim (λ u. omega (arith, at q m)) (λ u. omega (arith, at q m)) o) in
    let past : (p : ℕ) → Outside a 0 p → a.places ≤ p = λ p o. ⊎_elim (λ u. omega arith) (λ u. omega arith) o in
    record {
      first = record {
        few_places = few;
        few_transitions = short;
        places = omega arith;
        transitions = omega (arith, w.transitions);
        take = λ t p l k. rw (zero-add t, zero-add p) (w.first_take t p l k);
        give = λ t p l k. rw (zero-add t, zero-add p) (w.first_give t p l k);
        take_else = λ t p l k o. rw (zero-add t) (w.first_else t p l (past p o) k).0;
        give_else = λ t p l k o. rw (zero-add t) (w.first_else t p l (past p o) k).1;
        interval = λ t l. rw (zero-add t) (w.first_interval t l);
      };
      second = record {
        few_places = few;
        few_transitions = short;
        places = omega arith;
        transitions = omega (arith, w.transitions);
        take = λ t q l k. rw (← at q k) (w.second_take t q l k);
        give = λ t q l k. rw (← at q k) (w.second_give t q l k);
        take_else = λ t p l k o. (second_else t p l k o).0;
        give_else = λ t p l k o. (second_else t p l k o).1;
        interval = w.second_interval;
      };
      places = all;
      transitions = w.transitions;
      first_start = λ p l. rw (zero-add p) (w.first_start p l);
      second_start = λ q l. rw (← at q l) (w.second_start q l);
      few = net_start j passed;
    }
