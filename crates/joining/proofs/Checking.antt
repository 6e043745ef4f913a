-- The checks of two nets and a list in the order of the code, and what joining comes to after each of them.
use Prim.Native.Nat.{ℕ, ◌+◌, ◌/◌, ◌%◌, ◌≤◌, ◌<◌}
use native.Mathlib.Omega.{arith}
use mathlib.Core.Path.{◌≡◌, refl, sym, ap, ◌∙◌}
use mathlib.Core.Bool.{Bool, true, false, ◌&&◌, and-false}
use mathlib.Core.List.{List}
use lib.ListN.{length, get_or, take}
use lib.Dec.{leb, eqb}
use Rattle.std.proofs.lemmas.Bool.{le-leb, lt-leb}
use Rattle.std.proofs.lemmas.List.{get_or-take, length-take-le}
use Rattle.laws.specs.Each.{Each}
use Rattle.reply.specs.declared.Refusal.TheVariants.{BadPairs, UnequalStarts, TooLarge}
use Rattle.reply.specs.Respond.{refusal, Passed}
use Rattle.net.specs.declared.Net.{Net}
use Rattle.net.specs.Net.{net_card, net_text}
use Rattle.net.proofs.Card.{net_places}
use Rattle.std.specs.Prelude.{Option, Some, None, MatchOption, is_some}
use Rattle.std.specs.Simd.{first_chunks}
use Rattle.joining.specs.Joining.{pairs_of, firsts, seconds, among, distinct_places, equal_starts, unpaired, sources, pairs_checked, join_checked, join_of}
use Rattle.joining.specs.Code.{pairs_in, numbers_on, Seen, Named, Partnered, places_in, LaidOut, JoinedBy}
use Rattle.joining.proofs.Pairing.{chunk_pairs, numbers_first, numbers_second}
use Rattle.joining.proofs.Layouts.{length_places, length_sources}
use Rattle.joining.proofs.Counting.{long_list, pairs_named}
use Rattle.joining.proofs.Joins.{joined_passed}

-- more numbers than two nets have places
pub longer_list : (a b : Net) (list : List ℕ) → net_card.check a 1 ≡ Passed → net_card.check b 1 ≡ Passed → 32 < length list → join_of a b list ≡ refusal BadPairs
longer_list a b list p q h = rw (long_list a.places b.places list (net_places a p).1 (net_places b q).1 h) refl

-- two nets that passed their checks, and a list read two by two with what is left over
pub record Given (a b : Net) (list : List ℕ) (pairs : List (List ℕ)) (rest : List ℕ) : Type 0 where
  pub first : net_card.check a 1 ≡ Passed
  pub second : net_card.check b 1 ≡ Passed
  pub front : pairs ≡ first_chunks 2 (length list / 2) list
  pub back : length rest ≡ length list % 2

pub given : (a b : Net) (list : List ℕ) {pairs : List (List ℕ)} {rest : List ℕ} → net_card.check a 1 ≡ Passed → net_card.check b 1 ≡ Passed
    → pairs ≡ first_chunks 2 (length list / 2) list → length rest ≡ length list % 2 → Given a b list pairs rest
given a b list p q front back = record { first = p; second = q; front = front; back = back }

module _ {a b : Net} {list : List ℕ} {pairs : List (List ℕ)} {rest : List ℕ} (g : Given a b list pairs rest) where
  abbrev vs : List (ℕ × ℕ)
  vs = pairs_of list

  same : pairs_in pairs ≡ vs
  same = rw g.front (chunk_pairs list)

  ones : numbers_on 0 pairs ≡ firsts vs
  ones = numbers_first pairs ∙ ap firsts same

  twos : numbers_on 1 pairs ≡ seconds vs
  twos = numbers_second pairs ∙ ap seconds same

  -- ---- the list is odd, or one of its sides is wrong
  pub odd_list : false ≡ eqb (length rest) 0 → join_of a b list ≡ refusal BadPairs
  odd_list e = let odd : eqb (length list % 2) 0 ≡ false = sym (rw g.back at e) in rw odd refl

  pub wrong_first : (r : Option (List Bool)) → Seen a.places (numbers_on 0 pairs) r → is_some r ≡ false → join_of a b list ≡ refusal BadPairs
  wrong_first None seen e = let wrong : distinct_places a.places (firsts vs) ≡ false = rw ones at seen in rw (wrong, and-false (eqb (length list % 2) 0)) refl
  wrong_first (Some named) seen e = absurd (cc)

  pub wrong_second : distinct_places b.places (numbers_on 1 pairs) ≡ false → join_of a b list ≡ refusal BadPairs
  wrong_second e =
      let wrong : distinct_places b.places (seconds vs) ≡ false = rw twos at e in
      rw (wrong, and-false (eqb (length list % 2) 0 && distinct_places a.places (firsts vs))) refl

  -- ---- the list is right
  pub right_pairs : true ≡ eqb (length rest) 0 → (r : Option (List Bool)) → Seen a.places (numbers_on 0 pairs) r → is_some r ≡ true
      → distinct_places b.places (numbers_on 1 pairs) ≡ true → pairs_checked a.places b.places list ≡ Passed
  right_pairs e None seen i two = absurd (cc)
  right_pairs e (Some named) seen i two =
      let even : eqb (length list % 2) 0 ≡ true = sym (rw g.back at e) in
      let first : distinct_places a.places (firsts vs) ≡ true = rw ones at seen.0 in
      let second : distinct_places b.places (seconds vs) ≡ true = rw twos at two in
      rw (even, first, second) refl

  module _ (right : pairs_checked a.places b.places list ≡ Passed) where
    pub right_named : Each Named (pairs_in pairs)
    right_named = rw same (pairs_named a.places b.places list (net_places a g.first).1 (net_places b g.second).1 right)

    pub unequal_starts : equal_starts a.start b.start (pairs_in pairs) ≡ false → join_of a b list ≡ refusal UnequalStarts
    unequal_starts u = let unequal : equal_starts a.start b.start vs ≡ false = rw same at u in rw (right, unequal) refl

    module _ (e : equal_starts a.start b.start (pairs_in pairs) ≡ true) where
      equal : equal_starts a.start b.start vs ≡ true
      equal = rw same at e

      pub too_long : 32 < a.transitions + b.transitions → join_of a b list ≡ refusal TooLarge
      too_long h =
          rw (right, equal, lt-leb (a.transitions + b.transitions) 32 h, and-false (leb (a.places + length (unpaired vs b.places)) 16)) refl

      -- the places laid out, or too many
      module _ (named : List Bool) (long : length named ≡ 16) (marks : (k : ℕ) → k < 16 → get_or named k false ≡ among k (numbers_on 1 pairs)) {source : List (Option ℕ)}
          (partnered : Partnered (pairs_in pairs) source) where
        placed : {r : Option (List (Option ℕ))} → LaidOut source a.places (take b.places named) r
            → MatchOption r (16 < a.places + length (unpaired vs b.places)) (λ at. (length at ≤ 16) × (places_in at ≡ sources vs a.places b.places))
        placed laid =
            let few : b.places ≤ 16 = omega (arith, (net_places b g.second).1) in
            let cut : length (take b.places named) ≡ b.places = length-take-le b.places named (omega (arith, long, few)) in
            rw cut at (laid.laid vs
            (λ k h. let inside : k < b.places = omega (arith, h, cut) in
            get_or-take b.places named k false inside ∙ marks k (omega (arith, inside, few)) ∙ ap (among k) twos)
            (rw same at partnered))

        pub too_many : LaidOut source a.places (take b.places named) None → join_of a b list ≡ refusal TooLarge
        too_many laid = rw (right, equal, lt-leb (a.places + length (unpaired vs b.places)) 16 (placed laid)) refl

        module _ {at : List (Option ℕ)} (laid : LaidOut source a.places (take b.places named) (Some at)) where
          counted : length at ≡ a.places + length (unpaired vs b.places)
          counted = sym (length_places at) ∙ ap length (placed laid).1 ∙ length_sources vs a.places b.places

          pub first_there : a.places ≤ length at
          first_there = omega (arith, counted)

          pub answered : a.transitions + b.transitions ≤ 32 → {j : Net} → JoinedBy a b at j → net_text j ≡ join_of a b list
          answered short by =
              let few : length at ≤ 16 = (placed laid).0 in
              let all : join_checked a b list ≡ Passed =
              rw (right, equal, le-leb (a.places + length (unpaired vs b.places)) 16 (omega (arith, counted)), le-leb (a.transitions + b.transitions) 32 short)
              refl in
              rw (by.joined vs (placed laid).1, all, joined_passed a b list g.first g.second all) refl
