-- Values are joined as their cards. A number too long to write names no place, and neither does the largest that can be written, which stands for it.
use Rattle.std.specs.Prelude.{Err}
use Prim.Native.Nat.{ℕ, ◌+◌, ◌%◌, ◌^◌, ◌≤◌, ◌<◌}
use native.Mathlib.Omega.{arith}
use mathlib.Core.Path.{◌≡◌, refl, sym, ap, ◌∙◌}
use mathlib.Core.Bool.{Bool, true, false, cond}
use mathlib.Core.List.{List, [], ◌∷◌, ◌++◌, map}
use lib.ListN.{length}
use Rattle.laws.specs.Each.{Each, each_map, each_image}
use Rattle.reply.specs.declared.Refusal.TheVariants.{BadPairs}
use Rattle.reply.specs.Respond.{refusal, written_if, Checked, Passed}
use Rattle.form.specs.Form.{found_if, also, alone}
use Rattle.form.specs.Line.{writable}
use Rattle.form.proofs.Row.{row_told}
use Rattle.form.proofs.Writable.{writable_small}
use Rattle.net.specs.declared.Net.{Net}
use Rattle.net.specs.Net.{net_card}
use Rattle.net.specs.Same.{writable_net}
use Rattle.net.proofs.Card.{net_places, net_transitions}
use Rattle.net.proofs.Same.{net_same}
use Rattle.net.proofs.Writable.{net_told}
use Rattle.operations.specs.Operation.{once_checked, once_read}
use Rattle.joining.specs.Pairs.{pairs}
use Rattle.joining.specs.Joining.{pairs_of, joined_net, pairs_checked, starts_checked, size_checked}
use Rattle.joining.specs.Joining.{join_of, net_and_pairs, nets_and_pairs}
use Rattle.joining.specs.Code.{Named}
use Rattle.joining.specs.Request.{join_input, JoinAsCards}
use Rattle.joining.proofs.Inputs.{line_back}
use Rattle.joining.proofs.Counting.{pairs_test, pairs_passed, pairs_named}
use Rattle.joining.proofs.Joins.{same_joins}

-- ---- the numbers of a list that passes its check are below 16
list_named : (list : List ℕ) → length list % 2 ≡ 0 → Each Named (pairs_of list) → Each (λ n. n < 16) list
unfolding pairs_of
list_named [] even h = tt
list_named (p ∷ []) even h = absurd (omega arith)
list_named (p ∷ q ∷ list) even h = (h.0.0, (h.0.1, list_named list (omega arith) h.1))

-- ---- so a list that can be written as it is joins as it does, and any other is refused
named_kept : (list : List ℕ) → Each (λ n. writable n < 16) list → map writable list ≡ list
named_kept [] h = refl
named_kept (n ∷ list) h =
    let l = h.0 in
    let same : writable n ≡ n = omega arith in
    λ i. same i ∷ named_kept list h.1 i

cut_named : (list : List ℕ) → Each (λ n. n < 16) (map writable list) → Each (λ n. writable n < 16) list
cut_named [] h = tt
cut_named (n ∷ list) h = (h.0, cut_named list h.1)

module _ (a b : Net) (few : a.places ≤ 16) (few' : b.places ≤ 16) where
  abbrev right : List ℕ → Bool
  right = pairs_test a.places b.places

  right_named : (list : List ℕ) → right list ≡ true → Each (λ n. n < 16) list
  right_named list e =
      let passed : pairs_checked a.places b.places list ≡ Passed = rw e refl in
      list_named list (pairs_passed a.places b.places list passed).0 (pairs_named a.places b.places list few few' passed)

  wrong_refused : (list : List ℕ) → right list ≡ false → join_of a b list ≡ refusal BadPairs
  wrong_refused list e =
      let j = joined_net a b (pairs_of list) in
      let rest = also (starts_checked a.start b.start list) (size_checked j) in
      ap (λ (t : Bool). written_if (also (cond t Passed (Err BadPairs)) rest) (net_card.text j)) e

  cut_same : (list : List ℕ) → join_of a b (map writable list) ≡ join_of a b list
  cut_same list = go (right list) (right (map writable list)) refl refl
    where
      go : (t u : Bool) → right list ≡ t → right (map writable list) ≡ u → join_of a b (map writable list) ≡ join_of a b list
      go true u e e' =
          let named = right_named list e in
          ap (join_of a b) (named_kept list (each_map (λ (n : ℕ) (l : n < 16). omega arith) list named))
      go false true e e' =
          let named = right_named (map writable list) e' in
          ap (join_of a b) (named_kept list (cut_named list named))
      go false false e e' = wrong_refused (map writable list) e' ∙ sym (wrong_refused list e)

-- ---- values are told by their cards
module _ (a b : Net) (list : List ℕ) where
  abbrev cut : List ℕ
  cut = map writable list

  abbrev cut_input : List ℕ
  cut_input = join_input (writable_net a) (writable_net b) cut

  abbrev end : ℕ
  end = length (net_card.text (writable_net a)) + (length (net_card.text (writable_net b)) + length (pairs.text cut))

  cards_told : nets_and_pairs cut_input
      ≡ found_if (also (net_card.check a 1) (also (net_card.check b 1) Passed)) (net_card.clean a, (net_card.clean b, cut)) end
  cards_told =
      let u = net_card.text (writable_net b) in
      let v = pairs.text cut in
      row_told net_told (λ _. net_and_pairs) a (u ++ v) (also (net_card.check b 1) Passed) (net_card.clean b, cut) (length u + length v) (λ p.
      row_told net_told (λ _. alone pairs) b v Passed cut (length v) (λ q. line_back cut (each_image (λ n. n < 10 ^ 9) writable writable_small list)))

-- joining looks at no slot past the counts, and so not at what cleaning changes
pub join_as_cards : JoinAsCards
join_as_cards a b list = rw (cards_told a b list) (go (net_card.check a 1) (net_card.check b 1) refl refl)
  where
    go : (c d : Checked) → net_card.check a 1 ≡ c → net_card.check b 1 ≡ d → once_checked (also c d) (join_of a b list)
        ≡ once_read {A = Net × (Net × List ℕ)} (found_if (also c (also d Passed)) (net_card.clean a, (net_card.clean b, cut a b list)) (end a b list))
        (λ v. join_of v.0 v.1.0 v.1.1)
    go Passed Passed p q =
        let few = (net_places a p).1 in
        let few' = (net_places b q).1 in
        let first = net_same a few (net_transitions a p).1 in
        let second = net_same b few' (net_transitions b q).1 in
        sym (same_joins first second (cut a b list) ∙ cut_same a b few few' list)
    go Passed (Err e) p q = refl
    go (Err e) d p q = refl
