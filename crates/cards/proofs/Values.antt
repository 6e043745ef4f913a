-- A net and a run or an order of it, handed over as values, are checked as the input of their cards is read.
use Rattle.reply.specs.Respond.{Passed}
use Prim.Native.Nat.{ℕ, ◌≤◌}
use native.Mathlib.Nat.{min-eq_left}
use native.Mathlib.Omega.{arith}
use mathlib.Core.Path.{◌≡◌, refl, sym, ap, ◌∙◌}
use mathlib.Core.List.{List, ◌++◌}
use lib.ListN.{length, length-append}
use Rattle.form.specs.Form.{found, found_if, also, Form, alone}
use Rattle.form.specs.Line.{writable}
use Rattle.form.specs.Inverse.{Told}
use Rattle.form.proofs.Found.{also_first, also_second, judged_same}
use Rattle.form.proofs.Row.{row_told}
use Rattle.form.proofs.Writable.{alone_told, told_text_lem}
use Rattle.net.specs.declared.Net.{Net}
use Rattle.net.specs.Net.{net_card}
use Rattle.net.specs.Same.{writable_net}
use Rattle.net.proofs.Card.{net_inverse, net_settled, net_sheet, net_transitions}
use Rattle.net.proofs.Writable.{net_told}
use Rattle.run.specs.declared.Run.{Run}
use Rattle.run.specs.declared.Order.{Order}
use Rattle.run.specs.Run.{run_card, order_card}
use Rattle.run.specs.Same.{writable_run, writable_order}
use Rattle.run.proofs.Writable.{run_told_lem, order_told_lem}
use Rattle.cards.specs.Cards.{card_of, both_cards, run_cards, order_cards, run_checked, order_checked, input_of}
use Rattle.cards.proofs.OnNet.{Lawful, run_lawful, order_lawful}

module _ {A : Type 0} (card : ℕ → ℕ → Form A) {reach most : ℕ} (w : Lawful card reach most)
    (cut : A → A) (z : (sheet transitions : ℕ) → transitions ≤ 32 → Told (card sheet transitions) cut) (net : Net) (a : A) where
  -- the text of the card is the same for the net as its card holds it: sheet and counts of a net that passes can be written
  same_card : net_card.check net 1 ≡ Passed → (card (writable net.sheet) (writable net.transitions)).text (cut a) ≡ (card_of card net).text (cut a)
  same_card p =
      let sheet : writable net.sheet ≡ net.sheet = min-eq_left {m = 999999999} (omega (arith, net_sheet net p)) in
      let few : writable net.transitions ≡ net.transitions = min-eq_left {m = 999999999} (omega (arith, (net_transitions net p).1)) in
      rw (sheet, few) refl

  -- what passes its check can be written as it is
  input_same : net_card.check net 1 ≡ Passed → (card_of card net).check a 1 ≡ Passed → input_of card (writable_net net) (cut a) ≡ input_of card net a
  unfolding writable_net
  input_same p q =
      let few = (net_transitions net p).1 in
      let first = told_text_lem net_told net_inverse net_settled net 1 p in
      let second = told_text_lem (z net.sheet net.transitions few) ((w net).inverse few) (w net).settled a 1 q in
      ap (λ (l : List ℕ). l ++ (card (writable net.sheet) (writable net.transitions)).text (cut a)) first
      ∙ ap (λ (l : List ℕ). net_card.text net ++ l) (same_card p ∙ second)

  both_told : both_cards card (input_of card (writable_net net) (cut a))
      ≡ found_if (also (net_card.check net 1) ((card_of card net).check a 1)) (net_card.clean net, (card_of card net).clean a)
      (length (input_of card net a))
  unfolding writable_net
  both_told =
      let f = card_of card net in
      let t = net_card.text (writable_net net) in
      let u = (card (writable net.sheet) (writable net.transitions)).text (cut a) in
      let c = also (net_card.check net 1) (f.check a 1) in
      row_told net_told (λ n. alone (card_of card n)) net u (f.check a 1) (f.clean a) (length u)
      (λ p.
      rw (same_card p) (alone_told (z net.sheet net.transitions (net_transitions net p).1) a))
      ∙ judged_same c _ _ _ _ (λ p.
      let first = also_first (net_card.check net 1) (f.check a 1) p in
      let second = also_second (net_card.check net 1) (f.check a 1) p in
      ap (found (net_card.clean net, f.clean a)) (sym (length-append t u) ∙ ap length (input_same first second)))

-- a value is told by its check as its card is told by reading, a number too long to write standing as the largest that can be written
pub run_cards_told : (net : Net) (r : Run) → run_cards (input_of run_card (writable_net net) (writable_run r))
    ≡ found_if (run_checked net r) (net_card.clean net, (card_of run_card net).clean r) (length (input_of run_card net r))
run_cards_told = both_told run_card run_lawful writable_run run_told_lem

pub order_cards_told : (net : Net) (o : Order) → order_cards (input_of order_card (writable_net net) (writable_order o))
    ≡ found_if (order_checked net o) (net_card.clean net, (card_of order_card net).clean o) (length (input_of order_card net o))
order_cards_told = both_told order_card order_lawful writable_order order_told_lem

-- what passes its check is read back from its cards, up to the slots past the counts
pub run_input_back : (net : Net) (r : Run) → run_checked net r ≡ Passed
    → run_cards (input_of run_card net r) ≡ found (net_card.clean net, (card_of run_card net).clean r) (length (input_of run_card net r))
run_input_back net r p =
    let q = also_first (net_card.check net 1) _ p in
    let same = input_same run_card run_lawful writable_run run_told_lem net r q (also_second (net_card.check net 1) _ p) in
    ap run_cards (sym same) ∙ run_cards_told net r ∙ rw p refl

pub order_input_back : (net : Net) (o : Order) → order_checked net o ≡ Passed
    → order_cards (input_of order_card net o) ≡ found (net_card.clean net, (card_of order_card net).clean o) (length (input_of order_card net o))
order_input_back net o p =
    let q = also_first (net_card.check net 1) _ p in
    let same = input_same order_card order_lawful writable_order order_told_lem net o q (also_second (net_card.check net 1) _ p) in
    ap order_cards (sym same) ∙ order_cards_told net o ∙ rw p refl
