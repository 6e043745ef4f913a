-- Both round trips of run and order cards of a net, from the laws of their forms; and how much of an input a reading looks at.
use Prim.Native.Nat.{ℕ, ◌+◌, ◌≤◌, ◌<◌}
use mathlib.Core.Path.{◌≡◌, ap, ◌∙◌}
use mathlib.Core.Logic.{◌↔◌}
use mathlib.Core.List.{List}
use lib.ListN.{length, take}
use Rattle.reply.specs.Respond.{answer, Passed}
use Rattle.reply.proofs.Laws.{written_answer}
use Rattle.form.specs.Form.{found, Form}
use Rattle.form.proofs.Found.{also_first, also_second}
use Rattle.net.specs.declared.Net.{Net}
use Rattle.net.specs.Net.{net_card}
use Rattle.net.specs.Same.{SameNet}
use Rattle.net.proofs.Card.{net_reach, net_places, net_transitions}
use Rattle.run.specs.declared.Run.{Run}
use Rattle.run.specs.declared.Order.{Order}
use Rattle.run.specs.Run.{run_card, order_card}
use Rattle.run.proofs.Card.{run_reach, order_reach}
use Rattle.run.specs.Same.{SameRun, SameOrder}
use Rattle.run.proofs.Ranges.{run_in_ranges, order_in_ranges}
use Rattle.run.proofs.Same.{run_same, order_same}
use Rattle.cards.specs.Cards.{card_of, input_of, read_run, read_order, run_cards, order_cards, run_checked, order_checked, run_text, order_text}
use Rattle.cards.proofs.OnNet.{run_lawful, order_lawful, card_read_back, card_written_again, card_passes_exactly, card_short, both_near, both_was}

-- nets that agree in all that counts have the same cards
pub same_card : {A : Type 0} (card : ℕ → ℕ → Form A) {a b : Net} → SameNet a b → card_of card a ≡ card_of card b
same_card card {a} {b} s = ap (λ (n : ℕ). card n a.transitions) s.sheet ∙ ap (card b.sheet) s.transitions

module _ (net : Net) where
  few : net_card.check net 1 ≡ Passed → net.transitions ≤ 32
  few p = (net_transitions net p).1

  -- what was written is read back, up to the slots past the count
  pub run_read_back : (r : Run) (bytes : List ℕ) → run_text net r ≡ answer bytes → read_run net bytes ≡ found ((card_of run_card net).clean r) (length bytes)
  run_read_back = card_read_back (net_card.check net 1) (card_of run_card net) few (run_lawful net)

  pub order_read_back : (o : Order) (bytes : List ℕ) → order_text net o ≡ answer bytes
      → read_order net bytes ≡ found ((card_of order_card net).clean o) (length bytes)
  order_read_back = card_read_back (net_card.check net 1) (card_of order_card net) few (order_lawful net)

  -- what was read and is written again gives its bytes back
  pub run_written_again : {r : Run} {next : ℕ} (s : List ℕ) → read_run net s ≡ found r next → run_text net r ≡ answer s
  run_written_again = card_written_again (net_card.check net 1) (card_of run_card net) few (run_lawful net)

  pub order_written_again : {o : Order} {next : ℕ} (s : List ℕ) → read_order net s ≡ found o next → order_text net o ≡ answer s
  order_written_again = card_written_again (net_card.check net 1) (card_of order_card net) few (order_lawful net)

  -- the check lets pass exactly what is read back
  pub run_passes_exactly : (r : Run) → (run_checked net r ≡ Passed)
      ↔ (read_run net ((card_of run_card net).text r) ≡ found ((card_of run_card net).clean r) (length ((card_of run_card net).text r)))
  run_passes_exactly = card_passes_exactly (net_card.check net 1) (card_of run_card net) few (run_lawful net)

  -- a run with nothing in the slots past its count is read back as it is
  pub run_reads_itself : (r : Run) → run_checked net r ≡ Passed → (card_of run_card net).clean r ≡ r
      → read_run net ((card_of run_card net).text r) ≡ found r (length ((card_of run_card net).text r))
  run_reads_itself r p clean = (run_passes_exactly r).0 p ∙ ap (λ (x : Run). found x (length ((card_of run_card net).text r))) clean

  pub order_passes_exactly : (o : Order) → (order_checked net o ≡ Passed)
      ↔ (read_order net ((card_of order_card net).text o) ≡ found ((card_of order_card net).clean o) (length ((card_of order_card net).text o)))
  order_passes_exactly = card_passes_exactly (net_card.check net 1) (card_of order_card net) few (order_lawful net)

  pub run_short : (r : Run) → run_checked net r ≡ Passed → length ((card_of run_card net).text r) ≤ run_reach
  run_short = card_short (net_card.check net 1) (card_of run_card net) few (run_lawful net)

  pub order_short : (o : Order) → order_checked net o ≡ Passed → length ((card_of order_card net).text o) ≤ order_reach
  order_short = card_short (net_card.check net 1) (card_of order_card net) few (order_lawful net)

  -- the counts of a run and of an order of a net that pass
  pub run_counts : (r : Run) → run_checked net r ≡ Passed → (net.places ≤ 16) × (net.transitions ≤ 32) × (r.count ≤ 64)
  run_counts r p =
      let q = also_first (net_card.check net 1) _ p in
      ((net_places net q).1, (net_transitions net q).1, ((run_in_ranges net.sheet net.transitions r).0 (also_second (net_card.check net 1) _ p)).few)

  pub order_counts : (o : Order) → order_checked net o ≡ Passed → (net.places ≤ 16) × (net.transitions ≤ 32) × (o.count ≤ 64)
  order_counts o p =
      let q = also_first (net_card.check net 1) _ p in
      ((net_places net q).1, (net_transitions net q).1, (order_in_ranges net.sheet net.transitions o (also_second (net_card.check net 1) _ p)).few)

  -- writing a run or an order and reading it gives back the same one
  pub run_comes_back : (r : Run) (bytes : List ℕ) → run_text net r ≡ answer bytes
      → (back : Run) × (read_run net bytes ≡ found back (length bytes)) × SameRun back r
  run_comes_back r bytes e =
      let p = (written_answer (run_checked net r) ((card_of run_card net).text r) e).0 in
      ((card_of run_card net).clean r, run_read_back r bytes e, run_same net.sheet net.transitions r (run_counts r p).2)

  pub order_comes_back : (o : Order) (bytes : List ℕ) → order_text net o ≡ answer bytes
      → (back : Order) × (read_order net bytes ≡ found back (length bytes)) × SameOrder back o
  order_comes_back o bytes e =
      let p = (written_answer (order_checked net o) ((card_of order_card net).text o) e).0 in
      ((card_of order_card net).clean o, order_read_back o bytes e, order_same net.sheet net.transitions o (order_counts o p).2)

-- a program whose buffer holds the first k bytes loses nothing
pub run_cards_prefix : (s : List ℕ) (k : ℕ) → net_reach + run_reach < k → run_cards (take k s) ≡ run_cards s
run_cards_prefix = (both_near run_card run_lawful).prefix

pub order_cards_prefix : (s : List ℕ) (k : ℕ) → net_reach + order_reach < k → order_cards (take k s) ≡ order_cards s
order_cards_prefix = (both_near order_card order_lawful).prefix

-- what was read passes its check, and written again it is the input
pub run_cards_passed : (s : List ℕ) {net : Net} {r : Run} {end : ℕ} → run_cards s ≡ found (net, r) end → run_checked net r ≡ Passed
run_cards_passed s e = (both_was run_card run_lawful s e).passed

pub order_cards_passed : (s : List ℕ) {net : Net} {o : Order} {end : ℕ} → order_cards s ≡ found (net, o) end → order_checked net o ≡ Passed
order_cards_passed s e = (both_was order_card order_lawful s e).passed

pub run_input_again : (s : List ℕ) {net : Net} {r : Run} {next : ℕ} → run_cards s ≡ found (net, r) next → (input_of run_card net r ≡ s) × (next ≡ length s)
run_input_again s e = let w = both_was run_card run_lawful s e in (w.bytes, w.end)

pub order_input_again : (s : List ℕ) {net : Net} {o : Order} {next : ℕ} → order_cards s ≡ found (net, o) next → (input_of order_card net o ≡ s) × (next ≡ length s)
order_input_again s e = let w = both_was order_card order_lawful s e in (w.bytes, w.end)
