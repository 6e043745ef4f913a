-- The operations on cards of a net: what each finds, by the forms of the cards.
use Rattle.std.specs.Prelude.{ℕ, List, ◌++◌, Err}
use Rattle.reply.specs.Respond.{Outcome, written_if, Checked, Passed}
use Rattle.form.specs.Form.{Found, refused, also, Form, front, alone, follow}
use Rattle.net.specs.declared.Net.{Net}
use Rattle.net.specs.Net.{net_card}
use Rattle.run.specs.declared.Run.{Run}
use Rattle.run.specs.declared.Order.{Order}
use Rattle.run.specs.Run.{run_card, order_card}

-- what is read only of a net that passes its check: the net first
abbrev pub on_net : {A : Type 0} → Checked → Found A → Found A
on_net Passed f = f
on_net (Err r) f = refused r

-- a card of a net: on its sheet, with so many transitions
abbrev pub card_of : {A : Type 0} → (ℕ → ℕ → Form A) → Net → Form A
card_of card net = card net.sheet net.transitions

-- the whole of an input as a card of a net, whichever its form: a run card, and an order card
abbrev pub read_card : {A : Type 0} → (ℕ → ℕ → Form A) → Net → List ℕ → Found A
read_card card net s = on_net (net_card.check net 1) (alone (card_of card net) s)

abbrev pub read_run : Net → List ℕ → Found Run
read_run = read_card run_card

abbrev pub read_order : Net → List ℕ → Found Order
read_order = read_card order_card

-- a net card and, right behind it, a card of that net
abbrev pub both_cards : {A : Type 0} → (ℕ → ℕ → Form A) → List ℕ → Found (Net × A)
both_cards card = follow (front net_card) (λ net. alone (card_of card net))

abbrev pub run_cards : List ℕ → Found (Net × Run)
run_cards = both_cards run_card

abbrev pub order_cards : List ℕ → Found (Net × Order)
order_cards = both_cards order_card

-- a net card and, right behind it, the cards of two runs of that net
abbrev pub two_runs : List ℕ → Found (Net × (Run × Run))
two_runs = follow (front net_card) (λ net. follow (front (card_of run_card net)) (λ _. alone (card_of run_card net)))

-- what has a card of a net, a run, an order and two runs of it, handed over as values: the net first
abbrev pub card_checked : {A : Type 0} → (ℕ → ℕ → Form A) → Net → A → Checked
card_checked card net a = also (net_card.check net 1) ((card_of card net).check a 1)

abbrev pub run_checked : Net → Run → Checked
run_checked = card_checked run_card

abbrev pub order_checked : Net → Order → Checked
order_checked = card_checked order_card

abbrev pub two_runs_checked : Net → Run → Run → Checked
two_runs_checked net x y = also (net_card.check net 1) (also ((card_of run_card net).check x 1) ((card_of run_card net).check y 1))

-- the card of a value, of a run and of an order
abbrev pub card_text : {A : Type 0} → (ℕ → ℕ → Form A) → Net → A → Outcome
card_text card net a = written_if (card_checked card net a) ((card_of card net).text a)

abbrev pub run_text : Net → Run → Outcome
run_text = card_text run_card

abbrev pub order_text : Net → Order → Outcome
order_text = card_text order_card

-- the input that a net and a card behind it make
abbrev pub input_of : {A : Type 0} → (ℕ → ℕ → Form A) → Net → A → List ℕ
input_of card net a = net_card.text net ++ (card_of card net).text a

-- and that of a net and two runs of it
abbrev pub two_runs_input : Net → Run → Run → List ℕ
two_runs_input net x y = net_card.text net ++ ((card_of run_card net).text x ++ (card_of run_card net).text y)
