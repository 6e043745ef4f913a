-- A refusal of the cards of an input names a line of its card. A net card has the most lines, 147; behind a whole card one line more can be named.
use Prim.Native.Nat.{ℕ, ◌≤◌}
use native.Mathlib.Omega.{arith}
use mathlib.Core.Path.{◌≡◌}
use mathlib.Core.List.{List}
use lib.ListN.{drop}
use Rattle.reply.specs.declared.Refusal.{Refusal}
use Rattle.form.specs.Form.{refused, Form, front, alone, follow}
use Rattle.form.specs.Inverse.{Among}
use Rattle.form.proofs.Places.{among_more, alone_placed}
use Rattle.form.proofs.Row.{row_refused}
use Rattle.net.specs.Net.{net_card}
use Rattle.net.proofs.Card.{net_placed}
use Rattle.run.specs.Run.{run_card, order_card}
use Rattle.cards.specs.Cards.{card_of, both_cards, run_cards, order_cards, two_runs}
use Rattle.cards.proofs.OnNet.{Lawful, run_lawful, order_lawful, read_few}

both_placed : {A : Type 0} (card : ℕ → ℕ → Form A) {reach n : ℕ} → Lawful card reach n → n ≤ 146
    → (s : List ℕ) {r : Refusal}
    → both_cards card s ≡ refused r → Among 1 147 r
both_placed card w h s {r} =
    row_refused (front net_card) (λ net. alone (card_of card net)) s (net_placed.named r s 0 1)
    (λ net next e q.
    among_more (omega arith) (alone_placed (card_of card net) ((w net).placed (read_few s e)) (drop next s) q))

pub run_cards_placed : (s : List ℕ) {r : Refusal} → run_cards s ≡ refused r → Among 1 147 r
run_cards_placed = both_placed run_card run_lawful (omega arith)

pub order_cards_placed : (s : List ℕ) {r : Refusal} → order_cards s ≡ refused r → Among 1 147 r
order_cards_placed = both_placed order_card order_lawful (omega arith)

pub two_runs_placed : (s : List ℕ) {r : Refusal} → two_runs s ≡ refused r → Among 1 147 r
two_runs_placed s {r} =
    row_refused (front net_card) (λ net. follow (front (card_of run_card net)) (λ _. alone (card_of run_card net))) s (net_placed.named r s 0 1)
    (λ net next e.
    let card = card_of run_card net in
    let placed = (run_lawful net).placed (read_few s e) in
    let rest = drop next s in
    row_refused (front card) (λ _. alone card) rest (λ q. among_more (omega arith) (placed.named r rest 0 1 q))
    (λ x end p q. among_more (omega arith) (alone_placed card placed (drop end rest) q)))
