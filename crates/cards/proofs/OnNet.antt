-- A card of a net, whichever its form: the net is judged first, and then the card is read, checked and written as any other.
use Rattle.std.specs.Prelude.{Err}
use Prim.Native.Nat.{ℕ, ◌+◌, ◌≤◌}
use native.Mathlib.Omega.{arith}
use mathlib.Core.Path.{◌≡◌, refl, sym, ap, subst, ◌∙◌}
use mathlib.Core.Logic.{◌↔◌}
use mathlib.Core.List.{List, ◌++◌}
use lib.ListN.{length, drop, length-append}
use Rattle.reply.specs.Respond.{answer, written_if, Checked, Passed}
use Rattle.reply.proofs.Laws.{written_answer}
use Rattle.form.specs.Form.{Found, found, also, Form, front, alone}
use Rattle.form.specs.Inverse.{Format}
use Rattle.form.proofs.Found.{not_both, also_first, also_second}
use Rattle.form.proofs.Card.{text_short, alone_read_back, alone_written_again, alone_passes_exactly}
use Rattle.form.proofs.Row.{Near, front_near, alone_near, follow_near, row_read}
use Rattle.net.specs.declared.Net.{Net}
use Rattle.net.specs.Net.{net_card}
use Rattle.net.proofs.Card.{net_reach, net_inverse, net_reaches, net_transitions}
use Rattle.run.specs.Run.{run_card, order_card}
use Rattle.run.proofs.Card.{run_reach, order_reach, run_format, order_format}
use Rattle.cards.specs.Cards.{card_of, on_net, both_cards, input_of}

-- a card of a net is a format, for every net that has few transitions
abbrev pub Lawful : {A : Type 0} → (ℕ → ℕ → Form A) → ℕ → ℕ → Type 0
Lawful card reach most = (net : Net) → Format (net.transitions ≤ 32) (card_of card net) reach most

pub run_lawful : Lawful run_card run_reach 133
run_lawful net = run_format net.sheet net.transitions

pub order_lawful : Lawful order_card order_reach 67
order_lawful net = order_format net.sheet net.transitions

on_net_found : {A : Type 0} (c : Checked) (m : Found A) {a : A} {next : ℕ} → on_net c m ≡ found a next → (c ≡ Passed) × (m ≡ found a next)
on_net_found Passed m e = (refl, e)
on_net_found (Err r) m e = absurd (not_both e)

-- c is the check of the net
module _ {A : Type 0} (c : Checked) (f : Form A) {P : Type 0} {reach most : ℕ} (few : c ≡ Passed → P) (w : Format P f reach most) where
  pub card_read_back : (a : A) (bytes : List ℕ) → written_if (also c (f.check a 1)) (f.text a) ≡ answer bytes
      → on_net c (alone f bytes) ≡ found (f.clean a) (length bytes)
  card_read_back a bytes e =
      let h = written_answer (also c (f.check a 1)) (f.text a) e in
      let p = also_first c (f.check a 1) h.0 in
      let back = alone_read_back (w.inverse (few p)) a (also_second c (f.check a 1) h.0) in
      rw p (subst (λ (t : List ℕ). alone f t ≡ found (f.clean a) (length t)) h.1 back)

  pub card_written_again : {a : A} {next : ℕ} (s : List ℕ) → on_net c (alone f s) ≡ found a next → written_if (also c (f.check a 1)) (f.text a) ≡ answer s
  card_written_again s e =
      let h = on_net_found c (alone f s) e in
      let u = alone_written_again (w.inverse (few h.0)) s h.1 in
      rw (h.0, u.passed) (ap answer (sym u.bytes))

  pub card_passes_exactly : (a : A) → (also c (f.check a 1) ≡ Passed) ↔ (on_net c (alone f (f.text a)) ≡ found (f.clean a) (length (f.text a)))
  card_passes_exactly a = (
    λ p. let q = also_first c (f.check a 1) p in rw q (alone_read_back (w.inverse (few q)) a (also_second c (f.check a 1) p)),
    λ e. let h = on_net_found c (alone f (f.text a)) e in rw h.0 ((alone_passes_exactly (w.inverse (few h.0)) w.settled a).1 h.1),
  )

  pub card_short : (a : A) → also c (f.check a 1) ≡ Passed → length (f.text a) ≤ reach
  card_short a p =
      let h = few (also_first c (f.check a 1) p) in
      text_short (w.inverse h) (w.reaches h) a (also_second c (f.check a 1) p)

-- a net that was read has few transitions
pub read_few : (s : List ℕ) {net : Net} {next : ℕ} → front net_card s ≡ found net next → net.transitions ≤ 32
read_few s {net} {next} e = (net_transitions net (net_inverse.written_read net s 0 next 1 e).passed).1

-- a reading of both cards looks at as much as the two readings together
pub both_near : {A : Type 0} (card : ℕ → ℕ → Form A) {reach most : ℕ} → Lawful card reach most
    → Near (both_cards card) (net_reach + reach)
both_near card w = follow_near (front_near net_reaches) (λ s net next e. alone_near ((w net).reaches (read_few s e)))

-- an input that was read as a net card and a card of that net: it is what both write, and they pass their checks
pub record BothRead {A : Type 0} (card : ℕ → ℕ → Form A) (v : Net × A) (s : List ℕ) (next : ℕ) : Type 0 where
  pub bytes : input_of card v.0 v.1 ≡ s
  pub end : next ≡ length s
  pub passed : also (net_card.check v.0 1) ((card_of card v.0).check v.1 1) ≡ Passed

pub both_was : {A : Type 0} (card : ℕ → ℕ → Form A) {reach most : ℕ} → Lawful card reach most
    → (s : List ℕ) {v : Net × A} {next : ℕ}
    → both_cards card s ≡ found v next → BothRead card v s next
both_was card w s {v} e =
    let text = net_card.text v.0 in
    let row = row_read net_inverse (λ net. alone (card_of card net)) s e in
    let few = (net_transitions v.0 row.passed).1 in
    let second = alone_written_again ((w v.0).inverse few) (drop (length text) s) row.there in
    record {
      bytes = ap (λ (l : List ℕ). text ++ l) (sym second.bytes) ∙ sym row.bytes;
      end = omega (arith, row.in_all, second.end, ap length row.bytes ∙ length-append text (drop (length text) s));
      passed = rw row.passed second.passed;
    }
