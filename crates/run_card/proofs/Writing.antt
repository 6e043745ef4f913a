-- The card of a value that passes its check fits into the buffer of its writer, and then its text stands at the front of it.
use Rattle.reply.specs.Respond.{Passed}
use Prim.Native.Nat.{ℕ, ◌≤◌}
use native.Mathlib.Omega.{arith}
use mathlib.Core.Path.{◌≡◌, subst}
use mathlib.Core.List.{List}
use lib.ListN.{length}
use Rattle.laws.specs.Writing.{Puts, wrote_puts, Wrote}
use Rattle.form.specs.Form.{Form}
use Rattle.form.proofs.Found.{also_first, also_second}
use Rattle.net.specs.declared.Net.{Net}
use Rattle.net.specs.Net.{net_card}
use Rattle.net.proofs.Card.{net_transitions}
use Rattle.cards.specs.Cards.{card_of, card_checked}

module _ {A : Type 0} (card : ℕ → ℕ → Form A) (same : (own n : ℕ) (a : A) → (card 0 0).text a ≡ (card own n).text a)
    (short : (own n : ℕ) (a : A) → n ≤ 32 → (card own n).check a 1 ≡ Passed → length ((card own n).text a) ≤ 2048) where
  pub card_written : (net : Net) (a : A) {s : List ℕ} {to : ℕ} {out : List ℕ} → card_checked card net a ≡ Passed
      → Puts s 0 ((card 0 0).text a) to out → 2048 ≤ length s → Wrote s 0 ((card_of card net).text a) to out
  card_written net a {s} {to} {out} p w room =
      let few = (net_transitions net (also_first (net_card.check net 1) _ p)).1 in
      let fits = short net.sheet net.transitions a few (also_second (net_card.check net 1) _ p) in
      wrote_puts (omega (arith, fits)) (subst (λ (text : List ℕ). Puts s 0 text to out) (same net.sheet net.transitions a) w)
