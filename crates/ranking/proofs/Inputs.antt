-- A whole input: what the readers of its three cards say, one behind the other, is what all three say.
use Rattle.std.proofs.Common.{ℕ, List, ◌≡◌, refl}
use Rattle.std.specs.Prelude.{Ok, Err, drop}
use Rattle.reply.specs.declared.Refusal.{Refusal}
use Rattle.form.specs.Form.{found, refused, front, alone}
use Rattle.form.specs.Code.{value_read}
use Rattle.net.specs.declared.Net.{Net}
use Rattle.net.specs.Net.{net_card}
use Rattle.run.specs.declared.Run.{Run}
use Rattle.run.specs.Run.{run_card}
use Rattle.cards.specs.Cards.{card_of, two_runs}

module _ (s : List ℕ) {net : Net} {next : ℕ} (n : net_card.read s 0 1 ≡ found net next) where
  -- what stands behind the net card
  abbrev behind : List ℕ
  behind = drop next s

  pub x_refused : {r : Refusal} → front (card_of run_card net) behind ≡ refused r → Err r ≡ value_read (two_runs s)
  x_refused e = rw (n, e) refl

  module _ {x : Run} {end : ℕ} (e : front (card_of run_card net) behind ≡ found x end) where
    pub y_refused : {r : Refusal} → alone (card_of run_card net) (drop end behind) ≡ refused r → Err r ≡ value_read (two_runs s)
    y_refused e' = rw (n, e, e') refl

    pub runs_read : {y : Run} {last : ℕ} → alone (card_of run_card net) (drop end behind) ≡ found y last → Ok (net, (x, y)) ≡ value_read (two_runs s)
    runs_read e' = rw (n, e, e') refl
