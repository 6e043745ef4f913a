-- How long the card of a net can be.
use Rattle.reply.specs.Respond.{Passed}
use Rattle.std.specs.Prelude.{None, Option, Some}
use Prim.Native.Nat.{ℕ, ◌+◌, ◌≤◌}
use native.Mathlib.Omega.{arith}
use mathlib.Core.Path.{◌≡◌}
use mathlib.Core.List.{List}
use lib.ListN.{length}
use lib.Dec.{lit<, lit≤}
use Rattle.text.specs.Key.{bytes}
use Rattle.form.specs.Form.{keyed}
use Rattle.form.specs.Line.{ranged, items}
use Rattle.form.proofs.Found.{also_first}
use Rattle.form.proofs.Short.{Short, keyed_short, chain_short, held_short, times_short, number_short, items_short}
use Rattle.net.specs.declared.Net.{Net}
use Rattle.net.specs.Net.{latest, to_row, from_row, row, no_row, to_net, from_net, net_card}

latest_few : (earliest : ℕ) (l : Option ℕ) (line : ℕ) → (latest earliest).check l line ≡ Passed → length ((latest earliest).text l) ≤ 5
latest_few earliest None line p = omega arith
latest_few earliest (Some n) line p = (number_short 4 0 1000 (lit≤ tt) (lit≤ tt) (lit< tt)).few n line (also_first (ranged 0 1000 n line) _ p)

latest_short : (earliest : ℕ) → Short (latest earliest) 5
latest_short earliest = record { few = latest_few earliest }

weights_short : (key : List ℕ) (places : ℕ) → Short (keyed key (items places 16 0 255)) (length key + 64)
weights_short key places = keyed_short key (items_short 3 0 255 (lit≤ tt) (lit≤ tt) (lit< tt) places 16)

row_short : (places : ℕ) → Short (row places) 164
row_short places =
    held_short to_row from_row
    (chain_short (keyed_short (bytes "earliest=") (number_short 4 0 1000 (lit≤ tt) (lit≤ tt) (lit< tt))) (λ earliest.
    chain_short (keyed_short (bytes "latest=") (latest_short earliest)) (λ _.
    chain_short (weights_short (bytes "take=") places) (λ _. weights_short (bytes "give=") places))))

-- no card of a net is longer
pub net_short : (n : Net) → net_card.check n 1 ≡ Passed → length (net_card.text n) ≤ 5444
net_short n =
    (held_short to_net from_net
    (chain_short (keyed_short (bytes "sheet=") (number_short 4 0 9999 (lit≤ tt) (lit≤ tt) (lit< tt))) (λ _.
    chain_short (keyed_short (bytes "places=") (number_short 2 1 16 (lit≤ tt) (lit≤ tt) (lit< tt))) (λ places.
    chain_short (keyed_short (bytes "transitions=") (number_short 2 1 32 (lit≤ tt) (lit≤ tt) (lit< tt))) (λ transitions.
    chain_short (times_short places 16 0 (keyed_short (bytes "start=") (number_short 3 0 255 (lit≤ tt) (lit≤ tt) (lit< tt)))) (λ _.
    times_short transitions 32 no_row (row_short places))))))).few n 1
