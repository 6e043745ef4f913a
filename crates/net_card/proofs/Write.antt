-- The texts of a net's lines put one behind the other. A net that passes its check has a card that fits the buffer.
use Rattle.reply.specs.Respond.{Passed}
use Prim.Native.Nat.{ℕ, ◌+◌, ◌≤◌, ◌<◌, min}
use native.Mathlib.Nat.{min-eq_left}
use native.Mathlib.Omega.{arith}
use mathlib.Core.Path.{◌≡◌, ap}
use mathlib.Core.List.{List, append_assoc}
use lib.ListN.{length, get_or, take}
use Rattle.laws.specs.Writing.{joined}
use Rattle.std.proofs.lemmas.List.{length-take-le, get_or-take}
use Rattle.laws.specs.Slots.{first_of, first_take, first_same}
use Rattle.text.specs.declared.Writer.{Writer}
use Rattle.text.specs.Writer.{Writes}
use Rattle.text.proofs.Writing.{writes_then}
use Rattle.form.specs.Form.{texts}
use Rattle.form.proofs.Loops.{texts_joined}
use Rattle.net.specs.declared.Net.{Net}
use Rattle.net.specs.Net.{Row, weights, row, no_row, no_transition, starts, rows, rows_of, row_at, net_card}
use Rattle.net.proofs.Rows.{row_there}
use Rattle.net.proofs.Card.{net_places, net_transitions}
use Rattle.net.proofs.Short.{net_short}
use Rattle.net_card.specs.Code.{interval}
use Rattle.net_card.proofs.Read.{start_line}

-- the texts of the lines, told by the index that a loop counts
pub starts_joined : (places : ℕ) (l : List ℕ) → places ≤ 16 → (starts places).text l ≡ joined (λ i. start_line.text (get_or l i 0)) places
starts_joined places l few = rw (min-eq_left few) (texts_joined start_line places 0 l)

-- those of the tokens that count
pub starts_first : (places : ℕ) (l : List ℕ) → places ≤ 16 → places ≤ length l → (starts (length (take places l))).text (take places l) ≡ (starts places).text l
starts_first places l few h =
    rw (length-take-le places l h, min-eq_left few)
    (ap (texts start_line) (first_same places 0 (take places l) l (λ i b. get_or-take places l i 0 b)))

pub rows_joined : (places n : ℕ) (l : List Row) → n ≤ 32 → (rows places n).text l ≡ joined (λ i. (row places).text (get_or l i no_row)) n
rows_joined places n l few = rw (min-eq_left few) (texts_joined (row places) n no_row l)

-- the weights that count stand at the front of sixteen
pub few_first : (places : ℕ) (l : List ℕ) → places ≤ length l → length l ≤ 16 → take places l ≡ first_of (min places 16) 0 l
few_first places l h s = let few : places ≤ 16 = omega arith in rw (min-eq_left few) (first_take places 0 l h)

-- the lines of transition t
pub row_written : (n : Net) (t : ℕ) {take give : List ℕ} (a b c : Writer) → t < 32 → take ≡ (row_at n t).take → give ≡ (row_at n t).give
    → Writes a (interval.text (get_or n.table t no_transition)) b → Writes b ((weights n.places).text (take, give)) c
    → Writes a ((row n.places).text (get_or (rows_of n) t no_row)) c
row_written n t a b c h e e' p q = rw (row_there n t h, ← e, ← e') (rw append_assoc at (writes_then p q))

-- a card fits into a buffer of 5,444 bytes
pub card_fits : (n : Net) → net_card.check n 1 ≡ Passed → (n.places ≤ 16) × (n.transitions ≤ 32) × (0 + length (net_card.text n) ≤ 5444)
card_fits n p = ((net_places n p).1, (net_transitions n p).1, omega (arith, net_short n p))
