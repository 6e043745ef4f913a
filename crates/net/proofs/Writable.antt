-- A net is checked as its card is read, a number too long to write standing as the largest that can be written.
use Rattle.std.specs.Prelude.{Err, None, Option, Some}
use Prim.Native.Nat.{ℕ, ◌+◌, ◌*◌, ◌≤◌, min}
use mathlib.Core.Path.{◌≡◌, refl, sym, ap, ◌∙◌}
use mathlib.Core.Bool.{true}
use mathlib.Core.List.{List, ◌++◌, map}
use lib.ListN.{length, get_or, drop, replicate, get_or-map}
use lib.Dec.{lit<}
use Rattle.laws.specs.Arrays.{filled, filled_same, filled_mapped}
use Rattle.reply.specs.declared.Refusal.TheVariants.{OutOfRange}
use Rattle.text.specs.Key.{bytes, begins_with}
use Rattle.text.specs.Decimal.{field}
use Rattle.text.proofs.KeyLaws.{begins_text}
use Rattle.text.proofs.NumberLaws.{field_text}
use Rattle.form.specs.Form.{found_if}
use Rattle.form.specs.Line.{writable}
use Rattle.form.specs.Inverse.{Told}
use Rattle.form.proofs.Format.{times_format, ranged_format}
use Rattle.form.proofs.Writable.{writable_small, judged_writable, ranged_long, keyed_told, pair_told, held_told, exactly_told, ranged_told, items_told}
use Rattle.form.proofs.Writable.{counted_told}
use Rattle.net.specs.declared.Net.{Net}
use Rattle.net.specs.Net.{latest_checked, latest, weights, Row, to_row, from_row, row, no_row, body, no_transition, row_at, rows_of}
use Rattle.net.specs.Net.{to_net, from_net, net_card}
use Rattle.net.specs.Same.{writable_latest, writable_interval, writable_net}
use Rattle.net.proofs.Card.{number_no_word}

-- ---- the lines
module _ (earliest : ℕ) where
  latest_long : (n line : ℕ) → 999999999 ≤ n → latest_checked earliest (Some n) line ≡ Err (OutOfRange line)
  latest_long n line h = rw (ranged_long 0 1000 (lit< tt) n line h) refl

  latest_read : (l : Option ℕ) (s rest : List ℕ) (at line : ℕ) → drop at s ≡ (latest earliest).text (writable_latest l) ++ rest
      → (latest earliest).read s at line ≡ found_if (latest_checked earliest l line) l (at + length ((latest earliest).text (writable_latest l)))
  latest_read None s rest at line e = rw (ap (begins_with (bytes "inf\n")) e ∙ begins_text (bytes "inf\n") rest) refl
  latest_read (Some n) s rest at line e =
      let next = at + length (field (writable n) true) in
      let q = field_text (writable n) at true s rest (writable_small n) e in
      rw (number_no_word (writable n) at next s q, q) (judged_writable (λ m. latest_checked earliest (Some m)) Some OutOfRange latest_long n line next)

  latest_told : Told (latest earliest) writable_latest
  latest_told = record { told = latest_read }

weights_told : (places : ℕ) → Told (weights places) (λ v. (map writable v.0, map writable v.1))
weights_told places =
    pair_told (λ l. refl) (items_told (bytes "take=") places 16 0 255 (lit< tt)) (items_told (bytes "give=") places 16 0 255 (lit< tt))

abbrev writable_row : Row → Row
writable_row r = record { interval = writable_interval r.interval; take = map writable r.take; give = map writable r.give }

row_told : (places : ℕ) → Told (row places) writable_row
row_told places =
    held_told to_row from_row writable_row (λ r. refl)
    (counted_told (bytes "earliest=") 0 1000 (lit< tt) (λ n. pair_told (λ l. refl) (keyed_told (bytes "latest=") (latest_told n)) (weights_told places)))

body_told : (places transitions : ℕ) → Told (body places transitions) (λ v. (map writable v.0, map writable_row v.1))
body_told places transitions =
    pair_told (times_format places 16 0 (ranged_format {P = Unit {0}} (bytes "start=") 0 255 (lit< tt))).settled.same_lines
    (exactly_told (λ n. refl) (ranged_told (bytes "start=") 0 255 (lit< tt)) (min places 16) 16 0 refl)
    (exactly_told (λ r. refl) (row_told places) (min transitions 32) 32 no_row refl)

-- ---- rows in their arrays
weights_writable : (l : List ℕ) (slot : ℕ → ℕ)
    → filled (λ p. get_or (map writable l) (slot p) 0) 16 (replicate 16 0) ≡ map writable (filled (λ p. get_or l (slot p) 0) 16 (replicate 16 0))
weights_writable l slot =
    filled_same _ _ (replicate 16 0) 16 (λ p h. get_or-map writable l (slot p) 0)
    ∙ sym (filled_mapped writable (λ p. get_or l (slot p) 0) (replicate 16 0) 16)

rows_writable : (n : Net) → rows_of (writable_net n) ≡ map writable_row (rows_of n)
unfolding rows_of writable_net
rows_writable n =
    filled_same (row_at (writable_net n)) (λ t. writable_row (row_at n t)) (replicate 32 no_row) 32
    (λ t h k.
    record {
      interval = get_or-map writable_interval n.table t no_transition k;
      take = weights_writable n.take (λ p. 32 * p + t) k;
      give = weights_writable n.give (λ p. 16 * t + p) k;
    })
    ∙ sym (filled_mapped writable_row (row_at n) (replicate 32 no_row) 32)

pub net_told : Told net_card writable_net
unfolding writable_net
net_told =
    held_told to_net from_net writable_net
    (λ n. ap (λ (rs : List Row). (writable n.sheet, (writable n.places, (writable n.transitions, (map writable n.start, rs))))) (rows_writable n))
    (pair_told (λ n. refl) (ranged_told (bytes "sheet=") 0 9999 (lit< tt))
    (counted_told (bytes "places=") 1 16 (lit< tt) (λ places. counted_told (bytes "transitions=") 1 32 (lit< tt) (body_told places))))
