-- A line with one number, by the cases of the code: whether the number has its form, and what its check says. A number is in its range
-- where neither end is passed.
use Rattle.reply.specs.Respond.{Checked, Passed}
use Rattle.std.specs.Prelude.{Err, None, Ok}
use Prim.Native.Nat.{ℕ, ◌+◌, ◌≤◌, ◌<◌}
use mathlib.Core.Bool.{Bool, true, false, cond, ◌&&◌, and-false}
use mathlib.Core.List.{List}
use mathlib.Core.Path.{◌≡◌, refl}
use lib.Dec.{leb}
use lib.ListN.{length, drop}
use borrow.Author.Tests.{le-leb, lt-leb}
use Rattle.reply.specs.declared.Refusal.{Refusal}
use Rattle.reply.specs.declared.Refusal.TheVariants.{Malformed}
use Rattle.text.specs.Key.{begins_with}
use Rattle.text.specs.Number.{field_at}
use Rattle.form.specs.Form.{Found, found, refused, and_then, found_if, keyed}
use Rattle.form.specs.Line.{formed, number}
use Rattle.form.specs.Code.{keyed_field}

-- ---- a number against its range
module _ (low high n : ℕ) where
  pub below_range : n < low → (leb low n && leb n high) ≡ false
  below_range h = rw (lt-leb low n h) refl

  pub above_range : high < n → (leb low n && leb n high) ≡ false
  above_range h = rw (lt-leb n high h) (and-false (leb low n))

  pub in_range : low ≤ n → n ≤ high → (leb low n && leb n high) ≡ true
  in_range l h = rw (le-leb low n l, le-leb n high h) refl

-- ---- a line with a key and a number
module _ (judge : ℕ → ℕ → Checked) (key s : List ℕ) (at line : ℕ) where
  abbrev numbered : Found ℕ
  numbered = and_then (formed line (keyed_field key s at)) (λ n next. found_if (judge n line) n next)

  -- where the key is missing, no number stands behind it
  line_read_lem : (keyed key (number judge)).read s at line ≡ numbered
  line_read_lem = go (begins_with key (drop at s))
    where
      go : (t : Bool) →
          cond t ((number judge).read s (at + length key) line) (refused (Malformed line)) ≡
          and_then (formed line (cond t (field_at s (at + length key) true) None)) (λ n next. found_if (judge n line) n next)
      go true = refl
      go false = refl

  pub line_none : (r : Refusal) → formed line (keyed_field key s at) ≡ Err r → refused r ≡ (keyed key (number judge)).read s at line
  line_none r e = rw (line_read_lem, e) refl

  pub line_refused : (n next : ℕ) (r : Refusal) → formed line (keyed_field key s at) ≡ Ok (n, next) → judge n line ≡ Err r
      → refused r ≡ (keyed key (number judge)).read s at line
  line_refused n next r e j = rw (line_read_lem, e, j) refl

  pub line_passed : (n next : ℕ) → formed line (keyed_field key s at) ≡ Ok (n, next) → judge n line ≡ Passed
      → found n next ≡ (keyed key (number judge)).read s at line
  line_passed n next e j = rw (line_read_lem, e, j) refl
