-- Document 01, "Cards": what stands behind the key of a line.
use Rattle.reply.specs.Respond.{Checked, Passed}
use Rattle.std.specs.Prelude.{ℕ, zero, suc, min, Bool, true, cond, ◌&&◌, List, [], ◌∷◌, ◌++◌, length, leb, ltb, eqb, Err, None, Option, Some}
use Rattle.laws.specs.Slots.{first_of, pad_to}
use Rattle.reply.specs.declared.Refusal.TheVariants.{Malformed, OutOfRange, NoSuchTransition}
use Rattle.text.specs.Number.{field_at}
use Rattle.text.specs.Decimal.{field}
use Rattle.form.specs.Form.{Found, found, refused, and_then, found_if, Form}

-- a number of the wrong form is 1
abbrev pub formed : ℕ → Option (ℕ × ℕ) → Found ℕ
formed line (Some (n, next)) = found n next
formed line None = refused (Malformed line)

-- a number outside its range is 2
abbrev pub ranged : ℕ → ℕ → ℕ → ℕ → Checked
ranged low high n line = cond (leb low n && leb n high) Passed (Err (OutOfRange line))

-- a number as it can be written: one that is too long stands as the largest of nine digits, which is outside of every range
abbrev pub writable : ℕ → ℕ
writable n = min n 999999999

-- a transition that is not in the net is 4
abbrev pub listed : ℕ → ℕ → ℕ → Checked
listed transitions n line = cond (ltb n transitions) Passed (Err (NoSuchTransition line))

-- a number and the line's end; the form comes before the check
abbrev pub number : (ℕ → ℕ → Checked) → Form ℕ
number judge =
    record {
      text = λ n. field n true;
      lines = λ n. 1;
      check = judge;
      read = λ s at line. and_then (formed line (field_at s at true)) (λ n next. found_if (judge n line) n next);
      clean = λ n. n;
    }

-- numbers joined by commas, and the line's end
unfoldable pub items_text : List ℕ → List ℕ
items_text [] = []
items_text (n ∷ ns) = field n (eqb (length ns) 0) ++ items_text ns

unfoldable pub items_at : ℕ → List ℕ → ℕ → ℕ → Found (List ℕ)
items_at zero s at line = found [] at
items_at (suc k) s at line =
    and_then (formed line (field_at s at (eqb k 0))) (λ n next. and_then (items_at k s next line) (λ ns end. found (n ∷ ns) end))

unfoldable pub all_ranged : ℕ → ℕ → List ℕ → Bool
all_ranged low high [] = true
all_ranged low high (n ∷ ns) = leb low n && leb n high && all_ranged low high ns

-- a list with one of its numbers outside the range is 2
abbrev pub items_ranged : ℕ → ℕ → List ℕ → ℕ → Checked
items_ranged low high ns line = cond (all_ranged low high ns) Passed (Err (OutOfRange line))

-- a list of exactly k numbers, held in an array of some size; the form of the whole line comes before the ranges
abbrev pub item_list : ℕ → ℕ → ℕ → ℕ → Form (List ℕ)
item_list k size low high =
    record {
      text = λ ns. items_text (first_of k 0 ns);
      lines = λ ns. 1;
      check = λ ns line. items_ranged low high (first_of k 0 ns) line;
      read = λ s at line. and_then (items_at k s at line) (λ ns next. found_if (items_ranged low high ns line) (pad_to size 0 ns) next);
      clean = λ ns. pad_to size 0 (first_of k 0 ns);
    }

-- the same for any count: no more numbers than the array has slots
abbrev pub items : ℕ → ℕ → ℕ → ℕ → Form (List ℕ)
items k size low high = item_list (min k size) size low high
