-- The line `pairs` behind two net cards: the word `none`, or one or more numbers joined by commas. Numbers may be any, and as many as stand there.
use Rattle.std.specs.Prelude.{ℕ, zero, suc, ◌+◌, true, false, cond, List, [], ◌∷◌, length, drop, None, Option, Some}
use Rattle.reply.specs.declared.Refusal.TheVariants.{Malformed}
use Rattle.reply.specs.Respond.{Passed}
use Rattle.text.specs.Key.{bytes, begins_with}
use Rattle.text.specs.Number.{field_at}
use Rattle.form.specs.Form.{Found, found, refused, and_then, Form, keyed}
use Rattle.form.specs.Line.{formed, items_text}

-- the number that the line ends with, or what is read where there is none
abbrev pub last_or : Option (ℕ × ℕ) → Found (List ℕ) → Found (List ℕ)
last_or (Some (n, next)) more = found (n ∷ []) next
last_or None more = more

-- numbers with commas between them and the line's end behind the last, k at most
unfoldable pub numbers_at : ℕ → List ℕ → ℕ → ℕ → Found (List ℕ)
numbers_at zero s at line = refused (Malformed line)
numbers_at (suc k) s at line =
    last_or (field_at s at true)
    (and_then (formed line (field_at s at false)) (λ n next. and_then (numbers_at k s next line) (λ ns end. found (n ∷ ns) end)))

abbrev pub numbers_text : List ℕ → List ℕ
numbers_text [] = bytes "none\n"
numbers_text (n ∷ ns) = items_text (n ∷ ns)

-- an input has no more numbers than bytes
abbrev pub numbers : Form (List ℕ)
numbers =
    record {
      text = numbers_text;
      lines = λ ns. 1;
      check = λ ns line. Passed;
      read = λ s at line. cond (begins_with (bytes "none\n") (drop at s)) (found [] (at + length (bytes "none\n"))) (numbers_at (length s) s at line);
      clean = λ ns. ns;
    }

abbrev pub pairs : Form (List ℕ)
pairs = keyed (bytes "pairs=") numbers
