-- A form says how a part of a card is written, checked and read. Every card is one form, put together from the forms of its lines, so that
-- reader, writer and check are given by one description.
use Rattle.reply.specs.Respond.{Checked, Passed}
use Rattle.std.specs.Prelude.{ℕ, zero, suc, ◌+◌, min, cond, List, [], ◌∷◌, ◌++◌, map, length, drop, leb, Result, Ok, Err}
use Rattle.laws.specs.Slots.{first_of, pad_to}
use Rattle.reply.specs.declared.Refusal.{Refusal}
use Rattle.reply.specs.declared.Refusal.TheVariants.{Malformed}
use Rattle.text.specs.Key.{begins_with}

-- what reading finds: a value and the position behind it, or the first refusal
abbrev pub Found : Type 0 → Type 0
Found A = Result (A × ℕ) Refusal

pattern abbrev pub found : {A : Type 0} → A → ℕ → Found A
found a next = Ok (a, next)

pattern abbrev pub refused : {A : Type 0} → Refusal → Found A
refused r = Err r

-- reading goes on behind what was found, and stops at the first refusal
abbrev pub and_then : {A B : Type 0} → Found A → (A → ℕ → Found B) → Found B
and_then (found a next) more = more a next
and_then (refused r) more = refused r

-- the value that a check lets pass
abbrev pub found_if : {A : Type 0} → Checked → A → ℕ → Found A
found_if Passed a next = found a next
found_if (Err r) a next = refused r

-- two checks, of which the first refusal counts
abbrev pub also : Checked → Checked → Checked
also Passed second = second
also (Err r) second = Err r

pub record Form (A : Type 0) : Type 0 where
  -- the bytes of a value
  pub text : A → List ℕ
  -- how many lines these are
  pub lines : A → ℕ
  -- the first refusal of a value whose first line is this one
  pub check : A → ℕ → Checked
  -- the value that stands at a position of an input, from this line on
  pub read : List ℕ → ℕ → ℕ → Found A
  -- the value with what is no part of it (slots past its counts) at the reader's filler
  pub clean : A → A

-- a key in front
abbrev pub keyed : {A : Type 0} → List ℕ → Form A → Form A
keyed key f =
    record {
      text = λ a. key ++ f.text a;
      lines = f.lines;
      check = f.check;
      read = λ s at line. cond (begins_with key (drop at s)) (f.read s (at + length key) line) (refused (Malformed line));
      clean = f.clean;
    }

-- a part, and behind it the part that its value asks for
abbrev pub chain : {A B : Type 0} → Form A → (A → Form B) → Form (A × B)
chain f g =
    record {
      text = λ v. f.text v.0 ++ (g v.0).text v.1;
      lines = λ v. f.lines v.0 + (g v.0).lines v.1;
      check = λ v line. also (f.check v.0 line) ((g v.0).check v.1 (line + f.lines v.0));
      read = λ s at line. and_then (f.read s at line) (λ a next. and_then ((g a).read s next (line + f.lines a)) (λ b end. found (a, b) end));
      clean = λ v. (f.clean v.0, (g v.0).clean v.1);
    }

module _ {A : Type 0} (f : Form A) where
  -- one value behind the other
  unfoldable pub texts : List A → List ℕ
  texts [] = []
  texts (a ∷ as') = f.text a ++ texts as'

  unfoldable pub lines_of : List A → ℕ
  lines_of [] = 0
  lines_of (a ∷ as') = f.lines a + lines_of as'

  unfoldable pub checks : List A → ℕ → Checked
  checks [] line = Passed
  checks (a ∷ as') line = also (f.check a line) (checks as' (line + f.lines a))

  unfoldable pub reads : ℕ → List ℕ → ℕ → ℕ → Found (List A)
  reads zero s at line = found [] at
  reads (suc n) s at line =
      and_then (f.read s at line) (λ a next. and_then (reads n s next (line + f.lines a)) (λ as' end. found (a ∷ as') end))

-- n parts of one form, held in an array of some size; d is the filler
abbrev pub exactly : {A : Type 0} → ℕ → ℕ → A → Form A → Form (List A)
exactly n size d f =
    record {
      text = λ l. texts f (first_of n d l);
      lines = λ l. lines_of f (first_of n d l);
      check = λ l line. checks f (first_of n d l) line;
      read = λ s at line. and_then (reads f n s at line) (λ l end. found (pad_to size d l) end);
      clean = λ l. pad_to size d (map f.clean (first_of n d l));
    }

-- the same for any count: no more parts than the array has slots
abbrev pub times : {A : Type 0} → ℕ → ℕ → A → Form A → Form (List A)
times n size d f = exactly (min n size) size d f

-- the same part held in another type
abbrev pub held : {A B : Type 0} → (A → B) → (B → A) → Form A → Form B
held to from f =
    record {
      text = λ b. f.text (from b);
      lines = λ b. f.lines (from b);
      check = λ b line. f.check (from b) line;
      read = λ s at line. and_then (f.read s at line) (λ a next. found (to a) next);
      clean = λ b. to (f.clean (from b));
    }

-- a card at the front of an input, behind which anything may follow
abbrev pub front : {A : Type 0} → Form A → List ℕ → Found A
front f s = f.read s 0 1

-- what was found, where nothing follows it (the place of what follows is one past the last line)
abbrev pub ended : {A : Type 0} → Form A → List ℕ → Found A → Found A
ended f s read = and_then read (λ a next. cond (leb (length s) next) (found a next) (refused (Malformed (1 + f.lines a))))

-- a whole card, behind which nothing may follow
abbrev pub alone : {A : Type 0} → Form A → List ℕ → Found A
alone f s = ended f s (front f s)

-- cards in a row: what stands behind the first is read from the part of the input that starts there, and its lines are counted from 1 again
abbrev pub follow : {A B : Type 0} → (List ℕ → Found A) → (A → List ℕ → Found B) → List ℕ → Found (A × B)
follow first then s = and_then (first s) (λ a next. and_then (then a (drop next s)) (λ b end. found (a, b) (next + end)))
