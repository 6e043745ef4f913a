-- What makes a form a format: its reader and its writer are inverse, its reader looks at a bounded part of the input alone, and a refusal names a line.
use Rattle.reply.specs.Respond.{Passed}
use Rattle.std.specs.Prelude.{ℕ, ◌+◌, ◌≤◌, ◌<◌, ◌≡◌, List, ◌++◌, length, take, drop}
use Rattle.reply.specs.declared.Refusal.{Refusal}
use Rattle.reply.specs.Refusal.{position_of}
use Rattle.form.specs.Form.{found, refused, found_if, Form}

-- a value that was read: its text stands there, it passes the check, and it is clean
pub record WasRead {A : Type 0} (f : Form A) (a : A) (s : List ℕ) (at next line : ℕ) : Type 0 where
  pub bytes : drop at s ≡ f.text a ++ drop next s
  pub end : next ≡ at + length (f.text a)
  pub passed : f.check a line ≡ Passed
  pub cleaned : f.clean a ≡ a

pub record Inverse {A : Type 0} (f : Form A) : Type 0 where
  -- what is written is read back, whatever stands behind it
  pub read_written : (a : A) (s rest : List ℕ) (at line : ℕ) → f.check a line ≡ Passed → drop at s ≡ f.text a ++ rest
      → f.read s at line ≡ found (f.clean a) (at + length (f.text a))
  -- what was read is what its text says
  pub written_read : (a : A) (s : List ℕ) (at next line : ℕ) → f.read s at line ≡ found a next → WasRead f a s at next line

-- what is no part of a value changes neither its text nor its lines nor its check
pub record Settled {A : Type 0} (f : Form A) : Type 0 where
  pub same_text : (a : A) → f.text (f.clean a) ≡ f.text a
  pub same_lines : (a : A) → f.lines (f.clean a) ≡ f.lines a
  pub same_check : (a : A) (line : ℕ) → f.check (f.clean a) line ≡ f.check a line

-- a reading looks at `reach` bytes at most
pub record Reaches {A : Type 0} (f : Form A) (reach : ℕ) : Type 0 where
  pub near : (a : A) (s : List ℕ) (at next line : ℕ) → f.read s at line ≡ found a next → next ≤ at + reach
  pub prefix : (s : List ℕ) (k at line : ℕ) → at + reach ≤ k → f.read (take k s) at line ≡ f.read s at line

-- a refusal that names one of n lines, of which this is the first
pub record Among (line n : ℕ) (r : Refusal) : Type 0 where
  pub from : line ≤ position_of r
  pub below : position_of r < line + n

-- each refusal names one of n lines from the first on, and what is read has no more
pub record Placed {A : Type 0} (f : Form A) (n : ℕ) : Type 0 where
  pub named : (r : Refusal) (s : List ℕ) (at line : ℕ) → f.read s at line ≡ refused r → Among line n r
  pub few : (a : A) (s : List ℕ) (at next line : ℕ) → f.read s at line ≡ found a next → f.lines a ≤ n

-- all of these laws: P says that the counts which the form was made for lie in their ranges. The text of a value needs no such thing
pub record Format {A : Type 0} (P : Type 0) (f : Form A) (reach most : ℕ) : Type 0 where
  pub settled : Settled f
  pub inverse : P → Inverse f
  pub reaches : P → Reaches f reach
  pub placed : P → Placed f most

-- a value is checked as its text is read, `cut` being the value with each number cut to what can be written: reading that text finds the clean value,
-- or the refusal of the check
pub record Told {A : Type 0} (f : Form A) (cut : A → A) : Type 0 where
  pub told : (a : A) (s rest : List ℕ) (at line : ℕ) → drop at s ≡ f.text (cut a) ++ rest
      → f.read s at line ≡ found_if (f.check a line) (f.clean a) (at + length (f.text (cut a)))
