-- What a method of a writer does: behind what was put before it puts a text, into the same output.
use Rattle.std.specs.Prelude.{ℕ, List, ◌≡◌}
use Rattle.laws.specs.Writing.{Puts}
use Rattle.text.specs.declared.Writer.{Writer}

pub record Writes (before : Writer) (text : List ℕ) (after : Writer) : Type 0 where
  pub same : after.out.ghost_name ≡ before.out.ghost_name
  pub puts : Puts before.out.now before.at text after.at after.out.now
