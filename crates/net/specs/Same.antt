-- Document 01, "The caller": slots past a value's counts are no part of it. Two nets are the same if they agree in all that counts.
use Rattle.std.specs.Prelude.{ℕ, ◌<◌, ◌≡◌, map, get_or, None, Option, Some}
use Rattle.form.specs.Line.{writable}
use Rattle.net.specs.declared.Transition.{Transition}
use Rattle.net.specs.declared.Net.{Net}
use Rattle.net.specs.Net.{no_transition, takes_in, gives_in}

pub record SameNet (a b : Net) : Type 0 where
  pub sheet : a.sheet ≡ b.sheet
  pub places : a.places ≡ b.places
  pub transitions : a.transitions ≡ b.transitions
  pub start : (p : ℕ) → p < b.places → get_or a.start p 0 ≡ get_or b.start p 0
  pub table : (t : ℕ) → t < b.transitions → get_or a.table t no_transition ≡ get_or b.table t no_transition
  pub take : (t p : ℕ) → t < b.transitions → p < b.places → takes_in a.take t p ≡ takes_in b.take t p
  pub give : (t p : ℕ) → t < b.transitions → p < b.places → gives_in a.give t p ≡ gives_in b.give t p

-- "2 for a number too long to write": a net as its card would hold it, such a number as the largest that can be written
abbrev pub writable_latest : Option ℕ → Option ℕ
writable_latest None = None
writable_latest (Some n) = Some (writable n)

abbrev pub writable_interval : Transition → Transition
writable_interval t = record { earliest = writable t.earliest; latest = writable_latest t.latest }

unfoldable pub writable_net : Net → Net
writable_net net =
    record {
      sheet = writable net.sheet;
      places = writable net.places;
      transitions = writable net.transitions;
      start = map writable net.start;
      take = map writable net.take;
      give = map writable net.give;
      table = map writable_interval net.table;
    }
