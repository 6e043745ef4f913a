-- Document 01, "The caller": slots past a value's counts are no part of it. Two runs, or two orders, are the same if they agree in all that counts.
use Rattle.std.specs.Prelude.{ℕ, ◌<◌, ◌≡◌, map, get_or}
use Rattle.form.specs.Line.{writable}
use Rattle.run.specs.declared.Firing.{Firing}
use Rattle.run.specs.declared.Run.{Run}
use Rattle.run.specs.declared.Order.{Order}
use Rattle.run.specs.Run.{no_firing}

pub record SameRun (a b : Run) : Type 0 where
  pub sheet : a.sheet ≡ b.sheet
  pub memory : a.memory ≡ b.memory
  pub denominator : a.denominator ≡ b.denominator
  pub count : a.count ≡ b.count
  pub firings : (i : ℕ) → i < b.count → get_or a.firings i no_firing ≡ get_or b.firings i no_firing
  pub rest : a.rest ≡ b.rest

pub record SameOrder (a b : Order) : Type 0 where
  pub sheet : a.sheet ≡ b.sheet
  pub memory : a.memory ≡ b.memory
  pub count : a.count ≡ b.count
  pub fires : (i : ℕ) → i < b.count → get_or a.fires i 0 ≡ get_or b.fires i 0

-- "2 for a number too long to write, `fire` again excepted": a run and an order as their cards would hold them
abbrev pub writable_firing : Firing → Firing
writable_firing f = record { wait = writable f.wait; fire = writable f.fire }

unfoldable pub writable_run : Run → Run
writable_run r =
    record {
      sheet = writable r.sheet;
      memory = r.memory;
      denominator = writable r.denominator;
      count = writable r.count;
      firings = map writable_firing r.firings;
      rest = writable r.rest;
    }

unfoldable pub writable_order : Order → Order
writable_order o = record { sheet = writable o.sheet; memory = o.memory; count = writable o.count; fires = map writable o.fires }
