-- What the functions of this crate return, for what the forms find.
use Rattle.std.specs.Prelude.{ℕ, List}
use Rattle.form.specs.Form.{Found, found, and_then}
use Rattle.run.specs.declared.Memory.{Memory}
use Rattle.run.specs.declared.Firing.{Firing}
use Rattle.run.specs.declared.Run.{Run}
use Rattle.run.specs.declared.Order.{Order}
use Rattle.run.specs.Run.{to_run, to_order}

-- a run from its sheet and what the lines behind that say
abbrev pub run_on : ℕ → Found (Memory × (ℕ × (ℕ × (List Firing × ℕ)))) → Found Run
run_on sheet f = and_then f (λ v next. found (to_run (sheet, v)) next)

-- an order, likewise
abbrev pub order_on : ℕ → Found (Memory × (ℕ × List ℕ)) → Found Order
order_on sheet f = and_then f (λ v next. found (to_order (sheet, v)) next)
