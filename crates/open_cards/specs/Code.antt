-- What the functions of this crate return, for what the forms find.
use Rattle.std.specs.Prelude.{ℕ, true, List, Result, Ok, Err}
use Rattle.reply.specs.declared.Refusal.{Refusal}
use Rattle.reply.specs.declared.Refusal.TheVariants.{ClosedRun}
use Rattle.text.specs.Key.{bytes}
use Rattle.form.specs.Form.{Found, found, refused, and_then, keyed, chain}
use Rattle.net.specs.declared.Net.{Net}
use Rattle.run.specs.declared.Memory.{Memory}
use Rattle.run.specs.declared.Run.{Run}
use Rattle.run.specs.Run.{memory}
use Rattle.open_run.specs.declared.OpenRun.{OpenRun}
use Rattle.open_run.specs.Cards.{denominator}

-- the lines that open a run, without the sheet, which is the net's
abbrev pub opening_read : Found (ℕ × (Memory × ℕ)) → Found (Memory × ℕ)
opening_read f = and_then f (λ v next. found v.1 next)

-- those behind the sheet
abbrev pub opening_on : List ℕ → ℕ → Found (Memory × ℕ)
opening_on s at = (chain (keyed (bytes "memory=") memory) (λ _. denominator)).read s at 2

-- the record of two cards; where they are refused there is no open run
abbrev pub record_of : Found (Net × Run) → Result OpenRun Refusal
record_of (found v next) = Ok (record { net = v.0; run = v.1; running = true })
record_of (refused e) = Err ClosedRun
