-- What an operation does before its own work: values are checked as their cards would be, cards are read.
use Rattle.std.specs.Prelude.{Err}
use Rattle.reply.specs.Respond.{Outcome, refusal, Checked, Passed}
use Rattle.form.specs.Form.{Found, found, refused}

-- an outcome that counts once a check is passed
abbrev pub once_checked : Checked → Outcome → Outcome
once_checked Passed o = o
once_checked (Err r) o = refusal r

-- an outcome that counts once cards are read
abbrev pub once_read : {A : Type 0} → Found A → (A → Outcome) → Outcome
once_read (found a next) o = o a
once_read (refused r) o = refusal r
