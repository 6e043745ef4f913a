-- What the functions of this crate return, for what the forms find.
use Rattle.reply.specs.declared.Refusal.{Refusal}
use Rattle.std.specs.Prelude.{ℕ, ◌+◌, true, cond, List, length, drop, Err, None, Ok, Option, Result}
use Rattle.text.specs.Key.{begins_with}
use Rattle.text.specs.Number.{field_at}
use Rattle.form.specs.Form.{Found, found, refused}

-- what was found, without the position behind it
abbrev pub value_read : {A : Type 0} → Found A → Result A Refusal
value_read (found a next) = Ok a
value_read (refused r) = Err r

-- a key, a number behind it and the line's end
abbrev pub keyed_field : List ℕ → List ℕ → ℕ → Option (ℕ × ℕ)
keyed_field key s at = cond (begins_with key (drop at s)) (field_at s (at + length key) true) None
