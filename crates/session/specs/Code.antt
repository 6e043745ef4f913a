-- What the functions of this crate make of a reply: the bytes that were written stay, and a refusal is put as its two lines.
use Rattle.reply.specs.Respond.{Reply}
use Rattle.std.specs.Prelude.{ℕ, List, ◌++◌, length, drop, Err, Ok}
use Rattle.console.specs.Printed.{refusal_text}

-- how many bytes the answer has
abbrev pub shown_length : Reply → ℕ
shown_length (Ok n) = n
shown_length (Err e) = length (refusal_text e)

-- and the output with it at the front
abbrev pub shown_output : Reply → List ℕ → List ℕ
shown_output (Ok n) out = out
shown_output (Err e) out = refusal_text e ++ drop (length (refusal_text e)) out
