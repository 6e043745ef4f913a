-- Document 01, "Who can cause a refusal": a refusal is printed as `refused=` and `place=` lines.
use Rattle.std.specs.Prelude.{ℕ, true, List, [], ◌++◌, length, take, cond, leb, Ok, Err}
use Rattle.reply.specs.declared.Refusal.{Refusal}
use Rattle.reply.specs.Refusal.{number_of, position_of}
use Rattle.reply.specs.Respond.{Reply}
use Rattle.text.specs.Key.{bytes}
use Rattle.text.specs.Decimal.{field}

abbrev pub refusal_text : Refusal → List ℕ
refusal_text r = (bytes "refused=" ++ field (number_of r) true) ++ (bytes "place=" ++ field (position_of r) true)

-- what is printed of a reply to an output: the bytes of the answer, as many as the reply says where the output has them, or the refusal
abbrev pub reply_text : Reply → List ℕ → List ℕ
reply_text (Ok n) out = cond (leb n (length out)) (take n out) []
reply_text (Err r) out = refusal_text r
