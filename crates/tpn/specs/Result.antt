-- What a program in another language is returned: one number of 64 bits with a sign for the whole reply.
use Rattle.std.specs.Prelude.{ℕ, suc, ◌+◌, ◌*◌, ◌/◌, ◌%◌, ◌^◌, ◌<◌, ◌≡◌, List, ℤ, pos, negsuc, ◌-ℤ◌, Err, Ok}
use Rattle.reply.specs.declared.Refusal.{Refusal}
use Rattle.reply.specs.Refusal.{number_of, position_of}
use Rattle.reply.specs.Respond.{Outcome, reply_to, output_of, Reply}

-- number and place of a refusal in one
abbrev pub code_of : Refusal → ℕ
code_of r = number_of r * 65536 + position_of r

-- the bytes of an answer, counted, or a refusal below 0
abbrev pub result_of : Reply → ℤ
result_of (Ok n) = pos n
result_of (Err r) = pos 0 -ℤ pos (code_of r)

-- the number and the place of a refusal, read from a result; 0 for an answer
abbrev pub number_in : ℤ → ℕ
number_in (pos n) = 0
number_in (negsuc n) = suc n / 65536

abbrev pub place_in : ℤ → ℕ
place_in (pos n) = 0
place_in (negsuc n) = suc n % 65536

-- replies that a result tells: lengths of 32 bits and places of 16
abbrev pub Narrow : Reply → Type 0
Narrow (Ok n) = n < 2 ^ 32
Narrow (Err r) = position_of r < 65536

-- what the caller of an operation finds
pub record Returned (o : Outcome) (entry : List ℕ) (r : ℤ) (exit : List ℕ) : Type 0 where
  pub result : r ≡ result_of (reply_to o entry)
  pub output : exit ≡ output_of o entry
