-- What an operation's outcome means for the caller's reply and the caller's output.
use Rattle.std.specs.Prelude.{ℕ, ◌≤◌, ◌≡◌, cond, List, ◌++◌, length, take, drop, ltb, Result, Ok, Err}
use Rattle.reply.specs.declared.Refusal.{Refusal}
use Rattle.reply.specs.declared.Refusal.TheVariants.{OutputTooShort}

-- what a check of a value or of one line says
abbrev pub Checked : Type 0
Checked = Result (Unit {0}) Refusal

pattern abbrev pub Passed : Checked
Passed = Ok tt

-- what the caller of an operation with an output is told: how many bytes the answer has, or why there is none
abbrev pub Reply : Type 0
Reply = Result ℕ Refusal

-- what an operation finds before it looks at the output: the bytes of the answer, or a refusal
pub data Outcome : Type 0 where
  answer : List ℕ → Outcome
  refusal : Refusal → Outcome

-- the text of a value that passes its check, or the refusal
abbrev pub written_if : Checked → List ℕ → Outcome
written_if Passed text = answer text
written_if (Err r) text = refusal r

-- there is an answer: no refusal but 9 can come of it
abbrev pub Answered : Outcome → Type 0
Answered o = (bytes : List ℕ) × (o ≡ answer bytes)

-- the reply, from the outcome and the output at entry
abbrev pub reply_to : Outcome → List ℕ → Reply
reply_to (answer bytes) out = cond (ltb (length out) (length bytes)) (Err OutputTooShort) (Ok (length bytes))
reply_to (refusal r) out = Err r

-- the output at exit: an answer fills it from its first byte and the bytes behind it stay; otherwise it stays as it was
abbrev pub output_of : Outcome → List ℕ → List ℕ
output_of (answer bytes) out = cond (ltb (length out) (length bytes)) out (bytes ++ drop (length bytes) out)
output_of (refusal r) out = out

-- what the caller of an operation finds
pub record Responded (o : Outcome) (entry : List ℕ) (r : Reply) (exit : List ℕ) : Type 0 where
  pub reply : r ≡ reply_to o entry
  pub output : exit ≡ output_of o entry

-- a reply `Ok n` comes with the n bytes of the answer at the front, and the bytes behind them stay
pub record Filled (bytes out after : List ℕ) (n : ℕ) : Type 0 where
  pub all : n ≡ length bytes
  pub fits : n ≤ length out
  pub front : take n after ≡ bytes
  pub behind : drop n after ≡ drop n out
