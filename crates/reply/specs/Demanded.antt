-- Demand 1 of one operation, by its outcome: what its reply tells, and what becomes of the output. Each under its sentence.
use Rattle.std.specs.Prelude.{ℕ, ◌≤◌, ◌<◌, ◌≡◌, ◌↔◌, List, length, Ok, Err}
use Rattle.reply.specs.declared.Refusal.{Refusal}
use Rattle.reply.specs.declared.Refusal.TheVariants.{OutputTooShort}
use Rattle.reply.specs.Respond.{Outcome, answer, refusal, reply_to, Responded, Filled}

pub record Demanded (o : Outcome) : Type 0 where
  -- "answered in full": n bytes are written exactly where there is an answer of n bytes and the output holds them
  pub written_exactly : (out : List ℕ) (n : ℕ) → (reply_to o out ≡ Ok n)
      ↔ ((bytes : List ℕ) × (o ≡ answer bytes) × (n ≡ length bytes) × (n ≤ length out))
  -- "with every written byte settled and the rest of the output untouched"
  pub bytes_settled : (out after : List ℕ) (n : ℕ) → Responded o out (Ok n) after → (bytes : List ℕ) × (o ≡ answer bytes) × Filled bytes out after n
  -- "Anything else gets a refusal number and a place", the same whatever the output
  pub refused_exactly : (out : List ℕ) (r : Refusal) → (r ≡ OutputTooShort → ⊥) → (reply_to o out ≡ Err r) ↔ (o ≡ refusal r)
  -- number 9: exactly when there is an answer and it is longer than the output
  pub too_short_exactly : (out : List ℕ) → (reply_to o out ≡ Err OutputTooShort)
      ↔ ((bytes : List ℕ) × (o ≡ answer bytes) × (length out < length bytes))
  -- "with no lent byte altered"
  pub nothing_altered : (out after : List ℕ) (r : Refusal) → Responded o out (Err r) after → after ≡ out
