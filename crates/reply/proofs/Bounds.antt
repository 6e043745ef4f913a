-- An operation whose answers are short and whose refusals have small places tells no more in its replies: 9 has place 0.
use Rattle.std.specs.Prelude.{Err, Ok}
use Prim.Native.Nat.{ℕ, ◌≤◌}
use native.Mathlib.Omega.{arith}
use mathlib.Core.Path.{◌≡◌, refl, ap}
use mathlib.Core.Bool.{Bool, true, false, cond}
use mathlib.Core.List.{List}
use lib.ListN.{length}
use lib.Dec.{ltb}
use Rattle.reply.specs.declared.Refusal.{Refusal}
use Rattle.reply.specs.declared.Refusal.TheVariants.{OutputTooShort}
use Rattle.reply.specs.Refusal.{position_of}
use Rattle.reply.specs.Respond.{Outcome, answer, refusal, reply_to}

-- no answer has more bytes than `longest`, and no refusal's place is past `last`
pub record Bounds (o : Outcome) (longest last : ℕ) : Type 0 where
  pub short : (bytes : List ℕ) → o ≡ answer bytes → length bytes ≤ longest
  pub placed : (r : Refusal) → o ≡ refusal r → position_of r ≤ last

module _ {longest last : ℕ} where
  pub written_short : (o : Outcome) → Bounds o longest last → (out : List ℕ) (n : ℕ) → reply_to o out ≡ Ok n → n ≤ longest
  written_short (answer bytes) b out n = go (ltb (length out) (length bytes))
    where
      go : (t : Bool) → cond t (Err OutputTooShort) (Ok (length bytes)) ≡ Ok n → n ≤ longest
      go true e = let z : ◌≡◌ {A = ℕ} 0 1 = cc in absurd (omega arith)
      go false e = let same : n ≡ length bytes = cc in omega (arith, b.short bytes refl)
  written_short (refusal r) b out n = λ e. let z : ◌≡◌ {A = ℕ} 0 1 = cc in absurd (omega arith)

  pub refused_placed : (o : Outcome) → Bounds o longest last → (out : List ℕ) (r : Refusal) → reply_to o out ≡ Err r → position_of r ≤ last
  refused_placed (answer bytes) b out r = go (ltb (length out) (length bytes))
    where
      go : (t : Bool) → cond t (Err OutputTooShort) (Ok (length bytes)) ≡ Err r → position_of r ≤ last
      go true e = let same : r ≡ OutputTooShort = cc in omega (arith, ap position_of same)
      go false e = let z : ◌≡◌ {A = ℕ} 0 1 = cc in absurd (omega arith)
  refused_placed (refusal q) b out r = λ e. let same : r ≡ q = cc in omega (arith, ap position_of same, b.placed q refl)
