-- What a reader of this crate returned, as what its form finds: the two cases of `Found` are told by the two variants of each answer; what two
-- forms in a row found, by parts. And what is replied with a text that was written.
use Rattle.std.specs.Prelude.{Err, Ok}
use Prim.Native.Nat.{ℕ, ◌+◌, ◌*◌}
use native.Mathlib.Nat.{mul-suc}
use native.Mathlib.Omega.{arith}
use mathlib.Core.Path.{◌≡◌, refl, ap, ◌∙◌}
use mathlib.Core.Bool.{true, false}
use mathlib.Core.List.{List, [], ◌∷◌}
use lib.ListN.{length, take, drop}
use Rattle.laws.specs.Writing.{front_text, Wrote}
use Rattle.laws.specs.Slots.{first_of, length_first}
use Rattle.reply.specs.declared.Refusal.{Refusal}
use Rattle.reply.specs.declared.Refusal.TheVariants.{Malformed}
use Rattle.reply.specs.Respond.{answer, written_if, Responded, Checked, Passed, Reply}
use Rattle.text.specs.Key.{begins_with}
use Rattle.form.specs.Code.{value_read}
use Rattle.form.specs.Form.{Found, found, refused, Form, keyed, chain, lines_of, exactly}
use Rattle.form.proofs.Found.{found_value, found_place, then_found}

-- a key in front
module _ {A : Type 0} (key : List ℕ) (f : Form A) (s : List ℕ) (at line : ℕ) where
  pub keyed_there : begins_with key (drop at s) ≡ true → (keyed key f).read s at line ≡ f.read s (at + length key) line
  keyed_there e = rw e

  pub keyed_missing : begins_with key (drop at s) ≡ false → (keyed key f).read s at line ≡ refused (Malformed line)
  keyed_missing e = rw e

-- how many lines n parts are, of which each has k
lines_each : {A : Type 0} (f : Form A) (k : ℕ) → ((a : A) → f.lines a ≡ k) → (l : List A) → lines_of f l ≡ k * length l
unfolding lines_of
lines_each f k h [] = omega arith
lines_each f k h (a ∷ l) = rw (mul-suc k (length l)) (omega (arith, h a, lines_each f k h l))

pub exactly_lines : {A : Type 0} (n size : ℕ) (d : A) (f : Form A) (k : ℕ) → ((a : A) → f.lines a ≡ k) → (l : List A) → (exactly n size d f).lines l ≡ k * n
exactly_lines n size d f k h l = lines_each f k h (first_of n d l) ∙ ap (λ (m : ℕ). k * m) (length_first n d l)

-- what two forms in a row found
pub record Parts {A B : Type 0} (f : Form A) (g : A → Form B) (v : A × B) (s : List ℕ) (at next line : ℕ) : Type 0 where
  pub place : ℕ
  pub first : f.read s at line ≡ found v.0 place
  pub second : (g v.0).read s place (line + f.lines v.0) ≡ found v.1 next

module _ {A B : Type 0} (f : Form A) (g : A → Form B) (s : List ℕ) (at line : ℕ) where
  parts_same : {v w : A × B} {next end : ℕ} → found v next ≡ found w end → Parts f g v s at next line → Parts f g w s at end line
  parts_same e w = rw (← found_value e, ← found_place e) w

  pub chain_parts : {v : A × B} {next : ℕ} → (chain f g).read s at line ≡ found v next → Parts f g v s at next line
  chain_parts e =
      let u = then_found (f.read s at line) _ e in
      let x = then_found ((g u.value).read s u.place (line + f.lines u.value)) _ u.then in
      parts_same x.then (record { place = u.place; first = u.first; second = x.first })

-- the reply with a text that was written to the front of a buffer
pub text_answered : {text s : List ℕ} {r : Reply} {out buffer written : List ℕ} {n : ℕ} → Wrote buffer 0 text n written
    → Responded (answer (take n written)) s r out
    → Responded (answer text) s r out
text_answered w v = rw (front_text w) at v

-- and with that of a value: c is what its check says
pub card_answered : {c : Checked} {text s : List ℕ} {r : Reply} {out buffer card : List ℕ} {n : ℕ} → c ≡ Passed → Wrote buffer 0 text n card
    → Responded (answer (take n card)) s r out
    → Responded (written_if c text) s r out
card_answered p w v = rw p (text_answered w v)

-- what was read without the position
pub was_refused : {A : Type 0} {f : Found A} {r : Refusal} → value_read f ≡ Err r → f ≡ refused r
was_refused {f = found a next} e = let z : ◌≡◌ {A = ℕ} 0 1 = cc in absurd (omega arith)
was_refused {f = refused q} {r} e = let same : q ≡ r = cc in rw same refl

pub was_found : {A : Type 0} {f : Found A} {a : A} → value_read f ≡ Ok a → (next : ℕ) × (f ≡ found a next)
was_found {f = found b next} {a} e = let same : b ≡ a = cc in (next, rw same refl)
was_found {f = refused q} e = let z : ◌≡◌ {A = ℕ} 0 1 = cc in absurd (omega arith)
