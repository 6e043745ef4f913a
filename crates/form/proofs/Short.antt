-- How long the text of a value that passes its check can be: k bytes at most, by one law for each way to put forms together.
use Rattle.reply.specs.Respond.{Passed}
use Prim.Native.Nat.{ℕ, ◌+◌, ◌*◌, ◌^◌, ◌≤◌, ◌<◌, min}
use native.Mathlib.Nat.{le_trans, mul-suc, mul-le-mul_left, min-le_right}
use native.Mathlib.Omega.{arith}
use mathlib.Core.Path.{◌≡◌}
use mathlib.Core.Bool.{Bool, true, ◌&&◌, and-eq-true_iff}
use mathlib.Core.List.{List, [], ◌∷◌}
use lib.ListN.{length, length-append}
use lib.Dec.{leb, eqb}
use borrow.Author.Tests.{leb-true}
use Rattle.laws.specs.Slots.{first_of, length_first}
use Rattle.reply.specs.declared.Refusal.TheVariants.{OutOfRange}
use Rattle.text.specs.Decimal.{field}
use Rattle.text.proofs.DecimalLaws.{digits_few}
use Rattle.text.proofs.NumberLaws.{length_field}
use Rattle.form.specs.Form.{Form, keyed, chain, texts, checks, times, held}
use Rattle.form.specs.Line.{ranged, number, items_text, all_ranged, items}
use Rattle.form.proofs.Found.{also_first, also_second, test_passed}
use Rattle.form.proofs.Lines.{ranged_within}

pub record Short {A : Type 0} (f : Form A) (k : ℕ) : Type 0 where
  pub few : (a : A) (line : ℕ) → f.check a line ≡ Passed → length (f.text a) ≤ k

pub keyed_short : (key : List ℕ) {A : Type 0} {f : Form A} {k : ℕ} → Short f k → Short (keyed key f) (length key + k)
keyed_short key {f = f} h = record { few = λ a line p. omega (arith, length-append key (f.text a), h.few a line p) }

pub chain_short : {A B : Type 0} {f : Form A} {g : A → Form B} {k m : ℕ} → Short f k → ((a : A) → Short (g a) m) → Short (chain f g) (k + m)
chain_short {f = f} {g} h h' =
    record {
      few = λ v line p.
          let a = v.0 in
          let b = v.1 in
          let next = line + f.lines a in
          let first = h.few a line (also_first (f.check a line) ((g a).check b next) p) in
          let second = (h' a).few b next (also_second (f.check a line) ((g a).check b next) p) in
          omega (arith, length-append (f.text a) ((g a).text b), first, second);
    }

pub held_short : {A B : Type 0} (to : A → B) (from : B → A) {f : Form A} {k : ℕ} → Short f k → Short (held to from f) k
held_short to from h = record { few = λ b line p. h.few (from b) line p }

texts_short : {A : Type 0} {f : Form A} {k : ℕ} → Short f k → (l : List A) (line : ℕ) → checks f l line ≡ Passed → length (texts f l) ≤ k * length l
unfolding texts checks
texts_short h [] line p = omega arith
texts_short {f = f} {k} h (a ∷ l) line p =
    let next = line + f.lines a in
    let first = h.few a line (also_first (f.check a line) (checks f l next) p) in
    let rest = texts_short h l next (also_second (f.check a line) (checks f l next) p) in
    rw (mul-suc k (length l)) (omega (arith, length-append (f.text a) (texts f l), first, rest))

pub times_short : (n size : ℕ) {A : Type 0} (d : A) {f : Form A} {k : ℕ} → Short f k → Short (times n size d f) (k * size)
times_short n size d {k = k} h =
    record {
      few = λ l line p.
          le_trans (rw (length_first (min n size) d l) at (texts_short h (first_of (min n size) d l) line p)) (mul-le-mul_left k (min-le_right n size));
    }

-- numbers of at most w digits, each with its separator
module _ (w low high : ℕ) (one : 1 ≤ w) (few : w ≤ 20) (h : high < 10 ^ w) where
  field_few : (n : ℕ) (last : Bool) → n ≤ high → length (field n last) ≤ w + 1
  field_few n last l = omega (arith, length_field n last, digits_few w n one few (omega arith))

  pub number_short : Short (number (ranged low high)) (w + 1)
  number_short = record { few = λ n line p. field_few n true (ranged_within low high n line p).1 }

  ranged_few : (ns : List ℕ) → all_ranged low high ns ≡ true → length (items_text ns) ≤ (w + 1) * length ns
  unfolding items_text all_ranged
  ranged_few [] p = omega arith
  ranged_few (n ∷ ns) p =
      let last = eqb (length ns) 0 in
      let q = (and-eq-true_iff (leb low n && leb n high) (all_ranged low high ns)).0 p in
      let l : n ≤ high = leb-true n high ((and-eq-true_iff (leb low n) (leb n high)).0 q.0).1 in
      rw (mul-suc (w + 1) (length ns)) (omega (arith, length-append (field n last) (items_text ns), field_few n last l, ranged_few ns q.1))

  pub items_short : (k size : ℕ) → Short (items k size low high) ((w + 1) * size)
  items_short k size =
      record {
        few = λ ns line p.
            let some = first_of (min k size) 0 ns in
            let most = ranged_few some (test_passed (all_ranged low high some) (OutOfRange line) p) in
            le_trans (rw (length_first (min k size) 0 ns) at most) (mul-le-mul_left (w + 1) (min-le_right k size));
      }
