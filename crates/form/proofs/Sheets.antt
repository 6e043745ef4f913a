-- The line of a sheet, and a card behind it: a format where the card is one. A sheet that passes is the net's own, and another one is refused as 11 whatever
-- stands behind its line, which nothing else is.
use Rattle.reply.specs.Respond.{Passed}
use Rattle.std.specs.Prelude.{Err, None, Option, Some}
use Prim.Native.Nat.{ℕ, ◌+◌, ◌^◌, ◌≤◌, ◌<◌}
use native.Mathlib.Decide.{dec_le}
use native.Mathlib.Omega.{arith}
use mathlib.Core.Path.{◌≡◌, refl, sym, ap, ◌∙◌}
use mathlib.Core.Bool.{Bool, true, false, cond, ◌&&◌}
use mathlib.Core.List.{List, ◌++◌}
use lib.ListN.{length, drop}
use lib.Dec.{lit<, leb, eqb}
use borrow.Author.Tests.{eqb-true, eqb-false, eq-eqb, ne_eqb}
use Rattle.laws.specs.Writing.{first_there, second_there}
use Rattle.reply.specs.declared.Refusal.{Refusal}
use Rattle.reply.specs.declared.Refusal.TheVariants.{Malformed, OutOfRange, AnotherSheet}
use Rattle.reply.specs.Refusal.{number_of, position_of}
use Rattle.text.specs.Key.{bytes, begins_with}
use Rattle.text.specs.Number.{field_at}
use Rattle.text.specs.Decimal.{field}
use Rattle.text.proofs.KeyLaws.{begins_text}
use Rattle.text.proofs.NumberLaws.{field_text}
use Rattle.form.specs.Form.{Found, found, refused, and_then, found_if, also, Form}
use Rattle.form.specs.Line.{formed, ranged, writable, number}
use Rattle.form.specs.Sheet.{sheet_checked, sheet, sheet_of, on_sheet}
use Rattle.form.specs.Inverse.{Placed, Format, Told}
use Rattle.form.proofs.Found.{not_both, refused_same, then_refused, also_first, also_second, test_passed, test_refused, judged_refused}
use Rattle.form.proofs.Combine.{keyed_inverse}
use Rattle.form.proofs.Lines.{ranged_within, number_inverse}
use Rattle.form.proofs.NumberLines.{above_range, in_range}
use Rattle.form.proofs.Places.{OwnLine}
use Rattle.form.proofs.Format.{number_format, pair_format, ranged_format}
use Rattle.form.proofs.Writable.{number_told, keyed_told, pair_told}

-- the line of a net card is refused as 1 or 2
pub sheet_refused : (s : List ℕ) (at line : ℕ) {r : Refusal} → sheet.read s at line ≡ refused r → number_of r ≤ 2
sheet_refused s at line {r} = go (begins_with (bytes "sheet=") (drop at s)) (field_at s (at + length (bytes "sheet=")) true)
  where
    malformed : ◌≡◌ {A = Found ℕ} (refused (Malformed line)) (refused r) → number_of r ≤ 2
    malformed e = omega (arith, ap number_of (refused_same e))

    go : (t : Bool) (x : Option (ℕ × ℕ)) → cond t (and_then (formed line x) (λ n next. found_if (ranged 0 9999 n line) n next)) (refused (Malformed line)) ≡ refused r
        → number_of r ≤ 2
    go false x e = malformed e
    go true None e = malformed e
    go true (Some (n, next)) e =
        let same = test_refused (leb 0 n && leb n 9999) (OutOfRange line) (judged_refused (ranged 0 9999 n line) n next e) in
        omega (arith, ap number_of same)

pub sheet_line_format : Format (Unit {0}) sheet 16 1
sheet_line_format = ranged_format (bytes "sheet=") 0 9999 (lit< tt)

module _ (own : ℕ) where
  -- the check by its cases: 2, then 11
  pub far_sheet : (n line : ℕ) → 9999 < n → sheet_checked own n line ≡ Err (OutOfRange line)
  far_sheet n line h = rw (above_range 0 9999 n h) refl

  pub another_sheet : (n line : ℕ) → n ≤ 9999 → (n ≡ own → ⊥) → sheet_checked own n line ≡ Err (AnotherSheet line)
  another_sheet n line h other = rw (in_range 0 9999 n (omega arith) h, ne_eqb n own other) refl

  pub own_sheet : (n line : ℕ) → n ≤ 9999 → n ≡ own → sheet_checked own n line ≡ Passed
  own_sheet n line h e = rw (in_range 0 9999 n (omega arith) h, eq-eqb n own e) refl

  -- a sheet that passes: it is in range, and the net's own
  pub sheet_within : (n line : ℕ) → sheet_checked own n line ≡ Passed → n ≤ 9999
  sheet_within n line p = (ranged_within 0 9999 n line (also_first (ranged 0 9999 n line) _ p)).1

  pub sheet_same : (n line : ℕ) → sheet_checked own n line ≡ Passed → n ≡ own
  sheet_same n line p = eqb-true n own (test_passed (eqb n own) (AnotherSheet line) (also_second (ranged 0 9999 n line) _ p))

  -- the line refuses itself
  pub sheet_own : OwnLine (sheet_checked own)
  sheet_own n line r = go (leb 0 n && leb n 9999) (eqb n own)
    where
      go : (a b : Bool) → also (cond a Passed (Err (OutOfRange line))) (cond b Passed (Err (AnotherSheet line))) ≡ Err r → position_of r ≡ line
      go true true e = let z : ◌≡◌ {A = ℕ} 0 1 = cc in absurd (omega arith)
      go true false e = let same : r ≡ AnotherSheet line = cc in ap position_of same
      go false b e = let same : r ≡ OutOfRange line = cc in ap position_of same

  sheet_small : (n line : ℕ) → sheet_checked own n line ≡ Passed → n < 10 ^ 9
  sheet_small n line p = omega (arith, sheet_within n line p)

  -- a number that is too long to write is out of range
  sheet_long : (n line : ℕ) → 999999999 ≤ n → sheet_checked own n line ≡ Err (OutOfRange line)
  sheet_long n line h = far_sheet n line (omega arith)

  module _ {A : Type 0} {f : Form A} where
    pub sheet_format : {P : Type 0} {r n : ℕ} → Format P f r n → Format P (on_sheet own f) (16 + r) (1 + n)
    sheet_format w = pair_format (number_format (bytes "sheet=") (sheet_checked own) sheet_own (λ p. sheet_small)) w

    pub sheet_told : {cut : A → A} → Told f cut → Told (on_sheet own f) (λ v. (writable v.0, cut v.1))
    sheet_told w = pair_told (λ n. refl) (keyed_told (bytes "sheet=") (number_told (sheet_checked own) OutOfRange sheet_long)) w

  -- a sheet that was read is the net's own
  pub sheet_read : (n : ℕ) (s : List ℕ) (at next line : ℕ) → (sheet_of own).read s at line ≡ found n next → n ≡ own
  sheet_read n s at next line e =
      let i = keyed_inverse (bytes "sheet=") (number (sheet_checked own)) (number_inverse (sheet_checked own) sheet_small) in
      sheet_same n line (i.written_read n s at next line e).passed

  -- 11 at the line of a sheet is told of nothing else: a number in range stands there, and it is another one
  abbrev Another : Found ℕ → Type 0
  Another x = (n : ℕ) × (next : ℕ) × (x ≡ found n next) × (n ≡ own → ⊥)

  another_line : (s : List ℕ) (at line : ℕ) → (sheet_of own).read s at line ≡ refused (AnotherSheet line) → Another (sheet.read s at line)
  another_line s at line = go (begins_with (bytes "sheet=") (drop at s)) (field_at s (at + length (bytes "sheet=")) true)
    where
      judged : (n next : ℕ) → Dec (n ≤ 9999) → (b : Bool) → eqb n own ≡ b → found_if (sheet_checked own n line) n next ≡ refused (AnotherSheet line)
          → Another (found_if (ranged 0 9999 n line) n next)
      judged n next (no far) b q e =
          let same = refused_same {A = ℕ} (rw (far_sheet n line (omega arith)) at e) in
          absurd (omega (arith, ap number_of same))
      judged n next (yes h) true q e = absurd (not_both (sym (rw (own_sheet n line h (eqb-true n own q)) at e)))
      judged n next (yes h) false q e = (n, next, rw (in_range 0 9999 n (omega arith) h) refl, eqb-false n own q)

      malformed : {P : Type 0} → ◌≡◌ {A = Found ℕ} (refused (Malformed line)) (refused (AnotherSheet line)) → P
      malformed e = absurd (omega (arith, ap number_of (refused_same e)))

      go : (t : Bool) (x : Option (ℕ × ℕ))
          → cond t (and_then (formed line x) (λ n next. found_if (sheet_checked own n line) n next)) (refused (Malformed line)) ≡ refused (AnotherSheet line)
          → Another (cond t (and_then (formed line x) (λ n next. found_if (ranged 0 9999 n line) n next)) (refused (Malformed line)))
      go false x e = malformed e
      go true None e = malformed e
      go true (Some (n, next)) e = judged n next (dec_le n 9999) (eqb n own) refl e

  pub another_told : {A : Type 0} (f : Form A) {k : ℕ} → Placed f k → (s : List ℕ) (at line : ℕ) → (on_sheet own f).read s at line ≡ refused (AnotherSheet line)
      → Another (sheet.read s at line)
  another_told f w s at line =
      then_refused ((sheet_of own).read s at line) _ (another_line s at line) (λ n next p.
      then_refused (f.read s next (line + 1)) _ (λ q. absurd (omega (arith, (w.named (AnotherSheet line) s next (line + 1) q).from)))
      (λ a end q e. absurd (not_both (sym e))))

  -- another sheet is refused when its line is read, whatever stands behind that
  pub another_read : {A : Type 0} (f : Form A) (n : ℕ) → n ≤ 9999 → (n ≡ own → ⊥) → (s rest : List ℕ) (at line : ℕ)
      → drop at s ≡ (bytes "sheet=" ++ field n true) ++ rest
      → (on_sheet own f).read s at line ≡ refused (AnotherSheet line)
  another_read f n h other s rest at line e =
      let key = bytes "sheet=" in
      let there : begins_with key (drop at s) ≡ true = ap (begins_with key) (first_there s key (field n true) rest at e) ∙ begins_text key (field n true ++ rest) in
      let number = field_text n (at + length key) true s rest (omega arith) (second_there s key (field n true) rest at e) in
      rw (there, number, another_sheet n line h other) refl
