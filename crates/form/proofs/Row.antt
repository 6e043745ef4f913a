-- Cards in a row: how much of an input their reading looks at, what a reading that found something says of the cards, what a refusal is of, how values are told
-- by their cards, what is refused behind a card that passes; and the reading in steps, card by card.
use Rattle.reply.specs.Respond.{Checked, Passed}
use Rattle.std.specs.Prelude.{Err, Ok}
use Prim.Native.Nat.{ℕ, ◌+◌, ◌-◌, ◌≤◌, ◌<◌}
use native.Mathlib.Nat.{zero-add}
use native.Mathlib.Omega.{arith}
use mathlib.Core.Path.{◌≡◌, refl, sym, ap, ◌∙◌}
use mathlib.Core.List.{List, ◌++◌}
use lib.ListN.{length, take, drop}
use lib.Seq.{drop-append_seam}
use Rattle.laws.specs.Writing.{drop_take}
use Rattle.reply.specs.declared.Refusal.{Refusal}
use Rattle.form.specs.Code.{value_read}
use Rattle.form.specs.Form.{Found, found, refused, found_if, also, Form, front, alone, follow}
use Rattle.form.specs.Inverse.{Inverse, Reaches, Told}
use Rattle.form.proofs.Found.{not_both, found_value, found_place, then_found, then_refused, then_same, judged_then, judged_more}
use Rattle.form.proofs.Card.{alone_found, alone_prefix}

-- ---- a reading that looks at `reach` bytes at most, and at whether there are more
pub record Near {A : Type 0} (read : List ℕ → Found A) (reach : ℕ) : Type 0 where
  pub near : (s : List ℕ) {a : A} {next : ℕ} → read s ≡ found a next → next ≤ reach
  pub prefix : (s : List ℕ) (k : ℕ) → reach < k → read (take k s) ≡ read s

module _ {A : Type 0} {f : Form A} {reach : ℕ} (w : Reaches f reach) where
  pub front_near : Near (front f) reach
  front_near = record { near = λ s {a} {next} e. omega (arith, w.near a s 0 next 1 e); prefix = λ s k h. w.prefix s k 0 1 (omega arith) }

  pub alone_near : Near (alone f) reach
  alone_near = record { near = λ s {a} {next} e. omega (arith, w.near a s 0 next 1 (alone_found f s e).0); prefix = alone_prefix w }

-- a row looks at as much as its two readings together
pub follow_near : {A B : Type 0} {first : List ℕ → Found A} {then : A → List ℕ → Found B} {reach more : ℕ} → Near first reach
    → ((s : List ℕ) (a : A) (next : ℕ) → first s ≡ found a next → Near (then a) more) → Near (follow first then) (reach + more)
follow_near {first = first} {then} w z =
    record {
      near = λ s e.
          let u = then_found (first s) _ e in
          let x = then_found (then u.value (drop u.place s)) _ u.then in
          omega (arith, w.near s u.first, (z s u.value u.place u.first).near (drop u.place s) x.first, found_place x.then);
      prefix = λ s k h.
          rw (w.prefix s k (omega arith))
          (then_same (first s) _ _ (λ a next e.
          rw (drop_take next k s, (z s a next e).prefix (drop next s) (k - next) (omega (arith, w.near s e))) refl));
    }

-- ---- a row that was read: the first card stands at the front, and behind it what was read next
pub record RowRead {A B : Type 0} (f : Form A) (then : A → List ℕ → Found B) (s : List ℕ) (v : A × B) (next : ℕ) : Type 0 where
  pub end : ℕ
  pub bytes : s ≡ f.text v.0 ++ drop (length (f.text v.0)) s
  pub passed : f.check v.0 1 ≡ Passed
  pub there : then v.0 (drop (length (f.text v.0)) s) ≡ found v.1 end
  pub in_all : next ≡ length (f.text v.0) + end

row_same : {A B : Type 0} (f : Form A) (then : A → List ℕ → Found B) {s : List ℕ} {v x : A × B} {next end : ℕ} → found v next ≡ found x end
    → RowRead f then s v next → RowRead f then s x end
row_same f then e w = rw (← found_value e, ← found_place e) w

pub row_read : {A B : Type 0} {f : Form A} → Inverse f → (then : A → List ℕ → Found B) (s : List ℕ) {v : A × B} {next : ℕ}
    → follow (front f) then s ≡ found v next → RowRead f then s v next
row_read {f = f} i then s e =
    let u = then_found (front f s) _ e in
    let a = u.value in
    let x = then_found (then a (drop u.place s)) _ u.then in
    let w = i.written_read a s 0 u.place 1 u.first in
    let long : u.place ≡ length (f.text a) = w.end ∙ zero-add (length (f.text a)) in
    row_same f then x.then
    (record {
      end = x.place;
      bytes = w.bytes ∙ ap (λ (n : ℕ). f.text a ++ drop n s) long;
      passed = w.passed;
      there = ap (λ (n : ℕ). then a (drop n s)) (sym long) ∙ x.first;
      in_all = ap (λ (n : ℕ). n + x.place) long;
    })

-- ---- a refusal of a row is one of its first card, or of what is read behind it
pub row_refused : {A B : Type 0} (first : List ℕ → Found A) (then : A → List ℕ → Found B) {P : Type 0} {r : Refusal} (s : List ℕ) → (first s ≡ refused r → P)
    → ((a : A) (next : ℕ) → first s ≡ found a next → then a (drop next s) ≡ refused r → P)
    → follow first then s ≡ refused r → P
row_refused first then s one more =
    then_refused (first s) _ one (λ a next e. then_refused (then a (drop next s)) _ (more a next e) (λ b end p q. absurd (not_both (sym q))))

-- ---- values are told by their cards in a row: that of the first, and those behind it where it passes
pub row_told : {A B : Type 0} {f : Form A} {cut : A → A} → Told f cut → (then : A → List ℕ → Found B) (a : A) (u : List ℕ) (c : Checked) (b : B) (n : ℕ)
    → (f.check a 1 ≡ Passed → then (f.clean a) u ≡ found_if c b n)
    → follow (front f) then (f.text (cut a) ++ u) ≡ found_if (also (f.check a 1) c) (f.clean a, b) (length (f.text (cut a)) + n)
row_told {f = f} {cut} w then a u c b n h =
    let t = f.text (cut a) in
    rw (w.told a (t ++ u) u 0 1 refl, zero-add (length t))
    (judged_then (f.check a 1) c (f.clean a) (length t) _ _ _ (λ p.
    rw (drop-append_seam t u, h p)
    (judged_more c b n _ _ _ (λ q. refl))))

-- ---- what is refused behind a card that passes
pub row_behind : {A B : Type 0} {f : Form A} → Inverse f → (then : A → List ℕ → Found B) (a : A) (u : List ℕ) {r : Refusal} → f.check a 1 ≡ Passed
    → then (f.clean a) u ≡ refused r → follow (front f) then (f.text a ++ u) ≡ refused r
row_behind {f = f} i then a u p h =
    let t = f.text a in
    rw (i.read_written a (t ++ u) u 0 1 p refl, zero-add (length t), drop-append_seam t u, h) refl

-- ---- two cards that were read one behind the other, by their values
module _ {A B : Type 0} (first : List ℕ → Found A) (then : A → List ℕ → Found B) (s : List ℕ) {a : A} {next : ℕ} (e : first s ≡ found a next) where
  pub both_read : {b : B} {end : ℕ} → then a (drop next s) ≡ found b end → Ok (a, b) ≡ value_read (follow first then s)
  both_read e' = rw (e, e') refl

  pub second_refused : {r : Refusal} → then a (drop next s) ≡ refused r → Err r ≡ value_read (follow first then s)
  second_refused e' = rw (e, e') refl
