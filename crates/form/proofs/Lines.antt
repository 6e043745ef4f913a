-- A line's numbers are read back: each stands in its own field, and a number that passes the check is one that a card can write.
use Rattle.reply.specs.Respond.{Checked, Passed}
use Rattle.std.specs.Prelude.{None, Option, Some}
use Prim.Native.Nat.{ℕ, zero, suc, ◌+◌, ◌*◌, ◌^◌, ◌≤◌, ◌<◌}
use native.Mathlib.Nat.{add-zero}
use native.Mathlib.Omega.{arith}
use mathlib.Core.Path.{◌≡◌, refl, sym, ap, ◌∙◌}
use mathlib.Core.Bool.{true, ◌&&◌, and-eq-true_iff}
use mathlib.Core.List.{List, [], ◌∷◌, ◌++◌}
use lib.ListN.{length, take, drop}
use lib.Dec.{leb, ltb, eqb}
use borrow.Author.Tests.{leb-true, ltb-true}
use Rattle.laws.specs.Each.{Each}
use Rattle.laws.specs.Slots.{first_of, pad_to, length_first, first_pad}
use Rattle.laws.specs.Writing.{first_there, second_there, both_there, both_long}
use Rattle.reply.specs.declared.Refusal.TheVariants.{OutOfRange, NoSuchTransition}
use Rattle.text.specs.Key.{begins_with}
use Rattle.text.specs.Number.{field_at}
use Rattle.text.specs.Decimal.{field}
use Rattle.text.proofs.KeyLaws.{begins_split}
use Rattle.text.proofs.NumberLaws.{field_text, field_split, field_near, field_take}
use Rattle.form.specs.Form.{found, Form, keyed}
use Rattle.form.specs.Line.{formed, ranged, listed, number, items_text, items_at, all_ranged, items_ranged, item_list}
use Rattle.form.specs.Inverse.{WasRead, Inverse, Settled, Reaches}
use Rattle.form.proofs.Found.{not_both, found_value, found_place, then_found, then_same, judged_passed, judged_found, test_passed}
use Rattle.form.proofs.Combine.{was_same, keyed_inverse}

pub formed_value : (line : ℕ) (r : Option (ℕ × ℕ)) {n next : ℕ} → formed line r ≡ found n next → r ≡ Some (n, next)
formed_value line (Some (m, end)) e = cc
formed_value line None e = absurd (not_both e)

-- a number that passes its check lies in its range
pub ranged_within : (low high n line : ℕ) → ranged low high n line ≡ Passed → (low ≤ n) × (n ≤ high)
ranged_within low high n line e =
    let t = (and-eq-true_iff (leb low n) (leb n high)).0 (test_passed (leb low n && leb n high) (OutOfRange line) e) in
    (leb-true low n t.0, leb-true n high t.1)

pub ranged_small : (low high : ℕ) → high < 10 ^ 9 → (n line : ℕ) → ranged low high n line ≡ Passed → n < 10 ^ 9
ranged_small low high h n line e = omega (arith, (ranged_within low high n line e).1)

pub listed_small : (transitions : ℕ) → transitions < 10 ^ 9 → (n line : ℕ) → listed transitions n line ≡ Passed → n < 10 ^ 9
listed_small transitions h n line e = omega (arith, ltb-true n transitions (test_passed (ltb n transitions) (NoSuchTransition line) e))

module _ (judge : ℕ → ℕ → Checked) where
  number_was : (n : ℕ) (s : List ℕ) (at next line : ℕ) → field_at s at true ≡ Some (n, next) → judge n line ≡ Passed → WasRead (number judge) n s at next line
  number_was n s at next line e p =
      let w = field_split n at next true s e in
      record { bytes = w.text; end = w.end; passed = p; cleaned = refl }

  pub number_inverse : ((n line : ℕ) → judge n line ≡ Passed → n < 10 ^ 9) → Inverse (number judge)
  number_inverse small =
      record {
        read_written = λ n s rest at line p e. rw (field_text n at true s rest (small n line p) e, p) refl;
        written_read = λ n s at next line e.
            let u = then_found (formed line (field_at s at true)) _ e in
            let c = judge u.value line in
            was_same (number judge) (judged_found c _ u.place u.then)
            (number_was u.value s at u.place line (formed_value line (field_at s at true) u.first) (judged_passed c _ u.place u.then));
      }

  pub number_settled : Settled (number judge)
  number_settled = record { same_text = λ n. refl; same_lines = λ n. refl; same_check = λ n line. refl }

  pub number_reaches : Reaches (number judge) 10
  number_reaches =
      record {
        near = λ n s at next line e.
            let u = then_found (formed line (field_at s at true)) _ e in
            let h = field_near u.value at u.place true s (formed_value line (field_at s at true) u.first) in
            omega (arith, h.0, found_place (judged_found (judge u.value line) _ u.place u.then));
        prefix = λ s k at line h. rw (field_take k at true s h) refl;
      }

-- the numbers of a line in a row: they stand there, and are as many as were asked for
pub record ItemsThere (k : ℕ) (ns s : List ℕ) (at next : ℕ) : Type 0 where
  pub count : length ns ≡ k
  pub bytes : drop at s ≡ items_text ns ++ drop next s
  pub end : next ≡ at + length (items_text ns)

items_same : (k : ℕ) {ns ms s : List ℕ} {at next end : ℕ} → found ns next ≡ found ms end → ItemsThere k ns s at next → ItemsThere k ms s at end
items_same k e w = rw (← found_value e, ← found_place e) w

items_more : (k n : ℕ) (ns s : List ℕ) (at next end : ℕ) → field_at s at (eqb k 0) ≡ Some (n, next) → ItemsThere k ns s next end
    → ItemsThere (suc k) (n ∷ ns) s at end
unfolding items_text
items_more k n ns s at next end e w =
    let v = field_split n at next (eqb k 0) s e in
    let t = field n (eqb k 0) in
    record {
      count = ap suc w.count;
      bytes = rw w.count (both_there s t (items_text ns) at next end v.text w.bytes);
      end = rw w.count (omega (arith, v.end, w.end, both_long t (items_text ns) at));
    }

pub items_there : (k : ℕ) (ns s : List ℕ) (at next line : ℕ) → items_at k s at line ≡ found ns next → ItemsThere k ns s at next
unfolding items_text items_at
items_there zero ns s at next line e = items_same 0 e (record { count = refl; bytes = refl; end = sym (add-zero at) })
items_there (suc k) ns s at next line e =
    let u = then_found (formed line (field_at s at (eqb k 0))) _ e in
    let x = then_found (items_at k s u.place line) _ u.then in
    let v = formed_value line (field_at s at (eqb k 0)) u.first in
    items_same (suc k) x.then (items_more k u.value x.value s at u.place x.place v
    (items_there k x.value s u.place x.place line x.first))

-- numbers that all lie in a range are all short
pub ranged_each : (low high : ℕ) → high < 10 ^ 9 → (ns : List ℕ) → all_ranged low high ns ≡ true → Each (λ n. n < 10 ^ 9) ns
unfolding all_ranged
ranged_each low high h [] p = tt
ranged_each low high h (n ∷ ns) p =
    let q = (and-eq-true_iff (leb low n && leb n high) (all_ranged low high ns)).0 p in
    let m : n ≤ high = leb-true n high ((and-eq-true_iff (leb low n) (leb n high)).0 q.0).1 in
    (omega arith, ranged_each low high h ns q.1)

pub items_back : (ns s rest : List ℕ) (at line : ℕ) → Each (λ n. n < 10 ^ 9) ns → drop at s ≡ items_text ns ++ rest
    → items_at (length ns) s at line ≡ found ns (at + length (items_text ns))
unfolding items_text items_at
items_back [] s rest at line small e = ap (found []) (sym (add-zero at))
items_back (n ∷ ns) s rest at line small e =
    let t = field n (eqb (length ns) 0) in
    let e₁ = field_text n at (eqb (length ns) 0) s (items_text ns ++ rest) small.0 (first_there s t (items_text ns) rest at e) in
    let e₂ = items_back ns s rest (at + length t) line small.1 (second_there s t (items_text ns) rest at e) in
    rw (e₁, e₂) (ap (found (n ∷ ns)) (both_long t (items_text ns) at))

items_near : (k : ℕ) (ns s : List ℕ) (at next line : ℕ) → items_at k s at line ≡ found ns next → next ≤ at + k * 10
unfolding items_at
items_near zero ns s at next line e = omega (arith, found_place e)
items_near (suc k) ns s at next line e =
    let u = then_found (formed line (field_at s at (eqb k 0))) _ e in
    let x = then_found (items_at k s u.place line) _ u.then in
    let h = field_near u.value at u.place (eqb k 0) s (formed_value line (field_at s at (eqb k 0)) u.first) in
    omega (arith, h.0, items_near k x.value s u.place x.place line x.first, found_place x.then)

items_prefix : (j : ℕ) (s : List ℕ) (k at line : ℕ) → at + j * 10 ≤ k → items_at j (take k s) at line ≡ items_at j s at line
unfolding items_at
items_prefix zero s k at line h = refl
items_prefix (suc j) s k at line h =
    let last = eqb j 0 in
    rw (field_take k at last s (omega arith))
    (then_same (formed line (field_at s at last)) _ _ (λ n next e.
    let l = field_near n at next last s (formed_value line (field_at s at last) e) in
    rw (items_prefix j s k next line (omega (arith, l.0))) refl))

module _ (k size low high : ℕ) where
  items_was : (ns s : List ℕ) (at next line : ℕ) → ItemsThere k ns s at next → items_ranged low high ns line ≡ Passed
      → WasRead (item_list k size low high) (pad_to size 0 ns) s at next line
  items_was ns s at next line w p =
      let e = first_pad k size 0 ns w.count in
      record {
        bytes = rw e w.bytes;
        end = rw e w.end;
        passed = rw e p;
        cleaned = rw e refl;
      }

  pub items_inverse : high < 10 ^ 9 → Inverse (item_list k size low high)
  items_inverse h =
      record {
        read_written = λ ns s rest at line p e.
            let m = first_of k 0 ns in
            let t = test_passed (all_ranged low high m) (OutOfRange line) p in
            rw (ap (λ (j : ℕ). items_at j s at line) (sym (length_first k 0 ns)) ∙ items_back m s rest at line (ranged_each low high h m t) e, p) refl;
        written_read = λ ns s at next line e.
            let u = then_found (items_at k s at line) _ e in
            let c = items_ranged low high u.value line in
            was_same (item_list k size low high) (judged_found c _ u.place u.then)
            (items_was u.value s at u.place line (items_there k u.value s at u.place line u.first) (judged_passed c _ u.place u.then));
      }

  pub items_settled : Settled (item_list k size low high)
  items_settled =
      record {
        same_text = λ ns. rw (again ns) refl;
        same_lines = λ ns. refl;
        same_check = λ ns line. rw (again ns) refl;
      }
    where
      again : (ns : List ℕ) → first_of k 0 (pad_to size 0 (first_of k 0 ns)) ≡ first_of k 0 ns
      again ns = first_pad k size 0 (first_of k 0 ns) (length_first k 0 ns)

  pub items_reaches : Reaches (item_list k size low high) (k * 10)
  items_reaches =
      record {
        near = λ ns s at next line e.
            let u = then_found (items_at k s at line) _ e in
            let h = items_near k u.value s at u.place line u.first in
            omega (arith, h, found_place (judged_found (items_ranged low high u.value line) _ u.place u.then));
        prefix = λ s n at line h. rw (items_prefix k s n at line h) refl;
      }

-- what was read behind a key lies in its range
pub ranged_read : (key : List ℕ) (low high : ℕ) → high < 10 ^ 9 → (n : ℕ) (s : List ℕ) (at next line : ℕ)
    → (keyed key (number (ranged low high))).read s at line ≡ found n next
    → (low ≤ n) × (n ≤ high)
ranged_read key low high h n s at next line e =
    let i = keyed_inverse key (number (ranged low high)) (number_inverse (ranged low high) (ranged_small low high h)) in
    ranged_within low high n line (i.written_read n s at next line e).passed

-- a value whose text is a word of its own, where the word stands
pub word_was : {A : Type 0} (f : Form A) (a : A) (s : List ℕ) (at line : ℕ) → f.check a line ≡ Passed → f.clean a ≡ a
    → begins_with (f.text a) (drop at s) ≡ true
    → WasRead f a s at (at + length (f.text a)) line
word_was f a s at line p c t = record { bytes = (begins_split (f.text a) s at t).0; end = refl; passed = p; cleaned = c }
