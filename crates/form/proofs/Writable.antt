-- A value is checked as its text is read (`Told`), one law for each way to put forms together: a number too long to write stands as the largest of nine
-- digits, which every range refuses as it refuses the number itself.
use Rattle.reply.specs.Respond.{Checked, Passed}
use Rattle.std.specs.Prelude.{Err}
use Prim.Native.Nat.{ℕ, ◌+◌, ◌^◌, ◌≤◌, ◌<◌, min}
use native.Mathlib.Nat.{zero-add, le_of_suc-le-suc, add-zero, le_refl, min-eq_left, min-eq_right, min-le_right}
use native.Mathlib.Omega.{arith}
use native.Mathlib.Decide.{dec_le}
use mathlib.Core.Path.{◌≡◌, refl, sym, ap, ◌∙◌}
use mathlib.Core.Bool.{true, false, ◌&&◌}
use mathlib.Core.List.{List, [], ◌∷◌, ◌++◌, map, append-nil}
use lib.ListN.{length, drop, length-map, drop_of_length-le}
use lib.Dec.{leb}
use borrow.Author.Tests.{le-leb, le-ltb}
use Rattle.laws.specs.Each.{Each, each_image}
use Rattle.laws.specs.Slots.{first_of, pad_to, length_first, first_mapped}
use Rattle.laws.specs.Writing.{first_there, second_there, both_long}
use Rattle.reply.specs.declared.Refusal.{Refusal}
use Rattle.reply.specs.declared.Refusal.TheVariants.{OutOfRange, NoSuchTransition}
use Rattle.reply.specs.Refusal.{position_of}
use Rattle.text.specs.Key.{begins_with}
use Rattle.text.specs.Decimal.{field}
use Rattle.text.proofs.KeyLaws.{begins_text}
use Rattle.text.proofs.NumberLaws.{field_text}
use Rattle.form.specs.Form.{found, refused, found_if, Form, keyed, chain, texts, checks, reads, exactly, held, ended, alone}
use Rattle.form.specs.Line.{ranged, writable, listed, number, items_text, items_at, all_ranged, items_ranged, item_list, items}
use Rattle.form.specs.Inverse.{Inverse, Settled, Placed, Told}
use Rattle.form.proofs.Found.{judged_then, judged_more, judged_same, test_passed}
use Rattle.form.proofs.Lines.{ranged_within, ranged_each, items_back}
use Rattle.form.proofs.NumberLines.{above_range}

-- ---- numbers
pub writable_small : (n : ℕ) → writable n < 10 ^ 9
writable_small n = omega (arith, min-le_right n 999999999)

-- a test that a number too long to write does not pass says the same of the number that stands for it
same_test : {B : Type 0} (test : ℕ → B) (refuses : B) → ((n : ℕ) → 999999999 ≤ n → test n ≡ refuses) → (n : ℕ) → test (writable n) ≡ test n
same_test test refuses long n = go (dec_le n 999999999)
  where
    go : Dec (n ≤ 999999999) → test (writable n) ≡ test n
    go (yes h) = ap test (min-eq_left h)
    go (no h) = ap test (min-eq_right {n = 999999999} (omega arith)) ∙ long 999999999 (omega arith) ∙ sym (long n (omega arith))

module _ {A : Type 0} (judge : ℕ → ℕ → Checked) (to : ℕ → A) (refusal : ℕ → Refusal)
    (long : (n line : ℕ) → 999999999 ≤ n → judge n line ≡ Err (refusal line)) where
  pub judged_writable : (n line next : ℕ) → found_if (judge (writable n) line) (to (writable n)) next ≡ found_if (judge n line) (to n) next
  judged_writable n line next = same_test (λ m. found_if (judge m line) (to m) next) (refused (refusal line)) (λ m h. rw (long m line h) refl) n

pub ranged_long : (low high : ℕ) → high < 999999999 → (n line : ℕ) → 999999999 ≤ n → ranged low high n line ≡ Err (OutOfRange line)
ranged_long low high h n line l = rw (above_range low high n (omega arith)) refl

listed_long : (transitions : ℕ) → transitions ≤ 999999999 → (n line : ℕ) → 999999999 ≤ n → listed transitions n line ≡ Err (NoSuchTransition line)
listed_long transitions h n line l = rw (le-ltb n transitions (omega arith)) refl

pub number_told : (judge : ℕ → ℕ → Checked) (refusal : ℕ → Refusal) → ((n line : ℕ) → 999999999 ≤ n → judge n line ≡ Err (refusal line))
    → Told (number judge) writable
number_told judge refusal long =
    record {
      told = λ n s rest at line e. rw (field_text (writable n) at true s rest (writable_small n) e)
          (judged_writable judge (λ m. m) refusal long n line (at + length (field (writable n) true)));
    }

-- the numbers of a line
short_items : (ns : List ℕ) → Each (λ n. n < 10 ^ 9) ns → map writable ns ≡ ns
short_items [] h = refl
short_items (n ∷ ns) h = λ i. min-eq_left {m = 999999999} (le_of_suc-le-suc h.0) i ∷ short_items ns h.1 i

module _ (k size low high : ℕ) (h : high < 999999999) where
  same_ranges : (ns : List ℕ) → all_ranged low high (map writable ns) ≡ all_ranged low high ns
  unfolding all_ranged
  same_ranges [] = refl
  same_ranges (n ∷ ns) = rw (same_test (λ m. leb low m && leb m high) false (λ m l. above_range low high m (omega arith)) n, same_ranges ns) refl

  list_told : Told (item_list k size low high) (map writable)
  list_told =
      record {
        told = λ l s rest at line e.
            let ns = first_of k 0 l in
            let t = items_text (map writable ns) in
            let cut = first_mapped writable k 0 refl l in
            let many : length (map writable ns) ≡ k = length-map ns writable ∙ length_first k 0 l in
            let read = items_back (map writable ns) s rest at line (each_image (λ n. n < 10 ^ 9) writable writable_small ns) (rw cut at e) in
            rw (cut, ap (λ (j : ℕ). items_at j s at line) (sym many) ∙ read, same_ranges ns)
            (judged_same (items_ranged low high ns line) _ _ _ _ (λ p.
            ap (λ (m : List ℕ). found (pad_to size 0 m) (at + length t))
            (short_items ns (ranged_each low high (omega arith) ns (test_passed (all_ranged low high ns) (OutOfRange line) p)))));
      }

-- so a check that refuses names a line from the first on, as the reading does
pub told_placed : {A : Type 0} {f : Form A} {cut : A → A} → Told f cut → {n : ℕ} → Placed f n → (a : A) (line : ℕ) {r : Refusal} → f.check a line ≡ Err r
    → line ≤ position_of r
told_placed {f = f} {cut} w p a line {r} e =
    let t = f.text (cut a) in
    (p.named r t 0 line (w.told a t [] 0 line (sym (append-nil t)) ∙ rw e refl)).from

-- ---- the ways to put forms together
pub keyed_told : (key : List ℕ) {A : Type 0} {f : Form A} {cut : A → A} → Told f cut → Told (keyed key f) cut
keyed_told key {f = f} {cut} w =
    record {
      told = λ a s rest at line e.
          let t = f.text (cut a) in
          let there : begins_with key (drop at s) ≡ true = ap (begins_with key) (first_there s key t rest at e) ∙ begins_text key (t ++ rest) in
          rw there (w.told a s rest (at + length key) line (second_there s key t rest at e)
          ∙ ap (found_if (f.check a line) (f.clean a)) (both_long key t at));
    }

module _ {A B : Type 0} {f : Form A} {g : A → Form B} {cut : A → A} {cut' : B → B} where
  -- a part, and behind it the part that its value asks for: no other where the value is cut and passes
  chain_told : ((a : A) → g (f.clean a) ≡ g a) → ((a : A) → f.lines (f.clean a) ≡ f.lines a)
      → ((a : A) (line : ℕ) → f.check a line ≡ Passed → g (cut a) ≡ g a)
      → Told f cut → ((a : A) → Told (g a) cut') → Told (chain f g) (λ v. (cut v.0, cut' v.1))
  chain_told same lines asks w z =
      record {
        told = λ v s rest at line e.
            let a = v.0 in
            let b = v.1 in
            let t = f.text (cut a) in
            let u = (g (cut a)).text (cut' b) in
            rw (w.told a s (u ++ rest) at line (first_there s t u rest at e))
            (judged_then (f.check a line) ((g a).check b (line + f.lines a)) (f.clean a) (at + length t) _ _ _ (λ p.
            let there : drop (at + length t) s ≡ (g a).text (cut' b) ++ rest = rw (asks a line p) at (second_there s t u rest at e) in
            rw (same a, lines a, asks a line p, (z a).told b s rest (at + length t) (line + f.lines a) there)
            (judged_more ((g a).check b (line + f.lines a)) ((g a).clean b) _ _ _ _ (λ q.
            ap (found (f.clean a, (g a).clean b)) (both_long t ((g a).text (cut' b)) at)))));
      }

module _ {A B : Type 0} (to : A → B) (from : B → A) {f : Form A} {cut : A → A} where
  pub held_told : (cut' : B → B) → ((b : B) → from (cut' b) ≡ cut (from b)) → Told f cut → Told (held to from f) cut'
  held_told cut' same w =
      record {
        told = λ b s rest at line e.
            let read = w.told (from b) s rest at line (e ∙ ap (λ (a : A). f.text a ++ rest) (same b)) in
            rw read
            (judged_more (f.check (from b) line) (f.clean (from b)) _ _ _ _ (λ p.
            ap (λ (a : A). found (to (f.clean (from b))) (at + length (f.text a))) (sym (same b))));
      }

module _ {A : Type 0} {f : Form A} {cut : A → A} (lines : (a : A) → f.lines (f.clean a) ≡ f.lines a) (w : Told f cut) where
  reads_told : (l : List A) (s rest : List ℕ) (at line : ℕ) → drop at s ≡ texts f (map cut l) ++ rest
      → reads f (length l) s at line ≡ found_if (checks f l line) (map f.clean l) (at + length (texts f (map cut l)))
  unfolding texts checks reads
  reads_told [] s rest at line e = ap (found []) (sym (add-zero at))
  reads_told (a ∷ l) s rest at line e =
      let t = f.text (cut a) in
      let u = texts f (map cut l) in
      let c = checks f l (line + f.lines a) in
      rw (w.told a s (u ++ rest) at line (first_there s t u rest at e))
      (judged_then (f.check a line) c (f.clean a) (at + length t) _ _ _ (λ p.
      rw (lines a, reads_told l s rest (at + length t) (line + f.lines a) (second_there s t u rest at e))
      (judged_more c (map f.clean l) _ _ _ _ (λ q. ap (found (f.clean a ∷ map f.clean l)) (both_long t u at)))))

  pub exactly_told : (n size : ℕ) (d : A) → cut d ≡ d → Told (exactly n size d f) (map cut)
  exactly_told n size d same =
      record {
        told = λ l s rest at line e.
            let m = first_of n d l in
            let first = first_mapped cut n d same l in
            let read = reads_told m s rest at line (e ∙ ap (λ (x : List A). texts f x ++ rest) first) in
            rw (first, ap (λ (k : ℕ). reads f k s at line) (sym (length_first n d l)) ∙ read)
            (judged_more (checks f m line) (map f.clean m) _ _ _ _ (λ p. refl));
      }

-- a part, and behind it another whatever the value of the first
pub pair_told : {A B : Type 0} {f : Form A} {g : Form B} {cut : A → A} {cut' : B → B} → ((a : A) → f.lines (f.clean a) ≡ f.lines a)
    → Told f cut → Told g cut' → Told (chain f (λ _. g)) (λ v. (cut v.0, cut' v.1))
pair_told lines w z = chain_told (λ a. refl) lines (λ a line p. refl) w (λ a. z)

-- ---- lines
pub ranged_told : (key : List ℕ) (low high : ℕ) → high < 999999999 → Told (keyed key (number (ranged low high))) writable
ranged_told key low high h = keyed_told key (number_told (ranged low high) OutOfRange (ranged_long low high h))

pub listed_told : (key : List ℕ) (transitions : ℕ) → transitions ≤ 999999999 → Told (keyed key (number (listed transitions))) writable
listed_told key transitions h = keyed_told key (number_told (listed transitions) NoSuchTransition (listed_long transitions h))

pub items_told : (key : List ℕ) (k size low high : ℕ) → high < 999999999 → Told (keyed key (items k size low high)) (map writable)
items_told key k size low high h = keyed_told key (list_told (min k size) size low high h)

-- a number of a range, and behind it what it asks for
pub counted_told : (key : List ℕ) (low high : ℕ) → high < 999999999 → {A : Type 0} {g : ℕ → Form A} {cut : A → A} → ((n : ℕ) → Told (g n) cut)
    → Told (chain (keyed key (number (ranged low high))) g) (λ v. (writable v.0, cut v.1))
counted_told key low high h {g = g} z =
    chain_told (λ n. refl) (λ n. refl) (λ n line p. ap g (min-eq_left (omega (arith, (ranged_within low high n line p).1)))) (ranged_told key low high h) z

-- ---- cards
module _ {A : Type 0} {f : Form A} {cut : A → A} (w : Told f cut) where
  pub alone_told : (a : A) → alone f (f.text (cut a)) ≡ found_if (f.check a 1) (f.clean a) (length (f.text (cut a)))
  alone_told a =
      let t = f.text (cut a) in
      rw (w.told a t [] 0 1 (sym (append-nil t)), zero-add (length t)) (go (f.check a 1))
    where
      go : (c : Checked) → ended f (f.text (cut a)) (found_if c (f.clean a) (length (f.text (cut a)))) ≡ found_if c (f.clean a) (length (f.text (cut a)))
      go Passed = let n = length (f.text (cut a)) in rw (le-leb n n (le_refl n)) refl
      go (Err r) = refl

  -- a value that passes has no number too long to write
  pub told_text_lem : Inverse f → Settled f → (a : A) (line : ℕ) → f.check a line ≡ Passed → f.text (cut a) ≡ f.text a
  told_text_lem i settled a line p =
      let t = f.text (cut a) in
      let e : f.read t 0 line ≡ found (f.clean a) (0 + length t) = w.told a t [] 0 line (sym (append-nil t)) ∙ rw p refl in
      let none : drop (0 + length t) t ≡ [] = drop_of_length-le t {i = 0 + length t} (omega arith) in
      (i.written_read (f.clean a) t 0 (0 + length t) line e).bytes
      ∙ rw (none, append-nil (f.text (f.clean a))) (settled.same_text a)
