-- A loop over the parts of a card, of which each has k lines: they are read into the front of an array of 64 slots, checked, or written one after another.
use Rattle.reply.specs.Respond.{Passed}
use Rattle.std.specs.Prelude.{Err}
use Prim.Native.Nat.{ℕ, suc, ◌+◌, ◌*◌, ◌≤◌, ◌<◌, zero-le}
use native.Mathlib.Nat.{min-eq_left, mul-suc}
use native.Mathlib.Numerals.{add-one}
use native.Mathlib.Omega.{arith}
use mathlib.Core.Path.{◌≡◌, refl, sym, ap, ◌∙◌}
use mathlib.Core.List.{List, [], ◌∷◌, ◌++◌, append-nil, append_assoc}
use Rattle.std.proofs.Common.{length, get_or, set, take, drop, replicate, length-take-le, take-append-drop}
use Rattle.std.proofs.Math.Seq.{drop-cons}
use lib.ListN.{drop_of_length-le}
use Rattle.std.proofs.lemmas.List.{length-replicate, length-set, set-append_left, take_more, take_all}
use Rattle.reply.specs.declared.Refusal.{Refusal}
use Rattle.form.specs.Form.{found, refused, also, Form, texts, checks, times}
use Rattle.form.proofs.Loops.{Reading, reading_start, reading_more, reading_refused, reading_done}
use Rattle.text.specs.declared.Writer.{Writer}
use Rattle.text.specs.Writer.{Writes}
use Rattle.text.proofs.Writing.{writes_none, writes_then}

line_next : (line k i : ℕ) → line + k * i + k ≡ line + k * (i + 1)
line_next line k i = let e : k * (i + 1) ≡ k * i + k = rw add-one (mul-suc k i) in omega (arith, e)

-- ---- reading
-- of n parts i are read into l, which is the front of the array, and the next one stands at `to`
pub record Fronted {A : Type 0} (f : Form A) (k n : ℕ) (d : A) (s : List ℕ) (at line : ℕ) (l : List A) (i to : ℕ) : Type 0 where
  pub long : length l ≡ n
  pub all : Reading f n 64 d s at line (l ++ drop n (replicate 64 d)) i to (line + k * i)

front_slots : {A : Type 0} (n : ℕ) (d : A) → n ≤ 64 → length (take n (replicate 64 d)) ≡ n
front_slots n d few = length-take-le n (replicate 64 d) (omega (arith, length-replicate 64 d))

pub fronted_start : {A : Type 0} (f : Form A) (k n : ℕ) {d e : A} → n ≤ 64 → e ≡ d → (s : List ℕ) (at line : ℕ)
    → Fronted f k n d s at line (take n (replicate 64 e)) 0 at
fronted_start f k n {d} {e} few same s at line =
    let q : line ≡ line + k * 0 = omega arith in
    record {
      long = front_slots n e few;
      all = rw (same, ← q, take-append-drop n (replicate 64 d)) (reading_start f n 64 d s at line few);
    }

-- the loop goes through the front of an array of the filler, e in the code, and counts j lines for each part
module _ {A : Type 0} {f : Form A} {k n : ℕ} {d : A} {s : List ℕ} {at line : ℕ} {l : List A} {i to : ℕ} (w : Fronted f k n d s at line l i to)
    {e : A} (filler : e ≡ d) where
  left : i < length (take n (replicate 64 e)) → i < n
  left h = rw (front_slots n e w.all.room) at h

  pub fronted_stopped : i < length (take n (replicate 64 e)) → {j : ℕ} → j ≡ k → {r : Refusal} → f.read s to (line + j * i) ≡ refused r
      → refused r ≡ (times n 64 d f).read s at line
  fronted_stopped h same v = rw (min-eq_left w.all.room) (sym (reading_refused w.all (left h) (rw same at v)))

  pub fronted_more : ((a : A) → f.lines a ≡ k) → i < length (take n (replicate 64 e)) → {j : ℕ} → j ≡ k → {a : A} {next : ℕ}
      → f.read s to (line + j * i) ≡ found a next
      → Fronted f k n d s at line (set l i a) (i + 1) next
  fronted_more each h same {a} v =
      record {
        long = length-set l i a ∙ w.long;
        all = rw (set-append_left l (drop n (replicate 64 d)) i a (omega (arith, w.long, left h)), each a, line_next line k i) at
            (reading_more w.all (left h) (rw same at v));
      }

  pub fronted_done : length (take n (replicate 64 e)) ≤ i → found (l ++ drop n (replicate 64 e)) to ≡ (times n 64 d f).read s at line
  fronted_done h = rw (filler, min-eq_left w.all.room) (sym (reading_done w.all (rw (front_slots n e w.all.room) at h)))

-- ---- checking
-- of the parts of l, i pass
pub record Passing {A : Type 0} (f : Form A) (k : ℕ) (l : List A) (line i : ℕ) : Type 0 where
  pub within : i ≤ length l
  pub rest : checks f l line ≡ checks f (drop i l) (line + k * i)

pub passing_start : {A : Type 0} (f : Form A) (k : ℕ) (l : List A) (line : ℕ) → Passing f k l line 0
passing_start f k l line =
    let q : line ≡ line + k * 0 = omega arith in
    record { within = zero-le; rest = ap (checks f l) q }

module _ {A : Type 0} {f : Form A} {k : ℕ} {l : List A} {line i : ℕ} (w : Passing f k l line i) where
  passing_next : {a : A} → a ≡ get_or l i a → i < length l
      → checks f l line ≡ also (f.check a (line + k * i)) (checks f (drop (i + 1) l) (line + k * i + f.lines a))
  unfolding checks
  passing_next {a} is h =
      let front : drop i l ≡ a ∷ drop (i + 1) l = rw add-one (drop-cons l i a h ∙ ap (λ (b : A). b ∷ drop (suc i) l) (sym is)) in
      w.rest ∙ ap (λ (m : List A). checks f m (line + k * i)) front

  pub passing_more : ((a : A) → f.lines a ≡ k) → {a : A} → a ≡ get_or l i a → i < length l → {j : ℕ} → j ≡ k → f.check a (line + j * i) ≡ Passed
      → Passing f k l line (i + 1)
  passing_more each {a} is h same v =
      record {
        within = omega arith;
        rest = passing_next is h ∙ rw (rw same at v, each a, line_next line k i) refl;
      }

  pub passing_refused : {a : A} → a ≡ get_or l i a → i < length l → {j : ℕ} → j ≡ k → {r : Refusal} → f.check a (line + j * i) ≡ Err r
      → Err r ≡ checks f l line
  passing_refused is h same v = sym (passing_next is h ∙ rw (rw same at v) refl)

  pub passing_done : length l ≤ i → Passed ≡ checks f l line
  unfolding checks
  passing_done h = sym (w.rest ∙ ap (λ (m : List A). checks f m (line + k * i)) (drop_of_length-le l {i = i} h))

-- ---- writing
-- the first i parts of l are written
abbrev pub Put : {A : Type 0} → Form A → List A → Writer → ℕ → Writer → Type 0
Put f l before i after = Writes before (texts f (take i l)) after

pub put_start : {A : Type 0} (f : Form A) (l : List A) (w : Writer) → Put f l w 0 w
unfolding texts
put_start f l w = writes_none w

texts_append : {A : Type 0} (f : Form A) (l m : List A) → texts f (l ++ m) ≡ texts f l ++ texts f m
unfolding texts
texts_append f [] m = refl
texts_append f (a ∷ l) m = ap (λ (t : List ℕ). f.text a ++ t) (texts_append f l m) ∙ sym (append_assoc (f.text a) (texts f l) (texts f m))

module _ {A : Type 0} (f : Form A) (l : List A) {before : Writer} {i : ℕ} {middle : Writer} (w : Put f l before i middle) where
  pub put_more : {a : A} → a ≡ get_or l i a → i < length l → {after : Writer} → Writes middle (f.text a) after → Put f l before (i + 1) after
  unfolding texts
  put_more {a} is h v =
      let one : take (i + 1) l ≡ take i l ++ (a ∷ []) = take_more l i a h ∙ ap (λ (b : A). take i l ++ (b ∷ [])) (sym is) in
      let last : texts f (a ∷ []) ≡ f.text a = append-nil (f.text a) in
      rw (one, texts_append f (take i l) (a ∷ []), last) (writes_then w v)

  pub put_done : length l ≤ i → Writes before (texts f l) middle
  put_done h = rw (take_all i l h) at w
