-- A loop over n parts in an array: what the whole comes to is what is left comes to, with what was read, checked or written so far.
use Rattle.reply.specs.Respond.{Passed}
use Rattle.std.specs.Prelude.{Err}
use Prim.Native.Nat.{ℕ, suc, ◌+◌, ◌-◌, ◌≤◌, ◌<◌, zero-le}
use native.Mathlib.Nat.{sub-zero}
use native.Mathlib.Numerals.{add-one}
use native.Mathlib.Omega.{arith}
use mathlib.Core.Path.{◌≡◌, refl, sym, ap, ◌∙◌}
use mathlib.Core.List.{List, [], ◌∷◌, ◌++◌, append-nil}
use lib.ListN.{length, get_or, take, drop, set, replicate, length-replicate, length-set, take-append-drop, drop_of_length-le}
use lib.Seq.{append_snoc, take-suc-set, drop-set-lt, drop-drop, length-take-le}
use Rattle.laws.specs.Writing.{joined, joined_whole}
use Rattle.laws.specs.Slots.{first_next, first_of, pad_to, length_first}
use Rattle.reply.specs.declared.Refusal.{Refusal}
use Rattle.form.specs.Form.{found, refused, and_then, also, Form, texts, checks, reads, exactly}
use Rattle.form.proofs.Found.{then_same, then_nothing, then_then}

-- of n parts that stand from `at` on, i are read into l, and the next one stands at `to`, in line q
pub record Reading {A : Type 0} (f : Form A) (n size : ℕ) (d : A) (s : List ℕ) (at line : ℕ) (l : List A) (i to q : ℕ) : Type 0 where
  pub room : n ≤ size
  pub within : i ≤ n
  pub whole : length l ≡ size
  pub filled : drop i l ≡ replicate (size - i) d
  pub rest : reads f n s at line ≡ and_then (reads f (n - i) s to q) (λ m end. found (take i l ++ m) end)

pub reading_start : {A : Type 0} (f : Form A) (n size : ℕ) (d : A) (s : List ℕ) (at line : ℕ) → n ≤ size
    → Reading f n size d s at line (replicate size d) 0 at line
reading_start f n size d s at line h =
    record {
      room = h;
      within = zero-le;
      whole = length-replicate size d;
      filled = rw (sub-zero size) refl;
      rest = rw (sub-zero n) (sym (then_nothing (reads f n s at line)));
    }

module _ {A : Type 0} {f : Form A} {n size : ℕ} {d : A} {s : List ℕ} {at line : ℕ} {l : List A} {i to q : ℕ} (w : Reading f n size d s at line l i to q) where
  -- the slots behind the one that is filled next
  slots_left : (a : A) → i < n → drop (i + 1) (set l i a) ≡ replicate (size - (i + 1)) d
  slots_left a h =
      let e : size - i ≡ suc (size - (i + 1)) = omega (arith, w.room) in
      drop-set-lt (i + 1) l i a (omega arith)
      ∙ sym (drop-drop 1 i l)
      ∙ ap (λ (m : List A). drop 1 m) (w.filled ∙ ap (λ (k : ℕ). replicate k d) e)

  -- what is left to read, where the next part is looked at first
  rest_next : i < n → reads f n s at line ≡ and_then (f.read s to q)
      (λ a next. and_then (reads f (n - (i + 1)) s next (q + f.lines a)) (λ m end. found (take i l ++ a ∷ m) end))
  unfolding reads
  rest_next h =
      let e : n - i ≡ suc (n - (i + 1)) = omega arith in
      w.rest ∙ rw e (then_then (f.read s to q) _ _ ∙ then_same (f.read s to q) _ _
      (λ a next z. then_then (reads f (n - (i + 1)) s next (q + f.lines a)) _ _))

  pub reading_more : i < n → {a : A} {next : ℕ} → f.read s to q ≡ found a next → Reading f n size d s at line (set l i a) (i + 1) next (q + f.lines a)
  reading_more h {a} {next} e =
      let t : take (i + 1) (set l i a) ≡ take i l ++ (a ∷ []) = rw add-one (take-suc-set l i a (omega (arith, w.room, w.whole))) in
      record {
        room = w.room;
        within = omega arith;
        whole = length-set l i a ∙ w.whole;
        filled = slots_left a h;
        rest = rest_next h ∙ rw e (then_same (reads f (n - (i + 1)) s next (q + f.lines a)) _ _
            (λ m end z. ap (λ (x : List A). found x end) (sym (ap (λ (x : List A). x ++ m) t ∙ append_snoc (take i l) a m))));
      }

  pub reading_refused : i < n → {r : Refusal} → f.read s to q ≡ refused r → (exactly n size d f).read s at line ≡ refused r
  reading_refused h e = rw (rest_next h, e) refl

  pub reading_done : n ≤ i → (exactly n size d f).read s at line ≡ found l to
  unfolding reads
  reading_done h =
      let z : n - i ≡ 0 = omega arith in
      let t = length-take-le i l (omega (arith, w.room, w.within, w.whole)) in
      let p : pad_to size d (take i l ++ []) ≡ l = rw (append-nil (take i l), t, ← w.filled) (take-append-drop i l) in
      rw (w.rest, z, p) refl

-- of the n parts of l that count, i are checked, and the next one stands in line q
pub record Checking {A : Type 0} (f : Form A) (n : ℕ) (d : A) (l : List A) (line i q : ℕ) : Type 0 where
  pub within : i ≤ n
  pub rest : checks f (first_of n d l) line ≡ checks f (drop i (first_of n d l)) q

pub checking_start : {A : Type 0} (f : Form A) (n : ℕ) (d : A) (l : List A) (line : ℕ) → Checking f n d l line 0 line
checking_start f n d l line = record { within = zero-le; rest = refl }

module _ {A : Type 0} {f : Form A} {n : ℕ} {d : A} {l : List A} {line i q : ℕ} (w : Checking f n d l line i q) where
  check_next : i < n → checks f (first_of n d l) line ≡ also (f.check (get_or l i d) q) (checks f (drop (i + 1) (first_of n d l)) (q + f.lines (get_or l i d)))
  unfolding checks
  check_next h = w.rest ∙ ap (λ (m : List A). checks f m q) (first_next n d l i h)

  pub checking_more : i < n → f.check (get_or l i d) q ≡ Passed → Checking f n d l line (i + 1) (q + f.lines (get_or l i d))
  checking_more h e = record { within = omega arith; rest = check_next h ∙ rw e refl }

  pub checking_refused : i < n → {r : Refusal} → f.check (get_or l i d) q ≡ Err r → checks f (first_of n d l) line ≡ Err r
  checking_refused h e = check_next h ∙ rw e refl

  pub checking_done : n ≤ i → checks f (first_of n d l) line ≡ Passed
  unfolding checks
  checking_done h = w.rest ∙ ap (λ (m : List A). checks f m q) (drop_of_length-le (first_of n d l) {i = i} (omega (arith, length_first n d l)))

-- the texts of the n parts that count, told by the index that a loop counts
pub texts_joined : {A : Type 0} (f : Form A) (n : ℕ) (d : A) (l : List A) → texts f (first_of n d l) ≡ joined (λ i. f.text (get_or l i d)) n
unfolding texts
texts_joined f n d l =
    joined_whole (λ i. f.text (get_or l i d)) (λ i. texts f (drop i (first_of n d l))) n (λ i h. rw (first_next n d l i h) refl)
    (ap (texts f) (drop_of_length-le (first_of n d l) {i = n} (omega (arith, length_first n d l))))
