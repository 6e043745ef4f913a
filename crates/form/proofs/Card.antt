-- A card is a form read from the front of an input, and its first line is line 1. What is written is read back, what was read and is written
-- again gives the same bytes, and a value passes the check exactly when its text is read as that value.
use Rattle.reply.specs.Respond.{Passed}
use Prim.Native.Nat.{ℕ, ◌+◌, ◌≤◌, ◌<◌}
use native.Mathlib.Nat.{zero-add, le_refl}
use native.Mathlib.Omega.{arith}
use mathlib.Core.Path.{◌≡◌, refl, sym, ap, ◌∙◌}
use mathlib.Core.Bool.{Bool, true, false, cond}
use mathlib.Core.Logic.{◌↔◌}
use mathlib.Core.List.{List, [], ◌++◌, append-nil}
use lib.ListN.{length, take, length-take, drop_of_length-le}
use lib.Seq.{take_all}
use lib.Dec.{leb}
use borrow.Author.Tests.{leb-true, leb-false, le-leb, lt-leb}
use Rattle.reply.specs.declared.Refusal.{Refusal}
use Rattle.form.specs.Form.{found, refused, Form, alone}
use Rattle.form.specs.Inverse.{Inverse, Settled, Reaches}
use Rattle.form.proofs.Found.{not_both, found_place, then_found, then_same}

module _ {A : Type 0} {f : Form A} (i : Inverse f) where
  -- what was written is read back, up to the slots past the counts, and reading stops at the rest
  pub read_back : (a : A) (rest : List ℕ) → f.check a 1 ≡ Passed → f.read (f.text a ++ rest) 0 1 ≡ found (f.clean a) (length (f.text a))
  read_back a rest p = i.read_written a (f.text a ++ rest) rest 0 1 p refl ∙ ap (found (f.clean a)) (zero-add (length (f.text a)))

  -- the check lets pass exactly the values that are read back
  pub passes_exactly : Settled f → (a : A) (rest : List ℕ) → (f.check a 1 ≡ Passed)
      ↔ (f.read (f.text a ++ rest) 0 1 ≡ found (f.clean a) (length (f.text a)))
  passes_exactly w a rest =
      (read_back a rest, λ e. sym (w.same_check a 1) ∙ (i.written_read (f.clean a) (f.text a ++ rest) 0 (length (f.text a)) 1 e).passed)

  -- no text is longer than what a reading looks at
  pub text_short_at : {reach : ℕ} → Reaches f reach → (a : A) (line : ℕ) → f.check a line ≡ Passed → length (f.text a) ≤ reach
  text_short_at w a line p =
      let e = i.read_written a (f.text a) [] 0 line p (sym (append-nil (f.text a))) in
      omega (arith, w.near (f.clean a) (f.text a) 0 (0 + length (f.text a)) line e)

  pub text_short : {reach : ℕ} → Reaches f reach → (a : A) → f.check a 1 ≡ Passed → length (f.text a) ≤ reach
  text_short w a p = text_short_at w a 1 p

-- a card behind which nothing follows: it is read as it is, and it ends where the input ends
pub alone_found : {A : Type 0} (f : Form A) (s : List ℕ) {a : A} {next : ℕ} → alone f s ≡ found a next → (f.read s 0 1 ≡ found a next) × (length s ≤ next)
alone_found {A} f s {a} {next} e = let u = then_found (f.read s 0 1) _ e in go u.value u.place u.first _ (leb (length s) u.place) refl u.then
  where
    go : (b : A) (place : ℕ) → f.read s 0 1 ≡ found b place → (r : Refusal) (t : Bool) → leb (length s) place ≡ t
        → cond t (found b place) (refused r) ≡ found a next
        → (f.read s 0 1 ≡ found a next) × (length s ≤ next)
    go b place q r true l e' = (q ∙ e', omega (arith, leb-true (length s) place l, found_place e'))
    go b place q r false l e' = absurd (not_both e')

-- a whole input that was read as a card
pub record WholeRead {A : Type 0} (f : Form A) (a : A) (s : List ℕ) (next : ℕ) : Type 0 where
  pub bytes : s ≡ f.text a
  pub end : next ≡ length s
  pub passed : f.check a 1 ≡ Passed
  pub cleaned : f.clean a ≡ a

module _ {A : Type 0} {f : Form A} (i : Inverse f) where
  pub alone_read_back : (a : A) → f.check a 1 ≡ Passed → alone f (f.text a) ≡ found (f.clean a) (length (f.text a))
  alone_read_back a p =
      let t = f.text a in
      let e : f.read t 0 1 ≡ found (f.clean a) (length t) = ap (λ (s : List ℕ). f.read s 0 1) (sym (append-nil t)) ∙ read_back i a [] p in
      rw (e, le-leb (length t) (length t) (le_refl (length t))) refl

  pub alone_written_again : {a : A} {next : ℕ} (s : List ℕ) → alone f s ≡ found a next → WholeRead f a s next
  alone_written_again {a} {next} s e =
      let h = alone_found f s e in
      let w = i.written_read a s 0 next 1 h.0 in
      let bytes : s ≡ f.text a = w.bytes ∙ ap (λ (l : List ℕ). f.text a ++ l) (drop_of_length-le s {i = next} h.1) ∙ append-nil (f.text a) in
      record { bytes = bytes; end = omega (arith, w.end, ap length bytes); passed = w.passed; cleaned = w.cleaned }

  pub alone_passes_exactly : Settled f → (a : A) → (f.check a 1 ≡ Passed) ↔ (alone f (f.text a) ≡ found (f.clean a) (length (f.text a)))
  alone_passes_exactly w a = (alone_read_back a, λ e. sym (w.same_check a 1) ∙ (alone_written_again (f.text a) e).passed)

-- bytes behind the reach do not matter, but that there are any
end_same : (s : List ℕ) (k next : ℕ) → next < k → leb (length (take k s)) next ≡ leb (length s) next
end_same s k next h = go (leb (length s) next) refl
  where
    go : (t : Bool) → leb (length s) next ≡ t → leb (length (take k s)) next ≡ leb (length s) next
    go true e = ap (λ (l : List ℕ). leb (length l) next) (take_all k s (omega (arith, leb-true (length s) next e)))
    go false e = lt-leb (length (take k s)) next (omega (arith, length-take k s, leb-false (length s) next e)) ∙ sym e

pub alone_prefix : {A : Type 0} {f : Form A} {reach : ℕ} → Reaches f reach → (s : List ℕ) (k : ℕ) → reach < k → alone f (take k s) ≡ alone f s
alone_prefix {f = f} w s k h =
    rw (w.prefix s k 0 1 (omega arith))
    (then_same (f.read s 0 1) _ _ (λ a next e.
    rw (end_same s k next (omega (arith, w.near a s 0 next 1 e))) refl))
