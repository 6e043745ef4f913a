-- What counts alone matters: lists that agree in the slots that count are the same when clean, and values that are the same when clean have the same
-- check.
use Prim.Native.Nat.{ℕ, ◌<◌}
use mathlib.Core.Path.{◌≡◌, sym, ap, ◌∙◌}
use mathlib.Core.List.{List}
use lib.ListN.{get_or}
use Rattle.laws.specs.Slots.{pad_to, first_same, mapped_same}
use Rattle.form.specs.Form.{Form, exactly}
use Rattle.form.specs.Line.{item_list}
use Rattle.form.specs.Inverse.{Settled}

pub exactly_same : {A : Type 0} (n size : ℕ) (d : A) (f : Form A) (l m : List A) → ((i : ℕ) → i < n → f.clean (get_or l i d) ≡ f.clean (get_or m i d))
    → (exactly n size d f).clean l ≡ (exactly n size d f).clean m
exactly_same n size d f l m h = ap (pad_to size d) (mapped_same f.clean n d l m h)

pub items_same : (k size low high : ℕ) (l m : List ℕ) → ((i : ℕ) → i < k → get_or l i 0 ≡ get_or m i 0)
    → (item_list k size low high).clean l ≡ (item_list k size low high).clean m
items_same k size low high l m h =
    ap (pad_to size 0) (first_same k 0 l m h)

module _ {A : Type 0} {f : Form A} (w : Settled f) {a b : A} (e : f.clean a ≡ f.clean b) where
  pub clean_check : (line : ℕ) → f.check a line ≡ f.check b line
  clean_check line = sym (w.same_check a line) ∙ ap (λ (x : A). f.check x line) e ∙ w.same_check b line
