-- The text of a run card and of an order card is the same whatever net it is of: the sheet and the number of transitions decide only what is refused.
use Prim.Native.Nat.{ℕ, min}
use mathlib.Core.List.{List, [], ◌∷◌}
use mathlib.Core.Path.{◌≡◌, refl}
use Rattle.laws.specs.Slots.{first_of}
use Rattle.form.specs.Form.{Form, texts}
use Rattle.run.specs.declared.Run.{Run}
use Rattle.run.specs.declared.Order.{Order}
use Rattle.run.specs.Run.{fire, firing, no_firing, run_card, order_card}

-- two forms that write each value alike write a list of them alike
texts_same : {A : Type 0} (f g : Form A) → ((a : A) → f.text a ≡ g.text a) → (l : List A) → texts f l ≡ texts g l
unfolding texts
texts_same f g h [] = refl
texts_same f g h (a ∷ l) = rw (h a, texts_same f g h l) refl

pub run_text_lem : (s a t b : ℕ) (r : Run) → (run_card s a).text r ≡ (run_card t b).text r
run_text_lem s a t b r = rw (texts_same (firing a) (firing b) (λ f. refl) (first_of (min r.count 64) no_firing r.firings)) refl

pub order_text_lem : (s a t b : ℕ) (o : Order) → (order_card s a).text o ≡ (order_card t b).text o
order_text_lem s a t b o = rw (texts_same (fire a) (fire b) (λ n. refl) (first_of (min o.count 64) 0 o.fires)) refl
