-- Ascending lists are determined by what they hold: items by the tokens that they count, and numbers by which of them are listed.
use Prim.Native.Nat.{ℕ, zero, suc, ◌+◌, ◌≤◌, ◌<◌, suc-le-suc}
use native.Mathlib.Nat.{zero-add, le_refl, not-suc-le-zero, le_of_suc-le-suc, le-suc_iff}
use native.Mathlib.Omega.{arith}
use mathlib.Core.Path.{◌≡◌, refl, sym, ap, ap₂, subst, subst₂, ◌∙◌}
use mathlib.Core.Bool.{Bool, true, false, cond, ◌&&◌, and-true, and-false}
use mathlib.Core.Logic.{◌⊎◌, inl, inr, ⊎_elim}
use mathlib.Core.List.{List, [], ◌∷◌}
use lib.Dec.{eqb}
use lib.ListN.{length, get_or}
use borrow.Author.Tests.{eqb-true, eqb-false, eq-eqb, ne_eqb}
use Rattle.laws.specs.Each.{Each, each_map}
use Rattle.laws.specs.Sums.{sum, sum_le, sum_zero}
use Rattle.causal.specs.Process.{Item}
use Rattle.causal.specs.Claims.{tokens_of, produced_by, Before, Ascending, Listed}

-- ---- items and their counts
module _ (i p : ℕ) where
  -- tokens of place p that producer i gave
  abbrev pub Of : Item → Type 0
  Of x = (x.place ≡ p) × (x.producer ≡ i)

  -- such an item counts, and no other
  counts : (x : Item) (items : List Item)
      → (Of x × (produced_by i p (x ∷ items) ≡ x.count + produced_by i p items)) ⊎ ((Of x → ⊥) × (produced_by i p (x ∷ items) ≡ produced_by i p items))
  unfolding produced_by
  counts x items = go (eqb x.place p) (eqb x.producer i) refl refl
    where
      go : (a b : Bool) → eqb x.place p ≡ a → eqb x.producer i ≡ b
          → (Of x × (cond (a && b) x.count 0 + produced_by i p items ≡ x.count + produced_by i p items))
          ⊎ ((Of x → ⊥) × (cond (a && b) x.count 0 + produced_by i p items ≡ produced_by i p items))
      go true true e f = inl ((eqb-true x.place p e, eqb-true x.producer i f), refl)
      go true false e f = inr (λ h. eqb-false x.producer i f h.1, omega arith)
      go false b e f = inr (λ h. eqb-false x.place p e h.0, omega arith)

  none_counts : (items : List Item) → Each (λ x. Of x → ⊥) items → produced_by i p items ≡ 0
  unfolding produced_by
  none_counts [] h = refl
  none_counts (x ∷ items) h = ⊎_elim (λ c. absurd (h.0 c.0)) (λ c. c.1 ∙ none_counts items h.1) (counts x items)

  -- where some are counted, some item counts them
  pub counted_item : (P : Item → Type 0) (items : List Item) → Each P items → 0 < produced_by i p items → (x : Item) × Of x × P x
  unfolding produced_by
  counted_item P [] h l = absurd (not-suc-le-zero l)
  counted_item P (x ∷ items) h l =
      ⊎_elim (λ c. (x, c.0, h.0)) (λ c. counted_item P items h.1 (omega (arith, c.1))) (counts x items)

-- ---- the tokens of a place are those of its producers, all together
-- a sum of which one term is more by c
sum_more : (f g : ℕ → ℕ) (u c : ℕ) → g u ≡ c + f u → ((i : ℕ) → (i ≡ u → ⊥) → g i ≡ f i) → (n : ℕ) → u ≤ n → sum g n ≡ c + sum f n
sum_more f g u c more same zero l = let e : u ≡ 0 = omega arith in subst (λ (k : ℕ). g k ≡ c + f k) e more
sum_more f g u c more same (suc n) l =
    ⊎_elim
    (λ b. omega (arith, sum_more f g u c more same n b, same (suc n) (λ e. omega arith)))
    (λ e. omega (
      arith,
      subst (λ (k : ℕ). g k ≡ c + f k) e more,
      sum_le f g n (λ i b. omega (arith, same i (λ z. omega arith))),
      sum_le g f n (λ i b. omega (arith, same i (λ z. omega arith))),
    ))
    (le-suc_iff.0 l)

pub tokens_by : (p n : ℕ) (items : List Item) → Each (λ x. x.producer ≤ n) items → tokens_of p items ≡ sum (λ i. produced_by i p items) n
unfolding tokens_of produced_by
tokens_by p n [] h = sym (sum_zero (λ i. 0) (λ i. refl) n)
tokens_by p n (x ∷ items) h =
    omega (
      arith,
      tokens_by p n items h.1,
      sum_more (λ i. produced_by i p items) (λ i. produced_by i p (x ∷ items)) x.producer (cond (eqb x.place p) x.count 0)
          (rw (eq-eqb x.producer x.producer refl, and-true) refl)
          (λ i d. rw (ne_eqb x.producer i (λ e. d (sym e)), and-false) (zero-add (produced_by i p items))) n h.0,
    )

-- ---- ascending items with the same counts
first_before : {x : Item} {items : List Item} → Ascending (x ∷ items) → Each (Before x) items
first_before (Ascending.one e a) = e

rest_ascends : {x : Item} {items : List Item} → Ascending (x ∷ items) → Ascending items
rest_ascends (Ascending.one e a) = a

-- of its place and producer the first item counts all
first_count : (x : Item) (items : List Item) → Ascending (x ∷ items) → produced_by x.producer x.place (x ∷ items) ≡ x.count
first_count x items a =
    let i = x.producer in
    let p = x.place in
    let others : Each (λ y. Of i p y → ⊥) items =
    each_map {P = Before x} {Q = λ y. Of i p y → ⊥} (λ y before same. ⊎_elim (λ l. omega arith) (λ l. omega arith) before) items (first_before a) in
    ⊎_elim (λ c. omega (arith, c.1, none_counts i p items others)) (λ c. absurd (c.0 (refl, refl))) (counts i p x items)

-- and nothing is counted before it
abbrev NotAfter : Item → ℕ → ℕ → Type 0
NotAfter x p i = (x.place < p) ⊎ ((x.place ≡ p) × (x.producer ≤ i))

first_least : (x : Item) (items : List Item) → Ascending (x ∷ items) → (i p : ℕ) → 0 < produced_by i p (x ∷ items) → NotAfter x p i
first_least x items a i p l =
    let P : Item → Type 0 = λ y. NotAfter x y.place y.producer in
    let later : Each P items = each_map {P = Before x} {Q = P} (λ y. ⊎_elim inl (λ c. inr (c.0, omega arith))) items (first_before a) in
    let found = counted_item i p P (x ∷ items) (inr (refl, le_refl x.producer), later) l in
    subst₂ (NotAfter x) found.1.0 found.1.1 found.2

same_place : (x y : Item) → NotAfter x y.place y.producer → NotAfter y x.place x.producer → Of y.producer y.place x
same_place x y (inl h) (inl k) = absurd (omega arith)
same_place x y (inl h) (inr k) = absurd (omega arith)
same_place x y (inr h) (inl k) = absurd (omega arith)
same_place x y (inr h) (inr k) = omega arith

pub items_determined : (xs ys : List Item) → Ascending xs → Ascending ys → Each (λ x. 0 < x.count) xs → Each (λ x. 0 < x.count) ys
    → ((i p : ℕ) → produced_by i p xs ≡ produced_by i p ys) → xs ≡ ys
unfolding produced_by
items_determined [] [] a b h k same = refl
items_determined [] (y ∷ ys) a b h k same = absurd (omega (arith, k.0, same y.producer y.place, first_count y ys b))
items_determined (x ∷ xs) [] a b h k same = absurd (omega (arith, h.0, same x.producer x.place, first_count x xs a))
items_determined (x ∷ xs) (y ∷ ys) a b h k same =
    let m = first_count x xs a in
    let n = first_count y ys b in
    let (p, i) = same_place x y
    (first_least x xs a y.producer y.place (omega (arith, k.0, n, same y.producer y.place)))
    (first_least y ys b x.producer x.place (omega (arith, h.0, m, same x.producer x.place))) in
    let c : x.count ≡ y.count = sym m ∙ same x.producer x.place ∙ ap₂ (λ (i p : ℕ). produced_by i p (y ∷ ys)) i p ∙ n in
    let e : x ≡ y = λ t. record { place = p t; producer = i t; count = c t } in
    ap₂ (λ (x : Item) (xs : List Item). x ∷ xs) e
    (items_determined xs ys (rest_ascends a) (rest_ascends b) h.1 k.1
    (λ i p. omega (arith, same i p, ap (λ (x : Item). produced_by i p (x ∷ ys)) e)))

-- ---- ascending numbers
abbrev pub Ascends : List ℕ → Type 0
Ascends l = (j k : ℕ) → j < k → k < length l → get_or l j 0 < get_or l k 0

-- the first is listed, and so is what is listed behind it
first_listed : (x : ℕ) (l : List ℕ) → Listed x (x ∷ l)
first_listed x l = (0, omega arith, refl)

pub later_listed : (x : ℕ) (l : List ℕ) (i : ℕ) → Listed i l → Listed i (x ∷ l)
later_listed x l i h = (suc h.0, suc-le-suc h.1, h.2)

-- and nothing else
listed_cases : (x : ℕ) (l : List ℕ) (i : ℕ) → Listed i (x ∷ l) → (x ≡ i) ⊎ Listed i l
listed_cases x l i (zero, b, e) = inl e
listed_cases x l i (suc k, b, e) = inr (k, le_of_suc-le-suc b, e)

-- in an ascending list the first is the least
first_below : (x : ℕ) (l : List ℕ) → Ascends (x ∷ l) → (i : ℕ) → Listed i l → x < i
first_below x l a i h = omega (arith, a 0 (suc h.0) (omega arith) (suc-le-suc h.1), h.2)

least_listed : (x : ℕ) (l : List ℕ) → Ascends (x ∷ l) → (i : ℕ) → Listed i (x ∷ l) → x ≤ i
least_listed x l a i h = ⊎_elim (λ e. omega arith) (λ b. omega (arith, first_below x l a i b)) (listed_cases x l i h)

rest_listed : (x y : ℕ) (l m : List ℕ) → x ≡ y → Ascends (x ∷ l) → ((i : ℕ) → Listed i (x ∷ l) → Listed i (y ∷ m)) → (i : ℕ) → Listed i l → Listed i m
rest_listed x y l m e a f i h =
    ⊎_elim (λ z. absurd (omega (arith, first_below x l a i h))) (λ b. b) (listed_cases y m i (f i (later_listed x l i h)))

rest_ascending : (x : ℕ) (l : List ℕ) → Ascends (x ∷ l) → Ascends l
rest_ascending x l a j k h b = a (suc j) (suc k) (suc-le-suc h) (suc-le-suc b)

pub numbers_determined : (l m : List ℕ) → Ascends l → Ascends m → ((i : ℕ) → Listed i l → Listed i m) → ((i : ℕ) → Listed i m → Listed i l) → l ≡ m
numbers_determined [] [] a b f g = refl
numbers_determined [] (y ∷ m) a b f g = absurd (not-suc-le-zero (g y (first_listed y m)).1)
numbers_determined (x ∷ l) [] a b f g = absurd (not-suc-le-zero (f x (first_listed x l)).1)
numbers_determined (x ∷ l) (y ∷ m) a b f g =
    let e : x ≡ y = omega (arith, least_listed x l a y (g y (first_listed y m)), least_listed y m b x (f x (first_listed x l))) in
    ap₂ (λ (x : ℕ) (l : List ℕ). x ∷ l) e
    (numbers_determined l m (rest_ascending x l a) (rest_ascending y m b) (rest_listed x y l m e a f) (rest_listed y x m l (sym e) b g))
