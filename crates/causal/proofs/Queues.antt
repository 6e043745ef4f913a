-- Queues and their items: entry by entry, the oldest tokens and those that stay make up the queue, and an entry is touched only when all before it are used up.
-- What is counted or claimed of the items of places can be told entry by entry.
use Prim.Native.Nat.{ℕ, zero, suc, ◌+◌, ◌-◌, ◌≤◌, ◌<◌, min}
use native.Mathlib.Nat.{add-zero, zero-add, add-suc, suc-add, not-suc-le-zero, le_of_suc-le-suc, eq-or-lt_of_le, lt-suc_self, eq-zero-or-pos}
use native.Mathlib.Omega.{arith}
use mathlib.Core.Path.{◌≡◌, refl, sym, ap, subst, ◌∙◌}
use mathlib.Core.Bool.{Bool, true, false, cond, ◌&&◌, and-false}
use mathlib.Core.Logic.{inl, inr, ⊎_elim}
use mathlib.Core.List.{List, [], ◌∷◌, ◌++◌}
use lib.Dec.{eqb}
use lib.ListN.{length, get_or, get_or-eq_default}
use borrow.Author.Tests.{eqb-true, eqb-false, eq-eqb, ne_eqb}
use Rattle.laws.specs.Each.{Each}
use Rattle.laws.specs.Sums.{le_or_lt}
use Rattle.causal.specs.Process.{Queues, Item, oldest, without, items_from, items_of}
use Rattle.causal.specs.Claims.{tokens_of, produced_by, Before, Ascending}

-- ---- one queue
-- its tokens
abbrev pub total : List ℕ → ℕ
total [] = 0
total (c ∷ queue) = c + total queue

pub total_append : (xs ys : List ℕ) → total (xs ++ ys) ≡ total xs + total ys
total_append [] ys = omega arith
total_append (x ∷ xs) ys = omega (arith, total_append xs ys)

pub entry_total : (queue : List ℕ) (i : ℕ) → get_or queue i 0 ≤ total queue
entry_total [] i = omega arith
entry_total (c ∷ queue) zero = omega arith
entry_total (c ∷ queue) (suc i) = omega (arith, entry_total queue i)

pub entry_inside : (queue : List ℕ) (i : ℕ) → 0 < get_or queue i 0 → i < length queue
entry_inside queue i h = ⊎_elim (λ b. absurd (omega (arith, get_or-eq_default queue 0 b))) (λ b. b) (le_or_lt (length queue) i)

pub length_oldest : (n : ℕ) (queue : List ℕ) → length (oldest n queue) ≡ length queue
unfolding oldest
length_oldest n [] = refl
length_oldest n (c ∷ queue) = ap suc (length_oldest (n - c) queue)

pub length_without : (n : ℕ) (queue : List ℕ) → length (without n queue) ≡ length queue
unfolding without
length_without n [] = refl
length_without n (c ∷ queue) = ap suc (length_without (n - c) queue)

pub total_oldest : (n : ℕ) (queue : List ℕ) → total (oldest n queue) ≡ min n (total queue)
unfolding oldest
total_oldest n [] = omega arith
total_oldest n (c ∷ queue) = omega (arith, total_oldest (n - c) queue)

pub total_without : (n : ℕ) (queue : List ℕ) → total (without n queue) ≡ total queue - n
unfolding without
total_without n [] = omega arith
total_without n (c ∷ queue) = omega (arith, total_without (n - c) queue)

-- who asks for as many as there are gets them all
pub oldest_all : (n : ℕ) (queue : List ℕ) → total queue ≤ n → oldest n queue ≡ queue
unfolding oldest
oldest_all n [] h = refl
oldest_all n (c ∷ queue) h =
    let here : min n c ≡ c = omega arith in
    rw (here, oldest_all (n - c) queue (omega arith)) refl

pub cut_entry : (n : ℕ) (queue : List ℕ) (i : ℕ) → get_or (oldest n queue) i 0 + get_or (without n queue) i 0 ≡ get_or queue i 0
unfolding oldest without
cut_entry n [] i = refl
cut_entry n (c ∷ queue) zero = omega arith
cut_entry n (c ∷ queue) (suc i) = cut_entry (n - c) queue i

-- where some tokens of an entry are among the oldest, none of an earlier entry stays
pub none_before : (n : ℕ) (queue : List ℕ) (i j : ℕ) → 0 < get_or (oldest n queue) i 0 → j < i → get_or (without n queue) j 0 ≡ 0
unfolding oldest without
none_before n [] i j h l = refl
none_before n (c ∷ queue) zero j h l = absurd (not-suc-le-zero l)
none_before n (c ∷ queue) (suc i) zero h l = omega (arith, entry_total (oldest (n - c) queue) i, total_oldest (n - c) queue)
none_before n (c ∷ queue) (suc i) (suc j) h l = none_before (n - c) queue i j h (le_of_suc-le-suc l)

-- ---- a fact of every item
abbrev pub item : ℕ → ℕ → ℕ → Item
item p i c = record { place = p; producer = i; count = c }

module _ (P : Item → Type 0) where
  each_append : (xs ys : List Item) → Each P xs → Each P ys → Each P (xs ++ ys)
  each_append [] ys p q = q
  each_append (x ∷ xs) ys p q = (p.0, each_append xs ys p.1 q)

  pub each_from : (p k : ℕ) (queue : List ℕ) → ((i : ℕ) → 0 < get_or queue i 0 → P (item p (k + i) (get_or queue i 0))) → Each P (items_from p k queue)
  unfolding items_from
  each_from p k [] h = tt
  each_from p k (c ∷ queue) h =
      go (eqb c 0) refl (each_from p (suc k) queue (λ i b. subst (λ (j : ℕ). P (item p j (get_or queue i 0))) (add-suc k i ∙ sym (suc-add k i)) (h (suc i) b)))
    where
      go : (b : Bool) → eqb c 0 ≡ b → Each P (items_from p (suc k) queue) → Each P (cond b (items_from p (suc k) queue) (item p k c ∷ items_from p (suc k) queue))
      go true e more = more
      go false e more = (
        subst (λ (j : ℕ). P (item p j c)) (add-zero k) (h 0 (⊎_elim (λ z. absurd (eqb-false c 0 e z)) (λ b. b) (eq-zero-or-pos c))),
        more,
      )

  pub each_items : (tokens : Queues) (n : ℕ) → ((p i : ℕ) → p < n → 0 < get_or (tokens p) i 0 → P (item p i (get_or (tokens p) i 0))) → Each P (items_of tokens n)
  unfolding items_of
  each_items tokens zero h = tt
  each_items tokens (suc n) h =
      each_append (items_of tokens n) (items_from n 0 (tokens n)) (each_items tokens n (λ p i l. h p i (omega arith)))
      (each_from n 0 (tokens n) (λ i b. subst (λ (j : ℕ). P (item n j (get_or (tokens n) i 0))) (sym (zero-add i)) (h n i (lt-suc_self n) b)))

-- ---- places ascend, and producers within a place
ascends_append : (xs ys : List Item) → Ascending xs → Ascending ys → Each (λ x. Each (Before x) ys) xs → Ascending (xs ++ ys)
ascends_append xs ys Ascending.none b h = b
ascends_append xs ys (Ascending.one {x = x} {items = items} e a) b h =
    Ascending.one (each_append (Before x) items ys e h.0) (ascends_append items ys a b h.1)

ascends_from : (p k : ℕ) (queue : List ℕ) → Ascending (items_from p k queue)
unfolding items_from
ascends_from p k [] = Ascending.none
ascends_from p k (c ∷ queue) = go (eqb c 0) (ascends_from p (suc k) queue)
  where
    go : (b : Bool) → Ascending (items_from p (suc k) queue) → Ascending (cond b (items_from p (suc k) queue) (item p k c ∷ items_from p (suc k) queue))
    go true more = more
    go false more = Ascending.one (each_from (Before (item p k c)) p (suc k) queue (λ i b. inr (refl, omega arith))) more

pub ascends : (tokens : Queues) (n : ℕ) → Ascending (items_of tokens n)
unfolding items_of
ascends tokens zero = Ascending.none
ascends tokens (suc n) =
    ascends_append (items_of tokens n) (items_from n 0 (tokens n)) (ascends tokens n) (ascends_from n 0 (tokens n))
    (each_items (λ x. Each (Before x) (items_from n 0 (tokens n))) tokens n
    (λ p i l b. each_from (Before (item p i (get_or (tokens p) i 0))) n 0 (tokens n) (λ j c. inl l)))

-- ---- counts
-- the tokens of the items that a test selects
unfoldable counted : (Item → Bool) → List Item → ℕ
counted test [] = 0
counted test (x ∷ items) = cond (test x) x.count 0 + counted test items

module _ (test : Item → Bool) where
  counted_append : (xs ys : List Item) → counted test (xs ++ ys) ≡ counted test xs + counted test ys
  unfolding counted
  counted_append [] ys = omega arith
  counted_append (x ∷ xs) ys = omega (arith, counted_append xs ys)

  counted_none : (items : List Item) → Each (λ x. test x ≡ false) items → counted test items ≡ 0
  unfolding counted
  counted_none [] h = refl
  counted_none (x ∷ items) h = rw h.0 (omega (arith, counted_none items h.1))

  -- a test that selects items of place p alone
  module _ (p : ℕ) (only : (x : Item) → (x.place ≡ p → ⊥) → test x ≡ false) (tokens : Queues) where
    counted_past : (n : ℕ) → n ≤ p → counted test (items_of tokens n) ≡ 0
    counted_past n h =
        counted_none (items_of tokens n)
        (each_items (λ x. test x ≡ false) tokens n (λ r i l b. only (item r i (get_or (tokens r) i 0)) (λ e. omega arith)))

    counted_place : (n : ℕ) → p < n → counted test (items_of tokens n) ≡ counted test (items_from p 0 (tokens p))
    unfolding items_of
    counted_place zero l = absurd (not-suc-le-zero l)
    counted_place (suc n) l =
        counted_append (items_of tokens n) (items_from n 0 (tokens n)) ∙ ⊎_elim here (λ b. before b (counted_place n b)) (eq-or-lt_of_le (le_of_suc-le-suc l))
      where
        here : p ≡ n → counted test (items_of tokens n) + counted test (items_from n 0 (tokens n)) ≡ counted test (items_from p 0 (tokens p))
        here e = rw (← e, counted_past p (omega arith)) (zero-add (counted test (items_from p 0 (tokens p))))

        before : p < n → counted test (items_of tokens n) ≡ counted test (items_from p 0 (tokens p))
            → counted test (items_of tokens n) + counted test (items_from n 0 (tokens n)) ≡ counted test (items_from p 0 (tokens p))
        before b e =
            let others = each_from (λ x. test x ≡ false) n 0 (tokens n) (λ i c. only (item n (0 + i) (get_or (tokens n) i 0)) (λ z. omega arith)) in
            omega (arith, counted_none (items_from n 0 (tokens n)) others)

-- the tokens of a place are those of its queue
tokens_counted : (p : ℕ) (items : List Item) → tokens_of p items ≡ counted (λ x. eqb x.place p) items
unfolding counted tokens_of
tokens_counted p [] = refl
tokens_counted p (x ∷ items) = rw (tokens_counted p items) refl

tokens_from : (p k : ℕ) (queue : List ℕ) → counted (λ x. eqb x.place p) (items_from p k queue) ≡ total queue
unfolding counted items_from
tokens_from p k [] = refl
tokens_from p k (c ∷ queue) = go (eqb c 0) refl (tokens_from p (suc k) queue)
  where
    go : (b : Bool) → eqb c 0 ≡ b → counted (λ x. eqb x.place p) (items_from p (suc k) queue) ≡ total queue
        → counted (λ x. eqb x.place p) (cond b (items_from p (suc k) queue) (item p k c ∷ items_from p (suc k) queue)) ≡ c + total queue
    go true e h = omega (arith, eqb-true c 0 e)
    go false e h = rw (eq-eqb p p refl) (omega arith)

pub tokens_items : (tokens : Queues) (n p : ℕ) → p < n → tokens_of p (items_of tokens n) ≡ total (tokens p)
tokens_items tokens n p l =
    tokens_counted p (items_of tokens n) ∙ counted_place (λ x. eqb x.place p) p (λ x d. ne_eqb x.place p d) tokens n l ∙ tokens_from p 0 (tokens p)

-- those of producer i are its entry i
module _ (i p : ℕ) where
  abbrev given : Item → Bool
  given x = eqb x.place p && eqb x.producer i

  produced_counted : (items : List Item) → produced_by i p items ≡ counted given items
  unfolding counted produced_by
  produced_counted [] = refl
  produced_counted (x ∷ items) = rw (produced_counted items) refl

  none_from : (k : ℕ) (queue : List ℕ) → i < k → counted given (items_from p k queue) ≡ 0
  none_from k queue l =
      counted_none given (items_from p k queue)
      (each_from (λ x. given x ≡ false) p k queue (λ j b. ap (λ (t : Bool). eqb p p && t) (ne_eqb (k + j) i (λ e. omega arith)) ∙ and-false (eqb p p)))

  produced_from : (k j : ℕ) (queue : List ℕ) → k + j ≡ i → counted given (items_from p k queue) ≡ get_or queue j 0
  unfolding counted items_from
  produced_from k j [] e = refl
  produced_from k zero (c ∷ queue) e = go (eqb c 0) refl (none_from (suc k) queue (omega arith))
    where
      go : (b : Bool) → eqb c 0 ≡ b → counted given (items_from p (suc k) queue) ≡ 0
          → counted given (cond b (items_from p (suc k) queue) (item p k c ∷ items_from p (suc k) queue)) ≡ c
      go true z h = omega (arith, eqb-true c 0 z)
      go false z h = rw (eq-eqb p p refl, eq-eqb k i (omega arith)) (omega arith)
  produced_from k (suc j) (c ∷ queue) e = go (eqb c 0) (produced_from (suc k) j queue (suc-add k j ∙ sym (add-suc k j) ∙ e))
    where
      go : (b : Bool) → counted given (items_from p (suc k) queue) ≡ get_or queue j 0
          → counted given (cond b (items_from p (suc k) queue) (item p k c ∷ items_from p (suc k) queue)) ≡ get_or queue j 0
      go true h = h
      go false h = rw (ne_eqb k i (λ z. omega arith), and-false) (omega arith)

  pub produced_items : (tokens : Queues) (n : ℕ) → p < n → produced_by i p (items_of tokens n) ≡ get_or (tokens p) i 0
  produced_items tokens n l =
      produced_counted (items_of tokens n) ∙ counted_place given p (λ x d. ap (λ (t : Bool). t && eqb x.producer i) (ne_eqb x.place p d)) tokens n l
      ∙ produced_from 0 i (tokens p) (zero-add i)
