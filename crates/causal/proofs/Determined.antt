-- The sentences of document 01 hold of the process and determine it: two processes of one order of which they hold are the same.
use Rattle.reply.specs.Respond.{Passed}
use Prim.Native.Nat.{ℕ, zero, suc, ◌+◌, ◌≤◌, ◌<◌}
use native.Mathlib.Nat.{not-suc-le-zero, le_antisymm, eq-zero-or-pos}
use native.Mathlib.Omega.{arith}
use mathlib.Core.Path.{◌≡◌, refl, sym, ap, subst, ◌∙◌}
use mathlib.Core.Logic.{⊎_elim}
use mathlib.Core.List.{List, [], ◌∷◌}
use lib.ListN.{length, get_or, take, drop, length-drop}
use lib.Seq.{get_or-drop, ext_get_or}
use Rattle.laws.specs.Each.{Each, each_map}
use Rattle.laws.specs.Sums.{le_or_lt, sum, sum_less}
use Rattle.net.specs.declared.Net.{Net}
use Rattle.firing.specs.Semantics.{arcs_of, takes, start_marking}
use Rattle.firing.specs.Tokens.{tokens}
use Rattle.causal.specs.Process.{Item, Event, events, left}
use Rattle.causal.specs.Free.{free}
use Rattle.causal.specs.Claims.{produced_by, taken_of, given_by, no_event, Ascending, Produced, CameNoLater, IsProcess}
use Rattle.causal.proofs.Ascending.{counted_item, tokens_by, items_determined, numbers_determined}
use Rattle.causal.proofs.Tokens.{length_events, event_fires, from_sums, from_earlier, left_earlier, taken_once}
use Rattle.causal.proofs.Tokens.{oldest_first, left_last, from_ascends, left_ascends}
use Rattle.causal.proofs.Neighbours.{free_ascends, free_exactly}

-- ---- they hold of the process
module _ (net : Net) (order : List ℕ) where
  pub process_is : tokens net order (start_marking net) 0 ≡ Passed → IsProcess net order (events net order) (left net order) (free (events net order))
  process_is allowed = record {
    many = length_events net order;
    fires = event_fires net order;
    takes_all = from_sums net order allowed;
    earlier = from_earlier net order;
    left_earlier = left_earlier net order;
    taken_once = taken_once net order;
    oldest_first = oldest_first net order;
    left_last = left_last net order;
    ascends = from_ascends net order;
    left_ascends = left_ascends net order;
    free_ascends = free_ascends (events net order);
    free_exactly = free_exactly net order;
  }

-- ---- counts of firings
-- the items that a firing takes, and how many of them are tokens of place p that producer b gave
abbrev items_at : List Event → ℕ → List Item
items_at firings i = (get_or firings i no_event).from

abbrev taken : List Event → ℕ → ℕ → ℕ → ℕ
taken firings i p b = produced_by b p (items_at firings i)

module _ (p b : ℕ) where
  taken_next : (firings : List Event) (i : ℕ) → taken_of b p (take (suc i) firings) ≡ taken_of b p (take i firings) + taken firings i p b
  unfolding taken_of produced_by
  taken_next [] zero = omega arith
  taken_next [] (suc i) = omega arith
  taken_next (e ∷ firings) zero = omega arith
  taken_next (e ∷ firings) (suc i) = omega (arith, taken_next firings i)

  taken_parts : (firings : List Event) (i : ℕ) → taken_of b p firings ≡ taken_of b p (take i firings) + taken_of b p (drop i firings)
  unfolding taken_of
  taken_parts firings zero = omega arith
  taken_parts [] (suc i) = omega arith
  taken_parts (e ∷ firings) (suc i) = omega (arith, taken_parts firings i)

  -- where some are taken, some firing takes them
  taken_some : (firings : List Event) → 0 < taken_of b p firings → (k : ℕ) × (k < length firings) × (0 < taken firings k p b)
  unfolding taken_of
  taken_some [] h = absurd (not-suc-le-zero h)
  taken_some (e ∷ firings) h =
      ⊎_elim
      (λ z. let later = taken_some firings (omega arith) in (suc later.0, omega (arith, later.1), later.2))
      (λ here. (0, omega arith, here))
      (eq-zero-or-pos (produced_by b p e.from))

came_no_later : (xs ys : List Item) → Each (λ x. Each (CameNoLater x) ys) xs → (p a b : ℕ) → 0 < produced_by a p xs → 0 < produced_by b p ys → a ≤ b
came_no_later xs ys h p a b some other =
    let x = counted_item a p (λ x. Each (CameNoLater x) ys) xs h some in
    let y = counted_item b p (CameNoLater x.0) ys x.2 other in
    omega (arith, y.2 (x.1.0 ∙ sym y.1.0), x.1.1, y.1.1)

module _ (net : Net) (order : List ℕ) where
  -- only places of the net and earlier producers are counted
  counted_inside : (k : ℕ) (items : List Item) → Each (Produced net order k) items → (p b : ℕ) → 0 < produced_by b p items
      → (p < (arcs_of net).places) × (b ≤ k)
  counted_inside k items h p b some =
      let x = counted_item b p (Produced net order k) items h some in
      (omega (arith, x.2.in_net, x.1.0), omega (arith, x.2.earlier, x.1.1))

  -- so their counts determine the items
  same_items : (k : ℕ) (xs ys : List Item) → Each (Produced net order k) xs → Each (Produced net order k) ys → Ascending xs → Ascending ys
      → ((p b : ℕ) → p < (arcs_of net).places → b ≤ k → produced_by b p xs ≡ produced_by b p ys) → xs ≡ ys
  same_items k xs ys h g a c same =
      items_determined xs ys a c (each_map (λ x m. m.some) xs h) (each_map (λ x m. m.some) ys g)
      (λ b p.
      let inside : (p < (arcs_of net).places) × (b ≤ k) → produced_by b p xs ≡ produced_by b p ys = λ r. same p b r.0 r.1 in
      ⊎_elim
      (λ z. ⊎_elim (λ y. z ∙ sym y) (λ some. inside (counted_inside k ys g p b some)) (eq-zero-or-pos (produced_by b p ys)))
      (λ some. inside (counted_inside k xs h p b some))
      (eq-zero-or-pos (produced_by b p xs)))

  -- ---- whatever the sentences hold of
  record Process : Type 0 where
    firings : List Event
    remaining : List Item
    neighbours : List ℕ
    holds : IsProcess net order firings remaining neighbours

  early : (one : Process) (i p b : ℕ) → i < length order → 0 < taken one.firings i p b → b ≤ i
  early one i p b l some = (counted_inside i (items_at one.firings i) (one.holds.earlier i l) p b some).1

  taken_given : (one : Process) (i p b : ℕ) → p < (arcs_of net).places → b ≤ length order → taken_of b p (take i one.firings) ≤ given_by net order b p
  taken_given one i p b n l = omega (arith, taken_parts p b one.firings i, one.holds.taken_once b p l n)

  -- what a firing takes came no later than what it leaves
  leaves_later : (one : Process) (i p a b : ℕ) → i < length order → p < (arcs_of net).places → b ≤ length order → 0 < taken one.firings i p a
      → taken_of b p (take (suc i) one.firings) < given_by net order b p → a ≤ b
  leaves_later one i p a b l n k some leaves =
      let firings = one.firings in
      let once = one.holds.taken_once b p k n in
      ⊎_elim
      (λ z.
      let more = taken_some p b (drop (suc i) firings) (omega (arith, taken_parts p b firings (suc i))) in
      let j = suc i + more.0 in
      let inside : j < length order = omega (arith, more.1, length-drop (suc i) firings, one.holds.many) in
      let later = subst (λ (e : Event). 0 < produced_by b p e.from) (get_or-drop (suc i) firings more.0 no_event) more.2 in
      came_no_later (items_at firings i) (items_at firings j) (one.holds.oldest_first i j (omega arith) inside) p a b some later)
      (λ stays. came_no_later (items_at firings i) one.remaining (one.holds.left_last i l) p a b some stays)
      (eq-zero-or-pos (produced_by b p one.remaining))

  -- ---- two of them, firing by firing
  -- with i firings before, both have taken the same of each producer
  abbrev SameBefore : Process → Process → ℕ → ℕ → Type 0
  SameBefore one other i p = (b : ℕ) → taken_of b p (take i one.firings) ≡ taken_of b p (take i other.firings)

  -- where one leaves tokens of producer b that the other takes, all that it takes came no later
  takes_older : (one other : Process) (i p : ℕ) → i < length order → p < (arcs_of net).places → SameBefore one other i p
      → (a b : ℕ) → 0 < taken one.firings i p a → taken one.firings i p b < taken other.firings i p b → a ≤ b
  takes_older one other i p l n same a b some less =
      let k : b ≤ length order = omega (arith, early other i p b l (omega arith)) in
      leaves_later one i p a b l n k some
      (omega (arith, taken_next p b one.firings i, taken_next p b other.firings i, same b, taken_given other (suc i) p b n k))

  -- so one that takes less of a producer takes more of none, and less altogether
  no_less : (one other : Process) (i p : ℕ) → i < length order → p < (arcs_of net).places → SameBefore one other i p
      → (b : ℕ) → taken other.firings i p b ≤ taken one.firings i p b
  no_less one other i p l n same b = ⊎_elim (λ h. h) (λ less. absurd (fewer less)) (le_or_lt (theirs b) (ours b))
    where
      ours : ℕ → ℕ
      ours = taken one.firings i p

      theirs : ℕ → ℕ
      theirs = taken other.firings i p

      none_more : ours b < theirs b → (a : ℕ) → ours a ≤ theirs a
      none_more less a =
          ⊎_elim (λ h. h)
          (λ more.
          let a≤b = takes_older one other i p l n same a b (omega arith) less in
          let b≤a = takes_older other one i p l n (λ c. sym (same c)) b a (omega arith) more in
          let e = le_antisymm a≤b b≤a in
          absurd (omega (arith, ap ours e, ap theirs e)))
          (le_or_lt (ours a) (theirs a))

      together : (x : Process) → sum (taken x.firings i p) i ≡ takes (arcs_of net) (get_or order i 0) p
      together x =
          let items = items_at x.firings i in
          sym (tokens_by p i items (each_map (λ y m. m.earlier) items (x.holds.earlier i l))) ∙ x.holds.takes_all i p l n

      fewer : ours b < theirs b → ⊥
      fewer less = omega (arith, together one, together other, sum_less ours theirs i b (early other i p b l (omega arith)) (none_more less) less)

  same_taken : (one other : Process) (i p : ℕ) → i < length order → p < (arcs_of net).places → SameBefore one other i p
      → (b : ℕ) → taken one.firings i p b ≡ taken other.firings i p b
  same_taken one other i p l n same b = le_antisymm (no_less other one i p l n (λ a. sym (same a)) b) (no_less one other i p l n same b)

  same_before : (one other : Process) (i p : ℕ) → i ≤ length order → p < (arcs_of net).places → SameBefore one other i p
  unfolding taken_of
  same_before one other zero p l n b = refl
  same_before one other (suc i) p l n b =
      let before = same_before one other i p (omega arith) n in
      omega (arith, before b, same_taken one other i p l n before b, taken_next p b one.firings i, taken_next p b other.firings i)

  -- ---- so they are one
  same_firings : (one other : Process) → one.firings ≡ other.firings
  same_firings one other =
      ext_get_or no_event one.firings other.firings (one.holds.many ∙ sym other.holds.many) (λ i b.
      let l : i < length order = omega (arith, one.holds.many) in
      let fires = one.holds.fires i l ∙ sym (other.holds.fires i l) in
      let items = same_items i (items_at one.firings i) (items_at other.firings i)
      (one.holds.earlier i l) (other.holds.earlier i l) (one.holds.ascends i l) (other.holds.ascends i l)
      (λ p b n k. same_taken one other i p l n (same_before one other i p (omega arith) n) b) in
      λ t. record { fire = fires t; from = items t })

  same_remaining : (one other : Process) → one.firings ≡ other.firings → one.remaining ≡ other.remaining
  same_remaining one other e =
      same_items (length order) one.remaining other.remaining
      one.holds.left_earlier other.holds.left_earlier one.holds.left_ascends other.holds.left_ascends
      (λ p b n k. omega (arith, one.holds.taken_once b p k n, other.holds.taken_once b p k n, ap (taken_of b p) e))

  same_neighbours : (one other : Process) → one.firings ≡ other.firings → one.neighbours ≡ other.neighbours
  same_neighbours one other e =
      numbers_determined one.neighbours other.neighbours one.holds.free_ascends other.holds.free_ascends
      (λ i h. (other.holds.free_exactly i).1 (rw e at ((one.holds.free_exactly i).0 h)))
      (λ i h. (one.holds.free_exactly i).1 (rw (← e) at ((other.holds.free_exactly i).0 h)))

  -- the sentences determine the process
  pub process_determined : tokens net order (start_marking net) 0 ≡ Passed → (firings : List Event) (remaining : List Item) (neighbours : List ℕ)
      → IsProcess net order firings remaining neighbours
      → (firings ≡ events net order) × (remaining ≡ left net order) × (neighbours ≡ free (events net order))
  process_determined allowed firings remaining neighbours holds =
      let one : Process = record { firings = firings; remaining = remaining; neighbours = neighbours; holds = holds } in
      let other : Process =
      record { firings = events net order; remaining = left net order; neighbours = free (events net order); holds = process_is net order allowed } in
      let e = same_firings one other in
      (e, same_remaining one other e, same_neighbours one other e)
