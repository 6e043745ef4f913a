-- How long a process can be: a firing cuts at most one entry of a place's queue in two and adds one, so all lines together have at most 1 + 2 · 64 items of a
-- place, and each takes at most 10 bytes with its separator.
use Rattle.reply.specs.Respond.{Passed}
use Prim.Native.Nat.{ℕ, zero, suc, ◌+◌, ◌-◌, ◌*◌, ◌≤◌, ◌<◌, min}
use native.Mathlib.Nat.{mul-le-mul, min-eq_left, min-eq_right, sub-eq-zero_of_le}
use native.Mathlib.Omega.{arith}
use mathlib.Core.Path.{◌≡◌, refl, ◌∙◌}
use mathlib.Core.Bool.{Bool, true, false, cond}
use mathlib.Core.Logic.{⊎_elim}
use mathlib.Core.List.{List, [], ◌∷◌, ◌++◌, map}
use lib.Dec.{eqb, lit≤}
use lib.ListN.{length, get_or, take, drop, length-append, length-map, length-drop}
use borrow.Author.Tests.{eqb-true, eqb-false}
use Rattle.laws.specs.Each.{Each, each_map, each_mapped, each_zip, each_of}
use Rattle.laws.specs.Sums.{le_or_lt}
use Rattle.text.specs.Decimal.{decimal, field}
use Rattle.text.specs.Key.{bytes}
use Rattle.text.specs.Number.{separator}
use Rattle.text.proofs.DecimalLaws.{digits_few}
use Rattle.form.proofs.Found.{also_first, also_second}
use Rattle.net.specs.declared.Net.{Net}
use Rattle.firing.specs.Semantics.{arcs_of, takes, gives, start_marking, after}
use Rattle.firing.specs.Tokens.{tokens_judged, tokens, marking_after}
use Rattle.firing.proofs.Clocks.{few_places, few_transitions, enabled_listed, length_after, limited_true}
use Rattle.firing.proofs.Accept.{length_start, start_at}
use Rattle.timing.proofs.Meet.{tokens_passed}
use Rattle.timing.proofs.Order.{tokens_prefix}
use Rattle.causal.specs.Process.{Queues, Item, Event, oldest, without, start_queues, taken_by, queues_after, items_from, items_of}
use Rattle.causal.specs.Process.{events_from, queues_behind, events, left}
use Rattle.causal.specs.Free.{took_from, free_from, free}
use Rattle.causal.specs.Claims.{no_event, from_at, Produced}
use Rattle.causal.specs.Print.{item_text, joined_by, list_text, event_text, events_text, process_text}
use Rattle.causal.proofs.Queues.{entry_total, cut_entry, each_items}
use Rattle.causal.proofs.Tokens.{queues_at, length_events, event_fires, from_items, from_earlier, left_earlier, start_sums, allowed_enabled}

-- ---- how many items
-- the entries with tokens
abbrev filled : List ℕ → ℕ
filled [] = 0
filled (c ∷ queue) = min 1 c + filled queue

-- a first entry that is cut leaves nothing to take of the others
cut_first : (n c : ℕ) → min 1 (min n c) + min 1 (c - n) + min 1 (n - c) ≤ min 1 c + min 1 n
cut_first n c =
    ⊎_elim
    (λ (h : n ≤ c). rw (min-eq_left h, sub-eq-zero_of_le h) (omega arith))
    (λ (h : c < n). let b : c ≤ n = omega arith in rw (min-eq_right b, sub-eq-zero_of_le b) (omega arith))
    (le_or_lt n c)

filled_cut : (n : ℕ) (queue : List ℕ) → filled (oldest n queue) + filled (without n queue) ≤ filled queue + min 1 n
unfolding oldest without
filled_cut n [] = omega arith
filled_cut n (c ∷ queue) = omega (arith, filled_cut (n - c) queue, cut_first n c)

filled_more : (queue : List ℕ) (g : ℕ) → filled (queue ++ (g ∷ [])) ≤ filled queue + 1
filled_more [] g = omega arith
filled_more (c ∷ queue) g = omega (arith, filled_more queue g)

items_filled : (p k : ℕ) (queue : List ℕ) → length (items_from p k queue) ≡ filled queue
unfolding items_from
items_filled p k [] = refl
items_filled p k (c ∷ queue) = go (eqb c 0) refl (items_filled p (suc k) queue)
  where
    go : (b : Bool) → eqb c 0 ≡ b → length (items_from p (suc k) queue) ≡ filled queue
        → length (cond b (items_from p (suc k) queue) (record { place = p; producer = k; count = c } ∷ items_from p (suc k) queue)) ≡ min 1 c + filled queue
    go true e h = omega (arith, eqb-true c 0 e)
    go false e h = omega (arith, eqb-false c 0 e)

-- the items of all firings
abbrev items_in : List Event → ℕ
items_in [] = 0
items_in (e ∷ es) = length e.from + items_in es

module _ (net : Net) where
  items_next : (tokens : Queues) (n : ℕ) → length (items_of tokens (suc n)) ≡ length (items_of tokens n) + filled (tokens n)
  unfolding items_of
  items_next tokens n = omega (arith, length-append (items_of tokens n) (items_from n 0 (tokens n)), items_filled n 0 (tokens n))

  items_cut : (queues : Queues) (t n : ℕ)
      → length (items_of (taken_by net queues t) n) + length (items_of (queues_after net queues t) n) ≤ length (items_of queues n) + 2 * n
  unfolding items_of
  items_cut queues t zero = omega arith
  items_cut queues t (suc n) =
      let h = items_cut queues t n in
      omega (
        arith,
        items_next (taken_by net queues t) n,
        items_next (queues_after net queues t) n,
        items_next queues n,
        filled_cut (takes (arcs_of net) t n) (queues n),
        filled_more (without (takes (arcs_of net) t n) (queues n)) (gives (arcs_of net) t n),
      )

  items_all : (order : List ℕ) (queues : Queues) → items_in (events_from net order queues) + length (items_of (queues_behind net order queues) (arcs_of net).places)
      ≤ length (items_of queues (arcs_of net).places) + 2 * ((arcs_of net).places * length order)
  unfolding events_from queues_behind
  items_all [] queues = omega arith
  items_all (t ∷ order) queues = omega (arith, items_all order (queues_after net queues t), items_cut queues t (arcs_of net).places)

  items_start : (n : ℕ) → length (items_of (start_queues net) n) ≤ n
  unfolding items_of
  items_start zero = omega arith
  items_start (suc n) = omega (arith, items_next (start_queues net) n, items_start n)

-- ---- how long a text
module _ (w : ℕ) where
  abbrev Short : List ℕ → Type 0
  Short text = length text ≤ w

  joined_short : (texts : List (List ℕ)) → Each Short texts → length (joined_by false texts) ≤ suc w * length texts
  unfolding joined_by
  joined_short [] h = omega arith
  joined_short (x ∷ texts) h = omega (arith, length-append (44 ∷ x) (joined_by false texts), joined_short texts h.1, h.0)

  list_short : (texts : List (List ℕ)) → Each Short texts → length (list_text texts) ≤ 5 + suc w * length texts
  unfolding list_text joined_by
  list_short [] h = omega arith
  list_short (x ∷ texts) h =
      omega (arith, length-append (x ++ joined_by false texts) (10 ∷ []), length-append x (joined_by false texts), joined_short texts h.1, h.0)

-- an item with small numbers, and a firing of a transition with a small number
abbrev Small : Item → Type 0
Small x = (x.place < 100) × (x.producer < 100) × (x.count < 1000)

item_short : (x : Item) → Small x → length (item_text x) ≤ 9
item_short x s =
    let a = decimal x.place in
    let b = decimal x.producer in
    let c = decimal x.count in
    omega (
      arith,
      length-append (a ++ (46 ∷ []) ++ b ++ (46 ∷ [])) c,
      length-append (a ++ (46 ∷ []) ++ b) (46 ∷ []),
      length-append (a ++ (46 ∷ [])) b,
      length-append a (46 ∷ []),
      digits_few 2 x.place (lit≤ tt) (lit≤ tt) s.0,
      digits_few 2 x.producer (lit≤ tt) (lit≤ tt) s.1,
      digits_few 3 x.count (lit≤ tt) (lit≤ tt) s.2,
    )

items_short : (items : List Item) → Each Small items → length (list_text (map item_text items)) ≤ 5 + 10 * length items
items_short items h =
    omega (
      arith,
      list_short 9 (map item_text items) (each_mapped (Short 9) item_text items (each_map item_short items h)),
      length-map items item_text,
    )

abbrev SmallEvent : Event → Type 0
SmallEvent e = (e.fire < 100) × Each Small e.from

event_short : (e : Event) → SmallEvent e → length (event_text e) ≤ 18 + 10 * length e.from
event_short e s =
    let number = field e.fire true in
    let line = list_text (map item_text e.from) in
    omega (
      arith,
      length-append (bytes "fire=" ++ number ++ bytes "from=") line,
      length-append (bytes "fire=" ++ number) (bytes "from="),
      length-append (bytes "fire=") number,
      length-append (decimal e.fire) (separator true ∷ []),
      digits_few 2 e.fire (lit≤ tt) (lit≤ tt) s.0,
      items_short e.from s.1,
    )

events_short : (es : List Event) → Each SmallEvent es → length (events_text es) ≤ 18 * length es + 10 * items_in es
unfolding events_text
events_short [] h = omega arith
events_short (e ∷ es) h = omega (arith, length-append (event_text e) (events_text es), event_short e h.0, events_short es h.1)

-- ---- the free neighbours: fewer than there are firings
free_few : (k : ℕ) (es : List Event) → length (free_from k es) ≤ length es
unfolding free_from
free_few k [] = omega arith
free_few k (e ∷ es) = go (took_from k e.from) (free_few (suc k) es)
  where
    go : (b : Bool) → length (free_from (suc k) es) ≤ length es → length (cond b (free_from (suc k) es) (k ∷ free_from (suc k) es)) ≤ suc (length es)
    go true h = omega arith
    go false h = omega arith

free_small : (n k : ℕ) (es : List Event) → k + length es ≤ n → Each (λ i. i < n) (free_from k es)
unfolding free_from
free_small n k [] h = tt
free_small n k (e ∷ es) h = go (took_from k e.from) (free_small n (suc k) es (omega arith))
  where
    go : (b : Bool) → Each (λ i. i < n) (free_from (suc k) es) → Each (λ i. i < n) (cond b (free_from (suc k) es) (k ∷ free_from (suc k) es))
    go true m = m
    go false m = (omega arith, m)

free_short : (es : List Event) → length es ≤ 64 → length (list_text (map decimal (free es))) ≤ 194
unfolding free
free_short es l =
    let numbers = free_from 1 (drop 1 es) in
    omega (
      arith,
      list_short 2 (map decimal numbers)
          (each_mapped (Short 2) decimal numbers
          (each_map (λ i b. digits_few 2 i (lit≤ tt) (lit≤ tt) b) numbers (free_small 100 1 (drop 1 es) (omega (arith, length-drop 1 es))))),
      length-map numbers decimal,
      free_few 1 (drop 1 es),
      length-drop 1 es,
    )

-- ---- where the tokens allow the order, no number is large
pub holds_few : (net : Net) (order m : List ℕ) (n p : ℕ) → length m ≡ 16 → p < (arcs_of net).places → tokens net order m n ≡ Passed → get_or m p 0 ≤ 255
    → get_or (marking_after net m order) p 0 ≤ 255
unfolding tokens marking_after
holds_few net [] m n p long l e h = h
holds_few net (t ∷ order) m n p long l e h =
    let here = tokens_judged net m t (n + 1) in
    let rest = tokens net order (after (arcs_of net) m t) (n + 1) in
    let few = (limited_true (arcs_of net) m t (omega (arith, few_places net))).0 (tokens_passed net m t (n + 1) (also_first here rest e)).1 in
    holds_few net order (after (arcs_of net) m t) (n + 1) p (length_after (arcs_of net) m t ∙ long) l (also_second here rest e) (few p l)

module _ (net : Net) (order : List ℕ) (brief : length order ≤ 64) (start : (p : ℕ) → p < (arcs_of net).places → get_or net.start p 0 ≤ 255)
    (allowed : tokens net order (start_marking net) 0 ≡ Passed) where
  stands_few : (part : List ℕ) → tokens net part (start_marking net) 0 ≡ Passed
      → (p i : ℕ) → p < (arcs_of net).places → get_or (queues_behind net part (start_queues net) p) i 0 ≤ 255
  stands_few part e p i l =
      omega (
        arith,
        entry_total (queues_behind net part (start_queues net) p) i,
        start_sums net p part l,
        holds_few net part (start_marking net) 0 p (length_start net) l e (omega (arith, start p l, start_at net p l)),
      )

  abbrev Few : Item → Type 0
  Few x = x.count ≤ 255

  few_small : (k : ℕ) → k ≤ 64 → (items : List Item) → Each (Produced net order k) items → Each Few items → Each Small items
  few_small k b =
      each_zip {P = Produced net order k} {Q = Few} {R = Small} (λ x a c. (omega (arith, a.in_net, few_places net), omega (arith, a.earlier), omega arith))

  from_small : (i : ℕ) → i < length order → Each Small (from_at net order i)
  from_small i l =
      let queues = queues_at net order i in
      let t = get_or order i 0 in
      few_small i (omega arith) (from_at net order i) (from_earlier net order i l)
      (rw (from_items net order i l) (each_items Few (taken_by net queues t) (arcs_of net).places (λ p j b c.
      omega (
        arith,
        cut_entry (takes (arcs_of net) t p) (queues p) j,
        stands_few (take i order) (tokens_prefix net i order (start_marking net) 0 allowed) p j b,
      ))))

  left_small : Each Small (left net order)
  unfolding left
  left_small =
      few_small (length order) brief (left net order) (left_earlier net order)
      (each_items Few (queues_behind net order (start_queues net)) (arcs_of net).places (λ p j b c. stands_few order allowed p j b))

  events_small : Each SmallEvent (events net order)
  events_small =
      each_of SmallEvent no_event (events net order) (λ i b.
      let l : i < length order = omega (arith, length_events net order) in (
        omega (
          arith,
          event_fires net order i l,
          enabled_listed (arcs_of net) (marking_after net (start_marking net) (take i order)) (get_or order i 0)
              (allowed_enabled net order (start_marking net) 0 i allowed l),
          few_transitions net,
        ),
        from_small i l,
      ))

  items_few : items_in (events net order) + length (left net order) ≤ 2064
  unfolding events left
  items_few = omega (arith, items_all net order (start_queues net), items_start net (arcs_of net).places, mul-le-mul (few_places net) brief)

  pub process_text_short : length (process_text net order) ≤ 22001
  unfolding process_text
  process_text_short =
      let es = events net order in
      let first = events_text es in
      let second = list_text (map item_text (left net order)) in
      let third = list_text (map decimal (free es)) in
      omega (
        arith,
        length-append (first ++ bytes "left=" ++ second ++ bytes "free=") third,
        length-append (first ++ bytes "left=" ++ second) (bytes "free="),
        length-append (first ++ bytes "left=") second,
        length-append first (bytes "left="),
        events_short es events_small,
        items_short (left net order) left_small,
        free_short es (omega (arith, length_events net order)),
        items_few,
        length_events net order,
      )
