-- Tokens are taken from a place producer by producer, the oldest first. With `need` tokens still to be taken, the next producer gives what the definition
-- takes of it and keeps the rest; where nothing is needed any more, or no producer is left, nothing more is taken.
use Prim.Native.Nat.{ℕ, zero, suc, ◌+◌, ◌-◌, ◌≤◌, ◌<◌, min}
use native.Mathlib.Nat.{not-suc-le-zero, le_of_suc-le-suc, sub-zero, le_refl, eq-or-lt_of_le}
use native.Mathlib.Numerals.{add-one}
use native.Mathlib.Omega.{arith}
use mathlib.Core.Path.{◌≡◌, refl, sym, ap, subst, ◌∙◌}
use mathlib.Core.Bool.{Bool, true, false, ◌||◌, or-false, or_assoc}
use mathlib.Core.Logic.{◌⊎◌, ⊎_elim}
use mathlib.Core.List.{List, [], ◌∷◌, ◌++◌, map}
use lib.Dec.{eqb}
use lib.ListN.{length, get_or, set, take, drop, length-set, get_or-eq_default}
use Rattle.std.proofs.lemmas.List.{get_or-take, length-take-le}
use lib.Seq.{take-suc, drop-cons, get_or-drop, get_or-set_same, get_or-set_other, ext_get_or}
use borrow.Author.Tests.{eqb-true, eqb-false, eq-eqb, ne_eqb}
use Rattle.laws.specs.Sums.{le_or_lt}
use Rattle.text.specs.declared.Writer.{Writer}
use Rattle.text.specs.Writer.{Writes}
use Rattle.causal.specs.Process.{Item, oldest, without, items_from}
use Rattle.causal.specs.Free.{took_from}
use Rattle.causal.specs.Print.{item_text}
use Rattle.causal.proofs.Queues.{total, total_append, entry_total, entry_inside, length_oldest, length_without, total_oldest, cut_entry, none_before, item}
use Rattle.engine.specs.declared.process_text.Line.{Line}
use Rattle.engine.specs.declared.process_text.Queue.TheInside.{Inside}
use Rattle.engine.specs.Counts.{comma, Listing, Took}
use Rattle.engine.specs.Queue.{IsQueue}
use Rattle.engine.proofs.Listing.{listing_start, listing_one}

-- ---- the n oldest of a queue, entry by entry
-- an entry is taken as far as those before it are not enough
oldest_at : (n : ℕ) (queue : List ℕ) (i : ℕ) → get_or (oldest n queue) i 0 ≡ min (n - total (take i queue)) (get_or queue i 0)
unfolding oldest
oldest_at n [] i = omega arith
oldest_at n (c ∷ queue) zero = omega arith
oldest_at n (c ∷ queue) (suc i) = omega (arith, oldest_at (n - c) queue i)

-- where those before are enough, nothing more is taken
oldest_past : (n : ℕ) (queue : List ℕ) (i k : ℕ) → n ≤ total (take i queue) → i ≤ k → get_or (oldest n queue) k 0 ≡ 0
unfolding oldest
oldest_past n [] i k h l = refl
oldest_past n (c ∷ queue) zero k h l = omega (arith, entry_total (oldest n (c ∷ queue)) k, total_oldest n (c ∷ queue))
oldest_past n (c ∷ queue) (suc i) zero h l = absurd (not-suc-le-zero l)
oldest_past n (c ∷ queue) (suc i) (suc k) h l = oldest_past (n - c) queue i k (omega arith) (le_of_suc-le-suc l)

total_next : (queue : List ℕ) (i : ℕ) → i < length queue → total (take (i + 1) queue) ≡ total (take i queue) + get_or queue i 0
total_next queue i l = rw (add-one, take-suc queue i 0) (omega (arith, total_append (take i queue) (get_or queue i 0 ∷ [])))

-- no tokens, no items
items_none : (p i : ℕ) (queue : List ℕ) → ((k : ℕ) → get_or queue k 0 ≡ 0) → items_from p i queue ≡ []
unfolding items_from
items_none p i [] h = refl
items_none p i (c ∷ queue) h = rw (eq-eqb c 0 (h 0)) (items_none p (suc i) queue (λ k. h (suc k)))

-- the newest producer
last_producer : (i top : ℕ) → i < top → eqb i (top - 1) ≡ eqb (i + 1) top
last_producer i top l = go (eqb (i + 1) top) refl
  where
    go : (t : Bool) → eqb (i + 1) top ≡ t → eqb i (top - 1) ≡ t
    go true e = let same = eqb-true (i + 1) top e in eq-eqb i (top - 1) (omega arith)
    go false e = let other = eqb-false (i + 1) top e in ne_eqb i (top - 1) (λ q. other (omega arith))

-- taking none
pub took_none : (a : Writer) (line : Line) (place : ℕ) (queue : List ℕ) → Took a line place 0 queue queue a line
unfolding took_from
took_none a line place queue =
    let none : (k : ℕ) → get_or (oldest 0 queue) k 0 ≡ 0 = λ k. oldest_past 0 queue 0 k (omega arith) (omega arith) in
    let same : queue ≡ without 0 queue =
    ext_get_or 0 queue (without 0 queue) (sym (length_without 0 queue)) (λ k b. omega (arith, none k, cut_entry 0 queue k)) in
    record {
      here = same;
      newest = rw (items_none place 0 (oldest 0 queue) none) (sym (or-false line.newest));
      listed = rw (items_none place 0 (oldest 0 queue) none) (listing_start a line.first []);
    }

-- ---- the loop
module _ (a : Writer) (line : Line) (place want : ℕ) (q₀ : Inside) where
  -- the queue, what is taken of it and what stays
  abbrev top : ℕ
  top = q₀.producers

  abbrev queue : List ℕ
  queue = take top q₀.counts

  abbrev drawn : List ℕ
  drawn = oldest want queue

  abbrev stays : List ℕ
  stays = without want queue

  -- the items of the producers from i on, and whether the newest producer is among these or those before
  abbrev items_left : ℕ → List Item
  items_left i = items_from place i (drop i drawn)

  abbrev linked : Bool → ℕ → Bool
  linked newest i = newest || took_from (top - 1) (items_left i)

  -- the line so far, with these items left
  abbrev Left : Writer → Line → List Item → Type 0
  Left b so_far left = Listing a line.first (map item_text (items_left 0)) b so_far.first (map item_text left)

  -- the state with the producers before i looked at and `need` tokens still to be taken
  pub record Drawing (b : Writer) (q : Inside) (so_far : Line) (need i : ℕ) : Type 0 where
    pub within : i ≤ top
    pub same : q.producers ≡ top
    pub size : length q.counts ≡ length q₀.counts
    pub wanted : need ≡ want - total (take i queue)
    pub passed : (k : ℕ) → k < i → get_or q.counts k 0 ≡ get_or stays k 0
    pub ahead : (k : ℕ) → i ≤ k → get_or q.counts k 0 ≡ get_or q₀.counts k 0
    pub begun : q.head ≤ top
    pub bare : (k : ℕ) → k < q.head → get_or stays k 0 ≡ 0
    pub took : linked so_far.newest i ≡ linked line.newest 0
    pub listed : Left b so_far (items_left i)

  module _ (full : top ≤ length q₀.counts) where
    queue_length : length queue ≡ top
    queue_length = length-take-le top q₀.counts full

    queue_at : (counts : List ℕ) (i : ℕ) → i < top → get_or (take top counts) i 0 ≡ get_or counts i 0
    queue_at counts i l = get_or-take top counts i 0 l

    -- ---- one producer
    module _ {b : Writer} {q : Inside} {so_far : Line} {need i : ℕ} (w : Drawing b q so_far need i) (l : i < top) (x : ℕ)
        (is : x ≡ min need (get_or q.counts i 0)) where
      held : get_or q.counts i 0 ≡ get_or queue i 0
      held = w.ahead i (le_refl i) ∙ sym (queue_at q₀.counts i l)

      taken : x ≡ get_or drawn i 0
      taken = omega (arith, is, held, w.wanted, oldest_at want queue i)

      drawn_next : drop i drawn ≡ x ∷ drop (i + 1) drawn
      drawn_next = rw (add-one, taken) (drop-cons drawn i 0 (omega (arith, length_oldest want queue, queue_length)))

      module _ (c : Writer) (after : Inside) (next : Line) (same : after.producers ≡ top) (size : length after.counts ≡ length q.counts)
          (here : get_or after.counts i 0 ≡ get_or q.counts i 0 - x)
          (other : (k : ℕ) → (k ≡ i → ⊥) → get_or after.counts k 0 ≡ get_or q.counts k 0) where
        drawing_next : after.head ≤ top → ((k : ℕ) → k < after.head → get_or stays k 0 ≡ 0) → linked next.newest (i + 1) ≡ linked so_far.newest i
            → Left c next (items_left (i + 1)) → Drawing c after next (need - x) (i + 1)
        drawing_next begun bare took listed =
            record {
              within = omega arith;
              same = same;
              size = size ∙ w.size;
              wanted = omega (arith, w.wanted, is, held, total_next queue i (omega (arith, queue_length)));
              passed = λ k b.
                  ⊎_elim
                  (λ (e : k ≡ i). rw e (here ∙ omega (arith, held, taken, cut_entry want queue i)))
                  (λ (e : k < i). other k (λ z. omega arith) ∙ w.passed k e)
                  (eq-or-lt_of_le (le_of_suc-le-suc (rw add-one at b)));
              ahead = λ k b. other k (λ z. omega arith) ∙ w.ahead k (omega arith);
              begun = begun;
              bare = bare;
              took = took ∙ w.took;
              listed = listed;
            }

      -- nothing of this producer
      module _ (z : x ≡ 0) where
        none_left : items_left i ≡ items_left (i + 1)
        unfolding items_from
        none_left = rw (drawn_next, eq-eqb x 0 z, add-one) refl

        pub drawing_none : Drawing b q so_far (need - x) (i + 1)
        drawing_none =
            drawing_next b q so_far w.same refl (omega arith) (λ k b. refl) w.begun w.bare (rw none_left refl)
            (subst (Left b so_far) none_left w.listed)

      -- some of it
      module _ (z : x ≡ 0 → ⊥) where
        some_left : items_left i ≡ item place i x ∷ items_left (i + 1)
        unfolding items_from
        some_left = rw (drawn_next, ne_eqb x 0 z, add-one) refl

        some : 0 < x
        some = omega (arith, z)

        pub drawing_some : {c : Writer} → Writes b (comma so_far.first ++ item_text (item place i x)) c
            → Drawing c (record { counts = set q.counts i (get_or q.counts i 0 - x); producers = q.producers; head = i })
            (record { first = false; newest = so_far.newest || eqb (i + 1) q.producers }) (need - x) (i + 1)
        unfolding took_from
        drawing_some {c} p =
            drawing_next c _ _ w.same (length-set q.counts i _)
            (get_or-set_same q.counts i _ 0 (entry_inside q.counts i (omega (arith, some, is))))
            (λ k b. get_or-set_other q.counts i k _ 0 b)
            (omega arith)
            (λ k b. none_before want queue i k (omega (arith, some, taken)) b)
            (rw (some_left, w.same, last_producer i top l) (or_assoc so_far.newest (eqb (i + 1) top) (took_from (top - 1) (items_left (i + 1)))))
            (listing_one (subst (Left b so_far) some_left w.listed) p)

    -- ---- the start: the producers before head have none
    module _ (z : IsQueue q₀) where
      drawing_to : (h : ℕ) → h ≤ q₀.head → Drawing a q₀ line want h
      drawing_to zero l =
          record {
            within = omega arith;
            same = refl;
            size = refl;
            wanted = omega arith;
            passed = λ k h. absurd (not-suc-le-zero h);
            ahead = λ k h. refl;
            begun = z.begun;
            bare = λ k h. omega (arith, z.bare k h, queue_at q₀.counts k (omega (arith, z.begun)), cut_entry want queue k);
            took = refl;
            listed = listing_start a line.first (map item_text (items_left 0));
          }
      drawing_to (suc h) l =
          let in-queue : h < top = omega (arith, z.begun) in
          let none : 0 ≡ min want (get_or q₀.counts h 0) = omega (arith, z.bare h l) in
          rw (add-one, sub-zero) at (drawing_none (drawing_to h (omega arith)) in-queue 0 none refl)

      pub drawing_start : Drawing a q₀ line want q₀.head
      drawing_start = drawing_to q₀.head (le_refl q₀.head)

    -- ---- the end: all producers were looked at, or nothing is needed
    module _ {b : Writer} {q : Inside} {so_far : Line} {need i : ℕ} (w : Drawing b q so_far need i) (end : (top ≤ i) ⊎ (need ≡ 0)) where
      spent : (k : ℕ) → i ≤ k → get_or drawn k 0 ≡ 0
      spent k b =
          ⊎_elim
          (λ (e : top ≤ i). get_or-eq_default drawn 0 {n = k} (omega (arith, length_oldest want queue, queue_length)))
          (λ (e : need ≡ 0). oldest_past want queue i k (omega (arith, w.wanted)) b)
          end

      no_items : items_left i ≡ []
      no_items = items_none place i (drop i drawn) (λ k. get_or-drop i drawn k 0 ∙ spent (i + k) (omega arith))

      stay_at : (k : ℕ) → k < top → get_or q.counts k 0 ≡ get_or stays k 0
      stay_at k l =
          ⊎_elim
          (λ (h : i ≤ k). w.ahead k h ∙ omega (arith, spent k h, cut_entry want queue k, queue_at q₀.counts k l))
          (λ (h : k < i). w.passed k h)
          (le_or_lt i k)

      here : take q.producers q.counts ≡ stays
      here =
          rw w.same
          (ext_get_or 0 (take top q.counts) stays
          (length-take-le top q.counts (omega (arith, w.size)) ∙ omega (arith, length_without want queue, queue_length))
          (λ k b.
          let l : k < top = omega (arith, length-take-le top q.counts (omega (arith, w.size))) in
          queue_at q.counts k l ∙ stay_at k l))

      pub drawing_done : Took a line place want queue (take q.producers q.counts) b so_far
      unfolding took_from
      drawing_done =
          record {
            here = here;
            newest = sym (or-false so_far.newest) ∙ rw no_items at w.took ∙ ap (λ (n : ℕ). line.newest || took_from (n - 1) (items_left 0)) (sym queue_length);
            listed = subst (Left b so_far) no_items w.listed;
          }

      pub drawing_left : IsQueue q₀ → IsQueue q
      drawing_left z =
          record {
            within = omega (arith, w.same, z.within);
            begun = omega (arith, w.same, w.begun);
            bare = λ k l. stay_at k (omega (arith, w.begun)) ∙ w.bare k l;
          }
