-- What makes the process believable beyond its definition: counts sum to markings and weights, each token that is taken was given before and
-- is taken once, and the tokens of a place leave in the order in which they came.
use Rattle.reply.specs.Respond.{Passed}
use Prim.Native.Nat.{ℕ, zero, suc, ◌+◌, ◌≤◌, ◌<◌}
use native.Mathlib.Nat.{not-suc-le-zero, le_of_suc-le-suc}
use native.Mathlib.Omega.{arith}
use mathlib.Core.Path.{◌≡◌, refl, sym, ap, subst, ◌∙◌}
use mathlib.Core.Bool.{Bool, true, and-eq-true_iff}
use mathlib.Core.Logic.{⊎_elim}
use mathlib.Core.List.{List, [], ◌∷◌}
use lib.Dec.{leb, ltb}
use lib.ListN.{length, get_or, take, length-append, length-take, get_or-append, get_or-eq_default}
use lib.Seq.{get_or-append_seam, take-take, get_or-take}
use borrow.Author.Tests.{leb-true}
use Rattle.laws.specs.Tests.{all_below, all_at}
use Rattle.laws.specs.Each.{Each}
use Rattle.laws.specs.Sums.{le_or_lt}
use Rattle.form.proofs.Found.{also_first, also_second}
use Rattle.net.specs.declared.Net.{Net}
use Rattle.firing.specs.Semantics.{arcs_of, takes, gives, start_marking, enough, enabled, after}
use Rattle.firing.specs.Tokens.{tokens_judged, tokens, marking_after}
use Rattle.firing.proofs.Clocks.{few_places, length_after, after_at}
use Rattle.firing.proofs.Accept.{length_start, start_at}
use Rattle.timing.proofs.Meet.{tokens_passed}
use Rattle.causal.specs.Process.{Queues, Event, oldest, without, start_queues, taken_by, queues_after, items_of, events_from, queues_behind, events, left}
use Rattle.causal.specs.Claims.{tokens_of, produced_by, taken_of, given_by, no_event, from_at, Ascending, Produced, CameNoLater}
use Rattle.causal.proofs.Events.{events_length}
use Rattle.causal.proofs.Queues.{total, total_append, total_oldest, total_without, length_oldest, length_without, cut_entry, entry_inside, none_before}
use Rattle.causal.proofs.Queues.{item, each_items, ascends, tokens_items, produced_items}

-- the tokens that one firing takes are among those that all take
taken_one : (es : List Event) (i p k : ℕ) → produced_by i p (get_or es k no_event).from ≤ taken_of i p es
unfolding taken_of produced_by
taken_one [] i p k = omega arith
taken_one (e ∷ es) i p zero = omega arith
taken_one (e ∷ es) i p (suc k) = omega (arith, taken_one es i p k)

module _ (net : Net) where
  -- ---- one firing after another, from any queues
  event_at : (order : List ℕ) (queues : Queues) (i : ℕ) → i < length order
      → get_or (events_from net order queues) i no_event
      ≡ record { fire = get_or order i 0; from = items_of (taken_by net (queues_behind net (take i order) queues) (get_or order i 0)) (arcs_of net).places }
  unfolding events_from queues_behind
  event_at [] queues i l = absurd (not-suc-le-zero l)
  event_at (t ∷ order) queues zero l = refl
  event_at (t ∷ order) queues (suc i) l = event_at order (queues_after net queues t) i (le_of_suc-le-suc l)

  module _ (p : ℕ) where
    -- a firing adds an entry
    queue_longer : (queues : Queues) (t : ℕ) → length (queues_after net queues t p) ≡ suc (length (queues p))
    queue_longer queues t = length-append (without (takes (arcs_of net) t p) (queues p)) (gives (arcs_of net) t p ∷ [])
        ∙ omega (arith, length_without (takes (arcs_of net) t p) (queues p))

    queue_length : (order : List ℕ) (queues : Queues) → length (queues_behind net order queues p) ≡ length (queues p) + length order
    unfolding queues_behind
    queue_length [] queues = omega arith
    queue_length (t ∷ order) queues = omega (arith, queue_length order (queues_after net queues t), queue_longer queues t)

    -- and changes the others by what it takes
    entry_after : (queues : Queues) (t i : ℕ) → i < length (queues p)
        → get_or (queues_after net queues t p) i 0 ≡ get_or (without (takes (arcs_of net) t p) (queues p)) i 0
    entry_after queues t i l =
        get_or-append (without (takes (arcs_of net) t p) (queues p)) (gives (arcs_of net) t p ∷ []) 0 i
        (omega (arith, length_without (takes (arcs_of net) t p) (queues p)))

    entry_new : (queues : Queues) (t : ℕ) → get_or (queues_after net queues t p) (length (queues p)) 0 ≡ gives (arcs_of net) t p
    entry_new queues t =
        ap (λ (i : ℕ). get_or (queues_after net queues t p) i 0) (sym (length_without (takes (arcs_of net) t p) (queues p)))
        ∙ get_or-append_seam (without (takes (arcs_of net) t p) (queues p)) (gives (arcs_of net) t p) [] 0

    -- so an entry never grows
    entry_falls : (order : List ℕ) (queues : Queues) (i : ℕ) → i < length (queues p) → get_or (queues_behind net order queues p) i 0 ≤ get_or (queues p) i 0
    unfolding queues_behind
    entry_falls [] queues i l = omega arith
    entry_falls (t ∷ order) queues i l =
        omega (
          arith,
          entry_falls order (queues_after net queues t) i (omega (arith, queue_longer queues t)),
          entry_after queues t i l,
          cut_entry (takes (arcs_of net) t p) (queues p) i,
        )

    -- and behind a firing it is at most what that firing left of it
    entry_kept : (order : List ℕ) (queues : Queues) (k i : ℕ) → k < length order → i < length (queues_behind net (take k order) queues p)
        → get_or (queues_behind net order queues p) i 0 ≤ get_or (without (takes (arcs_of net) (get_or order k 0) p) (queues_behind net (take k order) queues p)) i 0
    unfolding queues_behind
    entry_kept [] queues k i b l = absurd (not-suc-le-zero b)
    entry_kept (t ∷ order) queues zero i b l =
        omega (arith, entry_falls order (queues_after net queues t) i (omega (arith, queue_longer queues t)), entry_after queues t i l)
    entry_kept (t ∷ order) queues (suc k) i b l = entry_kept order (queues_after net queues t) k i (le_of_suc-le-suc b) l

    -- oldest first: what a firing takes came no later than what stands behind it
    in_turn : (order : List ℕ) (queues : Queues) (k a b : ℕ) → k < length order
        → 0 < get_or (oldest (takes (arcs_of net) (get_or order k 0) p) (queues_behind net (take k order) queues p)) a 0
        → 0 < get_or (queues_behind net order queues p) b 0 → a ≤ b
    in_turn order queues k a b l taken stands =
        let t = get_or order k 0 in
        let queue = queues_behind net (take k order) queues p in
        let inside : a < length queue =
        omega (arith, entry_inside (oldest (takes (arcs_of net) t p) queue) a taken, length_oldest (takes (arcs_of net) t p) queue) in
        ⊎_elim (λ h. h)
        (λ h. absurd (omega (arith, none_before (takes (arcs_of net) t p) queue a b taken h, entry_kept order queues k b l (omega arith))))
        (le_or_lt a b)

    -- ---- sums
    queue_sums : (order : List ℕ) (queues : Queues) (m : List ℕ) → p < (arcs_of net).places → length m ≡ 16 → total (queues p) ≡ get_or m p 0
        → total (queues_behind net order queues p) ≡ get_or (marking_after net m order) p 0
    unfolding queues_behind marking_after
    queue_sums [] queues m l long e = e
    queue_sums (t ∷ order) queues m l long e =
        queue_sums order (queues_after net queues t) (after (arcs_of net) m t) l (length_after (arcs_of net) m t ∙ long)
        (omega (
          arith,
          total_append (without (takes (arcs_of net) t p) (queues p)) (gives (arcs_of net) t p ∷ []),
          total_without
              (takes (arcs_of net) t p) (queues p),
          after_at (arcs_of net) m t p l (omega (arith, few_places net)),
        ))

    pub start_sums : (order : List ℕ) → p < (arcs_of net).places
        → total (queues_behind net order (start_queues net) p) ≡ get_or (marking_after net (start_marking net) order) p 0
    start_sums order l = queue_sums order (start_queues net) (start_marking net) l (length_start net) (omega (arith, start_at net p l))

    -- ---- each token is taken once or left
    module _ (l : p < (arcs_of net).places) where
      -- those of the entries that stand in the queue
      once_held : (order : List ℕ) (queues : Queues) (i : ℕ) → i < length (queues p)
          → taken_of i p (events_from net order queues) + get_or (queues_behind net order queues p) i 0 ≡ get_or (queues p) i 0
      unfolding events_from queues_behind taken_of
      once_held [] queues i b = omega arith
      once_held (t ∷ order) queues i b =
          omega (
            arith,
            once_held order (queues_after net queues t) i (omega (arith, queue_longer queues t)),
            entry_after queues t i b,
            cut_entry (takes (arcs_of net) t p) (queues p) i,
            produced_items i p (taken_by net queues t) (arcs_of net).places l,
          )

      -- and those of the entries to come
      none_yet : (queues : Queues) (t i : ℕ) → length (queues p) ≤ i → produced_by i p (items_of (taken_by net queues t) (arcs_of net).places) ≡ 0
      none_yet queues t i b =
          produced_items i p (taken_by net queues t) (arcs_of net).places l
          ∙ get_or-eq_default (oldest (takes (arcs_of net) t p) (queues p)) 0 (omega (arith, length_oldest (takes (arcs_of net) t p) (queues p)))

      once_given : (order : List ℕ) (queues : Queues) (i k : ℕ) → k < length order → i ≡ length (queues p) + k
          → taken_of i p (events_from net order queues) + get_or (queues_behind net order queues p) i 0 ≡ gives (arcs_of net) (get_or order k 0) p
      unfolding events_from queues_behind taken_of
      once_given [] queues i k b e = absurd (not-suc-le-zero b)
      once_given (t ∷ order) queues i zero b e =
          let new : i ≡ length (queues p) = omega arith in
          omega (
            arith,
            none_yet queues t i (omega arith),
            once_held order (queues_after net queues t) i (omega (arith, queue_longer queues t)),
            ap (λ (j : ℕ). get_or (queues_after net queues t p) j 0) new,
            entry_new queues t,
          )
      once_given (t ∷ order) queues i (suc k) b e =
          omega (
            arith,
            none_yet queues t i (omega arith),
            once_given order (queues_after net queues t) i k (le_of_suc-le-suc b) (omega (arith, queue_longer queues t)),
          )

-- ---- the process of an order
pub length_events : (net : Net) (order : List ℕ) → length (events net order) ≡ length order
unfolding events
length_events net order = events_length net order (start_queues net)

module _ (net : Net) (order : List ℕ) where
  -- the queues with i firings before
  abbrev pub queues_at : ℕ → Queues
  queues_at i = queues_behind net (take i order) (start_queues net)

  pub event_fires : (i : ℕ) → i < length order → (get_or (events net order) i no_event).fire ≡ get_or order i 0
  unfolding events
  event_fires i l = ap (λ (e : Event). e.fire) (event_at net order (start_queues net) i l)

  pub from_items : (i : ℕ) → i < length order → from_at net order i ≡ items_of (taken_by net (queues_at i) (get_or order i 0)) (arcs_of net).places
  unfolding events
  from_items i l = ap (λ (e : Event). e.from) (event_at net order (start_queues net) i l)

  -- the tokens left are those of the marking behind the order; and so behind its first firings, which are an order too
  pub left_sums : (p : ℕ) → p < (arcs_of net).places → tokens_of p (left net order) ≡ get_or (marking_after net (start_marking net) order) p 0
  unfolding left
  left_sums p l = tokens_items (queues_behind net order (start_queues net)) (arcs_of net).places p l ∙ start_sums net p order l

  -- every token given is taken once or left: so none is taken more often than given
  pub taken_once : (i p : ℕ) → i ≤ length order → p < (arcs_of net).places
      → taken_of i p (events net order) + produced_by i p (left net order) ≡ given_by net order i p
  unfolding events left
  taken_once i p b l =
      ap (λ (n : ℕ). taken_of i p (events net order) + n) (produced_items i p (queues_behind net order (start_queues net)) (arcs_of net).places l) ∙ go i b
    where
      go : (i : ℕ) → i ≤ length order
          → taken_of i p (events_from net order (start_queues net)) + get_or (queues_behind net order (start_queues net) p) i 0 ≡ given_by net order i p
      go zero b = once_held net p l order (start_queues net) 0 (omega arith)
      go (suc i) b = once_given net p l order (start_queues net) (suc i) i b (omega arith)

  -- ---- producers
  queue_at_length : (i p : ℕ) → i ≤ length order → length (queues_at i p) ≡ suc i
  queue_at_length i p l = omega (arith, queue_length net p (take i order) (start_queues net), length-take i order)

  -- the producers of the tokens that a firing takes come before it and gave them
  pub from_earlier : (i : ℕ) → i < length order → Each (Produced net order i) (from_at net order i)
  from_earlier i l =
      let taken = taken_by net (queues_at i) (get_or order i 0) in
      let items = from_items i l in
      rw items (each_items (Produced net order i) taken (arcs_of net).places (λ p j b c.
      let n = takes (arcs_of net) (get_or order i 0) p in
      let early : j ≤ i = omega (arith, entry_inside (taken p) j c, length_oldest n (queues_at i p), queue_at_length i p (omega arith)) in
      record {
        in_net = b;
        earlier = early;
        some = c;
        given = omega (
          arith,
          taken_once j p (omega arith) b,
          taken_one (events net order) j p i,
          ap (produced_by j p) items,
          produced_items j p taken (arcs_of net).places b,
        );
      }))

  pub left_earlier : Each (Produced net order (length order)) (left net order)
  unfolding left
  left_earlier =
      let stays = queues_behind net order (start_queues net) in
      each_items (Produced net order (length order)) stays (arcs_of net).places (λ p j b c.
      let early : j ≤ length order = omega (arith, entry_inside (stays p) j c, queue_length net p order (start_queues net)) in
      record {
        in_net = b;
        earlier = early;
        some = c;
        given = omega (arith, taken_once j p early b, produced_items j p stays (arcs_of net).places b);
      })

  -- places ascend, and producers within a place
  pub from_ascends : (i : ℕ) → i < length order → Ascending (from_at net order i)
  from_ascends i l = rw (from_items i l) (ascends (taken_by net (queues_at i) (get_or order i 0)) (arcs_of net).places)

  pub left_ascends : Ascending (left net order)
  unfolding left
  left_ascends = ascends (queues_behind net order (start_queues net)) (arcs_of net).places

  -- oldest first: what a firing takes of a place came no later than what is left in it, and than what later firings take of it
  pub left_last : (i : ℕ) → i < length order → Each (λ x. Each (CameNoLater x) (left net order)) (from_at net order i)
  unfolding left
  left_last i l =
      let taken = taken_by net (queues_at i) (get_or order i 0) in
      let stays = queues_behind net order (start_queues net) in
      rw (from_items i l)
      (each_items (λ x. Each (CameNoLater x) (items_of stays (arcs_of net).places)) taken (arcs_of net).places (λ p a b c.
      each_items (CameNoLater (item p a (get_or (taken p) a 0))) stays (arcs_of net).places (λ q k d h same.
      in_turn net p order (start_queues net) i a k l c (subst (λ (r : ℕ). 0 < get_or (stays r) k 0) (sym same) h))))

  pub oldest_first : (i j : ℕ) → i < j → j < length order → Each (λ x. Each (CameNoLater x) (from_at net order j)) (from_at net order i)
  oldest_first i j l b =
      let earlier = taken_by net (queues_at i) (get_or order i 0) in
      let later = taken_by net (queues_at j) (get_or order j 0) in
      let inside : i < length (take j order) = omega (arith, length-take j order) in
      let before : i ≤ j = omega arith in
      rw (from_items i (omega arith), from_items j b)
      (each_items (λ x. Each (CameNoLater x) (items_of later (arcs_of net).places)) earlier (arcs_of net).places (λ p a d c.
      each_items (CameNoLater (item p a (get_or (earlier p) a 0))) later (arcs_of net).places (λ q k e h same.
      let stands : 0 < get_or (queues_at j q) k 0 = omega (arith, cut_entry (takes (arcs_of net) (get_or order j 0) q) (queues_at j q) k) in
      in_turn net p (take j order) (start_queues net) i a k inside (rw (take-take i j order, get_or-take j order i 0) c)
      (subst (λ (r : ℕ). 0 < get_or (queues_at j r) k 0) (sym same) stands))))

-- ---- where the tokens allow the order
enabled_enough : (net : Net) (m : List ℕ) (t p : ℕ) → enabled (arcs_of net) m t ≡ true → p < (arcs_of net).places → takes (arcs_of net) t p ≤ get_or m p 0
unfolding enough
enabled_enough net m t p e l =
    let has : ℕ → Bool = λ p. leb (takes (arcs_of net) t p) (get_or m p 0) in
    leb-true (takes (arcs_of net) t p) (get_or m p 0)
    (all_at has p (arcs_of net).places ((and-eq-true_iff (ltb t (arcs_of net).transitions) (all_below has (arcs_of net).places)).0 e).1 l)

-- each firing finds its transition enabled
pub allowed_enabled : (net : Net) (order m : List ℕ) (n i : ℕ) → tokens net order m n ≡ Passed → i < length order
    → enabled (arcs_of net) (marking_after net m (take i order)) (get_or order i 0) ≡ true
unfolding tokens marking_after
allowed_enabled net [] m n i e l = absurd (not-suc-le-zero l)
allowed_enabled net (t ∷ order) m n zero e l =
    (tokens_passed net m t (n + 1) (also_first (tokens_judged net m t (n + 1)) (tokens net order (after (arcs_of net) m t) (n + 1)) e)).0
allowed_enabled net (t ∷ order) m n (suc i) e l =
    let rest = tokens net order (after (arcs_of net) m t) (n + 1) in
    allowed_enabled net order (after (arcs_of net) m t) (n + 1) i (also_second (tokens_judged net m t (n + 1)) rest e) (le_of_suc-le-suc l)

-- the items of a firing are the tokens that its transition takes
pub from_sums : (net : Net) (order : List ℕ) → tokens net order (start_marking net) 0 ≡ Passed
    → (i p : ℕ) → i < length order → p < (arcs_of net).places → tokens_of p (from_at net order i) ≡ takes (arcs_of net) (get_or order i 0) p
from_sums net order allowed i p l b =
    let t = get_or order i 0 in
    let taken = taken_by net (queues_at net order i) t in
    rw (from_items net order i l)
    (omega (
      arith,
      tokens_items taken (arcs_of net).places p b,
      total_oldest (takes (arcs_of net) t p) (queues_at net order i p),
      start_sums net p (take i order) b,
      enabled_enough net (marking_after net (start_marking net) (take i order)) t p (allowed_enabled net order (start_marking net) 0 i allowed l) b,
    ))
