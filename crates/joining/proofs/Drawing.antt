-- Where the second net's places stand on the drawing, and that the joined net has there what they have.
use Prim.Native.Nat.{ℕ, zero, suc, ◌+◌, ◌-◌, ◌*◌, ◌<◌, suc-le-suc}
use native.Mathlib.Nat.{not-suc-le-zero, le_of_suc-le-suc}
use native.Mathlib.Omega.{arith}
use native.Mathlib.Decide.{dec_lt}
use mathlib.Core.Path.{◌≡◌, refl, sym, ap, subst, ◌∙◌}
use mathlib.Core.Bool.{Bool, true, false, cond, ◌||◌}
use mathlib.Core.List.{List, [], ◌∷◌}
use mathlib.Core.Option.{Option, none, some}
use lib.ListN.{length, get_or}
use lib.Dec.{eqb}
use borrow.Author.Tests.{eqb-true, eqb-false, eq-eqb, ne_eqb}
use Rattle.laws.specs.Each.{each_at}
use Rattle.reply.specs.Respond.{Passed}
use Rattle.net.specs.declared.Net.{Net}
use Rattle.net.specs.Net.{net_card}
use Rattle.net.proofs.Card.{net_places}
use Rattle.joining.specs.Joining.{pairs_of, firsts, seconds, among, distinct_places, partner, unpaired, sources, joined_net, join_checked}
use Rattle.joining.specs.Claims.{Unpaired, OnOneDrawing}
use Rattle.joining.specs.Request.{JoinedParts}
use Rattle.joining.proofs.Pairing.{length_pairs}
use Rattle.joining.proofs.Counting.{among_exactly, named_below, not_among, none_among, distinct_next, pairs_passed, unpaired_count}
use Rattle.joining.proofs.Counting.{count_less, unpaired_there, unpaired_at, first_number, second_number, listed_at, pair_of, starts_exactly}
use Rattle.joining.proofs.Layouts.{sources_first}
use Rattle.joining.proofs.JoinedNet.{source_second}
use Rattle.joining.proofs.JoinedNet as net
use Rattle.joining.proofs.Joins.{checks_passed, joined_exactly}

-- ---- partners
-- the first net's place that q is paired with, n if there is none
unfoldable pub paired_with : List (ℕ × ℕ) → ℕ → ℕ → ℕ
paired_with [] n q = n
paired_with (v ∷ vs) n q = cond (eqb v.1 q) v.0 (paired_with vs n q)

-- places that are named once have the partners that their pair says
partner_there : (n : ℕ) (vs : List (ℕ × ℕ)) → distinct_places n (firsts vs) ≡ true → (i : ℕ) → i < length vs
    → partner vs (get_or vs i (0, 0)).0 ≡ some (get_or vs i (0, 0)).1
unfolding partner
partner_there n [] e i h = absurd (not-suc-le-zero h)
partner_there n (v ∷ vs) e zero h = rw (eq-eqb v.0 v.0 refl) refl
partner_there n (v ∷ vs) e (suc i) h =
    let d = distinct_next n v.0 (firsts vs) e in
    let l = le_of_suc-le-suc h in
    rw (ne_eqb v.0 (get_or vs i (0, 0)).0 (λ q. not_among v.0 (firsts vs) d.1 (listed_at (λ (x : ℕ × ℕ). x.0) vs i l (sym q))))
    (partner_there n vs d.2 i l)

paired_there : (n m : ℕ) (vs : List (ℕ × ℕ)) → distinct_places n (seconds vs) ≡ true → (i : ℕ) → i < length vs
    → paired_with vs m (get_or vs i (0, 0)).1 ≡ (get_or vs i (0, 0)).0
unfolding paired_with
paired_there n m [] e i h = absurd (not-suc-le-zero h)
paired_there n m (v ∷ vs) e zero h = rw (eq-eqb v.1 v.1 refl) refl
paired_there n m (v ∷ vs) e (suc i) h =
    let d = distinct_next n v.1 (seconds vs) e in
    let l = le_of_suc-le-suc h in
    rw (ne_eqb v.1 (get_or vs i (0, 0)).1 (λ q. not_among v.1 (seconds vs) d.1 (listed_at (λ (x : ℕ × ℕ). x.1) vs i l (sym q))))
    (paired_there n m vs d.2 i l)

-- a partner comes of a pair, and a place that is in no pair has none
partner_from : (vs : List (ℕ × ℕ)) (p q : ℕ) → partner vs p ≡ some q → (i : ℕ) × (i < length vs) × (get_or vs i (0, 0) ≡ (p, q))
unfolding partner
partner_from [] p q e = let z : ◌≡◌ {A = ℕ} 0 1 = cc in absurd (omega arith)
partner_from (v ∷ vs) p q e = go (eqb v.0 p) refl e (partner_from vs p q)
  where
    go : (t : Bool) → eqb v.0 p ≡ t → cond t (some v.1) (partner vs p) ≡ some q
        → (partner vs p ≡ some q → (i : ℕ) × (i < length vs) × (get_or vs i (0, 0) ≡ (p, q)))
        → (i : ℕ) × (i < suc (length vs)) × (get_or (v ∷ vs) i (0, 0) ≡ (p, q))
    go true t e later = let same : v.1 ≡ q = cc in (0, omega arith, λ k. (eqb-true v.0 p t k, same k))
    go false t e later = let h = later e in (suc h.0, suc-le-suc h.1, h.2)

paired_none : (n q : ℕ) (vs : List (ℕ × ℕ)) → among q (seconds vs) ≡ false → paired_with vs n q ≡ n
unfolding paired_with among
paired_none n q [] e = refl
paired_none n q (v ∷ vs) e = go (eqb q v.1) refl e (paired_none n q vs)
  where
    go : (t : Bool) → eqb q v.1 ≡ t → (t || among q (seconds vs)) ≡ false → (among q (seconds vs) ≡ false → paired_with vs n q ≡ n)
        → cond (eqb v.1 q) v.0 (paired_with vs n q) ≡ n
    go true t e later = let z : ◌≡◌ {A = ℕ} 0 1 = cc in absurd (omega arith)
    go false t e later = rw (ne_eqb v.1 q (λ s. eqb-false q v.1 t (sym s))) (later e)

-- ---- where the second net's places stand
module _ (vs : List (ℕ × ℕ)) (places : ℕ) where
  -- at the partner, or behind the first net's places and those of its own in no pair that come before
  abbrev pub place_of : ℕ → ℕ
  place_of q = paired_with vs (places + length (unpaired vs q)) q

  pub alone_behind : (q : ℕ) → among q (seconds vs) ≡ false → place_of q ≡ places + length (unpaired vs q)
  alone_behind q = paired_none (places + length (unpaired vs q)) q vs

  module _ (others : ℕ) (one : distinct_places places (firsts vs) ≡ true) (other : distinct_places others (seconds vs) ≡ true) where
    pub partner_place : (i : ℕ) → i < length vs → place_of (get_or vs i (0, 0)).1 ≡ (get_or vs i (0, 0)).0
    partner_place i h = paired_there others (places + length (unpaired vs (get_or vs i (0, 0)).1)) vs other i h

    first_below : (i : ℕ) → i < length vs → (get_or vs i (0, 0)).0 < places
    first_below = each_at (λ (v : ℕ × ℕ). v.0 < places) (0, 0) vs (named_below (λ (v : ℕ × ℕ). v.0) places vs one)

    second_below : (i : ℕ) → i < length vs → (get_or vs i (0, 0)).1 < others
    second_below = each_at (λ (v : ℕ × ℕ). v.1 < others) (0, 0) vs (named_below (λ (v : ℕ × ℕ). v.1) others vs other)

    -- a fact of each place: of those in a pair, and of those in none
    pub each_place : (P : ℕ → Type 0) → ((i : ℕ) → i < length vs → P (get_or vs i (0, 0)).1)
        → ((q : ℕ) → q < others → among q (seconds vs) ≡ false → P q) → (q : ℕ) → q < others → P q
    each_place P f g q h = go (among q (seconds vs)) refl
      where
        go : (t : Bool) → among q (seconds vs) ≡ t → P q
        go true t = let (i, l, e) = pair_of (λ (v : ℕ × ℕ). v.1) vs ((among_exactly q (seconds vs)).0 t) in subst P e (f i l)
        go false t = g q h t

    pub place_below : (q : ℕ) → q < others → place_of q < places + length (unpaired vs others)
    place_below =
        each_place (λ q. place_of q < places + length (unpaired vs others)) (λ i l. omega (arith, partner_place i l, first_below i l))
        (λ q h e. omega (arith, alone_behind q e, count_less vs q others h e))

    -- each stands there
    pub source_there : (q : ℕ) → q < others → get_or (sources vs places others) (place_of q) none ≡ some q
    source_there =
        each_place (λ q. get_or (sources vs places others) (place_of q) none ≡ some q)
        (λ i l. rw (partner_place i l) (sources_first vs places others (get_or vs i (0, 0)).0 (first_below i l) ∙ partner_there places vs one i l))
        (λ q h e.
        rw (alone_behind q e)
        (source_second vs places others (length (unpaired vs q)) (count_less vs q others h e) ∙ ap some (unpaired_there vs others q h e)))

    -- and nothing elsewhere
    pub source_else : (p : ℕ) → p < places + length (unpaired vs others) → ((q : ℕ) → q < others → place_of q ≡ p → ⊥)
        → get_or (sources vs places others) p none ≡ none
    source_else p h n = go (dec_lt p places)
      where
        paired : (o : Option ℕ) → partner vs p ≡ o → o ≡ none
        paired none e = refl
        paired (some q) e =
            let (i, l, v) = partner_from vs p q e in
            absurd (n (get_or vs i (0, 0)).1 (second_below i l) (partner_place i l ∙ ap (λ (x : ℕ × ℕ). x.0) v))

        go : Dec (p < places) → get_or (sources vs places others) p none ≡ none
        go (yes c) = sources_first vs places others p c ∙ paired (partner vs p) refl
        go (no c) =
            let q = unpaired_at vs others (p - places) (omega arith) in
            absurd (n q.place q.below (omega (arith, alone_behind q.place q.alone, q.behind)))

-- ---- the drawing
-- a place that no pair of the list names
pub unpaired_alone : (list : List ℕ) (q : ℕ) → Unpaired list q → among q (seconds (pairs_of list)) ≡ false
unpaired_alone list q n =
    none_among q (seconds (pairs_of list)) (λ l.
    let (i, h, e) = pair_of (λ (v : ℕ × ℕ). v.1) (pairs_of list) l in
    n i (omega (arith, length_pairs list)) (second_number list i h ∙ e))

pub drawn : (a b : Net) (list : List ℕ) → net_card.check a 1 ≡ Passed → net_card.check b 1 ≡ Passed → join_checked a b list ≡ Passed
    → OnOneDrawing a b list (joined_net a b (pairs_of list))
drawn a b list first second e =
    let vs = pairs_of list in
    let P = a.places in
    let Q = b.places in
    let few = (net_places a first).1 in
    let less = (net_places b second).1 in
    let c = checks_passed a b list e in
    let (even, one, other) = pairs_passed P Q list c.pairs in
    let starts = (starts_exactly a.start b.start vs).0 c.starts in
    let index : (i : ℕ) → 2 * i + 1 < length list → i < length vs = λ i h. omega (arith, length_pairs list) in
    let at = place_of vs P in
    let below = place_below vs P Q one other in
    let there = source_there vs P Q one other in
    record {
      sheet = refl;
      places = omega (arith, unpaired_count Q vs other, length_pairs list);
      transitions = refl;
      at = at;
      paired = λ i h.
          let l = index i h in
          rw (first_number list i l, second_number list i l) (partner_place vs P Q one other i l);
      behind = λ q h u. let alone = alone_behind vs P q (unpaired_alone list q u) in (omega arith, below q h);
      in_order = λ q r h l u w.
          let s = unpaired_alone list q u in
          let t = unpaired_alone list r w in
          omega (arith, alone_behind vs P q s, alone_behind vs P r t, count_less vs q r h s);
      first_start = net.first_start a b vs;
      second_start =
          each_place vs P Q one other (λ q. get_or (joined_net a b vs).start (at q) 0 ≡ get_or b.start q 0)
          (λ i l.
          rw (partner_place vs P Q one other i l)
          (net.first_start a b vs (get_or vs i (0, 0)).0 (first_below vs P Q one other i l) ∙ starts i l))
          (λ q h alone.
          rw (alone_behind vs P q alone)
          (net.second_start a b vs (length (unpaired vs q)) (count_less vs q Q h alone)
          ∙ ap (λ (n : ℕ). get_or b.start n 0) (unpaired_there vs Q q h alone)));
      first_interval = net.first_interval a b vs c.few c.short;
      first_take = λ t p h l. net.first_take a b vs c.few c.short t h p (omega arith) l;
      first_give = λ t p h l. net.first_give a b vs c.few c.short t h p (omega arith) l;
      first_else = λ t p h past l. net.first_else a b vs c.few c.short t h p (omega (arith, c.few)) past;
      second_interval = net.second_interval a b vs c.few c.short;
      second_take = λ t q h l.
          net.second_take a b vs c.few c.short t h (at q) (omega (arith, c.few, below q l)) q (omega arith) (there q l);
      second_give = λ t q h l.
          net.second_give a b vs c.few c.short t h (at q) (omega (arith, c.few, below q l)) q (omega arith) (there q l);
      second_else = λ t p h l n. net.second_else a b vs c.few c.short t h p (omega (arith, c.few)) (source_else vs P Q one other p l n);
    }

pub joined_parts : JoinedParts
joined_parts a b j list h =
    let (first, second, passed, e) = (joined_exactly a b j list).0 h in
    subst (OnOneDrawing a b list) (sym e) (drawn a b list first second passed)
