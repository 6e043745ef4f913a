-- The joined net, entry by entry. It is clean, and it is the same for parts that agree in all that counts.
use Prim.Native.Nat.{ℕ, ◌+◌, ◌-◌, ◌≤◌, ◌<◌, min}
use native.Mathlib.Nat.{min-eq_left}
use native.Mathlib.Omega.{arith}
use native.Mathlib.Decide.{dec_lt}
use mathlib.Core.Path.{◌≡◌, refl, sym, ap, ◌∙◌}
use mathlib.Core.Bool.{Bool, true, false, cond}
use mathlib.Core.List.{List, [], ◌∷◌, ◌++◌, map, map-id}
use mathlib.Core.Option.{Option, none, some}
use lib.ListN.{length, get_or, replicate, length-map, length-append, length-replicate, get_or-append, get_or-eq_default, get_or-map}
use lib.Seq.{ext_get_or, get_or-append-add}
use lib.Dec.{eqb}
use Rattle.laws.specs.Arrays.{filled, length_filled, filled_at, filled_past}
use Rattle.laws.specs.Each.{Each, each_append, each_image, each_replicate}
use Rattle.laws.specs.Slots.{first_of, pad_to, length_first, get_d_first, get_d_within, length_pad, get_d_padded, get_d_kept, first_pad, first_same, mapped_same}
use Rattle.form.specs.Line.{items}
use Rattle.net.specs.declared.Net.{Net}
use Rattle.net.specs.Net.{Row, row, no_row, no_transition, takes_in, gives_in, row_at, rows_of, to_net, net_card}
use Rattle.net.specs.Same.{SameNet}
use Rattle.net.proofs.Rows.{Full, take_there, give_there, sixteen_at, row_there, rows_back}
use Rattle.joining.specs.Joining.{partner, unpaired, own_places, sources, weight_at, moved_row, joined_start, joined_rows, joined_net}
use Rattle.joining.proofs.Layouts.{length_sources, sources_first}
use Rattle.joining.proofs.Counting.{unpaired_at}

-- ---- lists
-- a padded list holds what it held, and behind a list of n elements stands the next
module _ {A : Type 0} (d : A) where
  pad_there : (size : ℕ) (l : List A) (i : ℕ) → get_or (pad_to size d l) i d ≡ get_or l i d
  pad_there size l i = get_d_padded l (size - length l) d i

  next_there : (l m : List A) (n i : ℕ) → length l ≡ n → get_or (l ++ m) (n + i) d ≡ get_or m i d
  next_there l m n i e = rw (← e) (get_or-append-add l m i d)

  -- cut behind the list and padded again it is what it was
  pad_again : (n size : ℕ) (l : List A) → length l ≤ n → n ≤ size → pad_to size d (first_of n d (pad_to size d l)) ≡ pad_to size d l
  pad_again n size l h k =
      let m = first_of n d (pad_to size d l) in
      ext_get_or d (pad_to size d m) (pad_to size d l)
      (length_pad size d m (omega (arith, length_first n d (pad_to size d l))) ∙ sym (length_pad size d l (omega arith)))
      (λ i b. go i (dec_lt i n))
    where
      go : (i : ℕ) → Dec (i < n) → get_or (pad_to size d (first_of n d (pad_to size d l))) i d ≡ get_or (pad_to size d l) i d
      go i (yes c) = get_d_kept n size d (pad_to size d l) i c
      go i (no c) =
          let m = first_of n d (pad_to size d l) in
          pad_there size m i
          ∙ get_or-eq_default m d {n = i} (omega (arith, length_first n d (pad_to size d l)))
          ∙ sym (pad_there size l i ∙ get_or-eq_default l d {n = i} (omega arith))

-- what changes no element changes nothing
map_idle : {A : Type 0} (f : A → A) (l : List A) → Each (λ x. f x ≡ x) l → map f l ≡ l
map_idle f [] h = refl
map_idle f (x ∷ l) h = λ i. h.0 i ∷ map_idle f l h.1 i

-- ---- the places of a joined net
-- the first net's keep their numbers
module _ (places : ℕ) where
  pub length_own : length (own_places places) ≡ places
  unfolding own_places
  length_own = length_filled some (replicate places none) places ∙ length-replicate {A = Option ℕ} places none

  pub own_at : (p : ℕ) → p < places → get_or (own_places places) p none ≡ some p
  unfolding own_places
  own_at p h = filled_at some (replicate places none) none places p h (omega (arith, length-replicate {A = Option ℕ} places none))

  pub own_past : (p : ℕ) → places ≤ p → get_or (own_places places) p none ≡ none
  own_past p h = get_or-eq_default (own_places places) none {n = p} (omega (arith, length_own))

-- the second's that are in no pair stand behind them
pub source_second : (vs : List (ℕ × ℕ)) (places others i : ℕ) → i < length (unpaired vs others)
    → get_or (sources vs places others) (places + i) none ≡ some (get_or (unpaired vs others) i 0)
unfolding sources
source_second vs places others i h =
    let l = unpaired vs others in
    let partners = filled (partner vs) places (replicate places none) in
    let long : length partners ≡ places = length_filled (partner vs) (replicate places none) places ∙ length-replicate {A = Option ℕ} places none in
    next_there none partners (map some l) places i long
    ∙ get_d_within (map some l) i none (some 0) (omega (arith, length-map l (λ (q : ℕ). some q)))
    ∙ get_or-map some l i 0

-- each is one of the places of its net
abbrev pub Within : ℕ → Option ℕ → Type 0
Within n none = Unit {0}
Within n (some q) = q < n

pub own_within : (places i : ℕ) → Within places (get_or (own_places places) i none)
own_within places i = go (dec_lt i places)
  where
    go : Dec (i < places) → Within places (get_or (own_places places) i none)
    go (yes h) = rw (own_at places i h) h
    go (no h) = rw (own_past places i (omega arith)) tt

partner_within : (n : ℕ) (vs : List (ℕ × ℕ)) → Each (λ v. v.1 < n) vs → (p : ℕ) → Within n (partner vs p)
unfolding partner
partner_within n [] h p = tt
partner_within n (v ∷ vs) h p = go (eqb v.0 p) (partner_within n vs h.1 p)
  where
    go : (t : Bool) → Within n (partner vs p) → Within n (cond t (some v.1) (partner vs p))
    go true later = h.0
    go false later = later

pub source_within : (vs : List (ℕ × ℕ)) (places others : ℕ) → Each (λ v. v.1 < others) vs → (i : ℕ) → Within others (get_or (sources vs places others) i none)
source_within vs places others h i = go (dec_lt i places) (dec_lt (i - places) (length (unpaired vs others)))
  where
    go : Dec (i < places) → Dec (i - places < length (unpaired vs others)) → Within others (get_or (sources vs places others) i none)
    go (yes c) d = rw (sources_first vs places others i c) (partner_within others vs h i)
    go (no c) (yes d) =
        let e : places + (i - places) ≡ i = omega arith in
        let q = unpaired_at vs others (i - places) d in
        rw (← e, source_second vs places others (i - places) d, q.here) q.below
    go (no c) (no d) =
        rw (get_or-eq_default (sources vs places others) none {n = i} (omega (arith, length_sources vs places others))) tt

-- ---- rows at the places of a joined net
-- a weight is that of the place which stands there
moved_weight : (at : List (Option ℕ)) (w : List ℕ) (p : ℕ) → get_or (pad_to 16 0 (map (weight_at w) at)) p 0 ≡ weight_at w (get_or at p none)
moved_weight at w p = pad_there 0 16 (map (weight_at w) at) p ∙ get_or-map (weight_at w) at p none

-- rows that are full, and clean in a net that has these places
module _ (n : ℕ) (at : List (Option ℕ)) (h : length at ≤ n) (few : n ≤ 16) (r : Row) where
  moved_full : Full (moved_row at r)
  moved_full =
      let full : (w : List ℕ) → length (pad_to 16 0 (map (weight_at w) at)) ≡ 16 =
      λ w. length_pad 16 0 (map (weight_at w) at) (omega (arith, length-map at (weight_at w))) in
      (full r.take, full r.give)

  moved_clean : (row n).clean (moved_row at r) ≡ moved_row at r
  moved_clean =
      let all = min-eq_left few in
      let clean : (w : List ℕ) → (items n 16 0 255).clean (pad_to 16 0 (map (weight_at w) at)) ≡ pad_to 16 0 (map (weight_at w) at) =
      λ w. rw all (pad_again 0 n 16 (map (weight_at w) at) (omega (arith, length-map at (weight_at w))) few) in
      λ i. record { interval = r.interval; take = clean r.take i; give = clean r.give i }

-- the rows of a net
module _ (at : List (Option ℕ)) (n : Net) where
  abbrev pub moved_rows : List Row
  moved_rows = map (moved_row at) (first_of n.transitions no_row (rows_of n))

  pub length_moved : length moved_rows ≡ n.transitions
  length_moved = length-map (first_of n.transitions no_row (rows_of n)) (moved_row at) ∙ length_first n.transitions no_row (rows_of n)

  moved_at : (t : ℕ) → t < n.transitions → t < 32 → get_or moved_rows t no_row ≡ moved_row at (row_at n t)
  moved_at t h l =
      get_d_within moved_rows t no_row (moved_row at no_row) (omega (arith, length_moved))
      ∙ get_or-map (moved_row at) (first_of n.transitions no_row (rows_of n)) t no_row
      ∙ ap (moved_row at) (get_d_first n.transitions no_row (rows_of n) t h ∙ row_there n t l)

-- ---- the joined net: none too large
module _ (a b : Net) (vs : List (ℕ × ℕ)) where
  abbrev j : Net
  j = joined_net a b vs

  abbrev mine : List Row
  mine = moved_rows (own_places a.places) a

  abbrev other : List Row
  other = moved_rows (sources vs a.places b.places) b

  module _ (few : j.places ≤ 16) (short : j.transitions ≤ 32) where
    -- its rows
    module _ (t : ℕ) where
      first_row : t < a.transitions → get_or (joined_rows a b vs) t no_row ≡ moved_row (own_places a.places) (row_at a t)
      unfolding joined_rows
      first_row h =
          pad_there no_row 32 (mine ++ other) t
          ∙ get_or-append mine other no_row t (omega (arith, length_moved (own_places a.places) a))
          ∙ moved_at (own_places a.places) a t h (omega arith)

      second_row : t < b.transitions → get_or (joined_rows a b vs) (a.transitions + t) no_row ≡ moved_row (sources vs a.places b.places) (row_at b t)
      unfolding joined_rows
      second_row h =
          pad_there no_row 32 (mine ++ other) (a.transitions + t)
          ∙ next_there no_row mine other a.transitions t (length_moved (own_places a.places) a)
          ∙ moved_at (sources vs a.places b.places) b t h (omega arith)

      no_row_lem : j.transitions ≤ t → get_or (joined_rows a b vs) t no_row ≡ no_row
      unfolding joined_rows
      no_row_lem h =
          pad_there no_row 32 (mine ++ other) t
          ∙ get_or-eq_default (mine ++ other) no_row {n = t}
          (omega (arith, length-append mine other, length_moved (own_places a.places) a, length_moved (sources vs a.places b.places) b))

    -- the first net's transitions
    module _ (t : ℕ) (h : t < a.transitions) where
      pub first_interval : get_or j.table t no_transition ≡ get_or a.table t no_transition
      first_interval = get_or-map (λ (r : Row). r.interval) (joined_rows a b vs) t no_row ∙ ap (λ (r : Row). r.interval) (first_row t h)

      module _ (p : ℕ) (l : p < 16) where
        pub first_weights : (takes_in j.take t p ≡ weight_at (row_at a t).take (get_or (own_places a.places) p none))
            × (gives_in j.give t p ≡ weight_at (row_at a t).give (get_or (own_places a.places) p none))
        first_weights = (
          take_there (joined_rows a b vs) t p (omega arith) l
              ∙ ap (λ (r : Row). get_or r.take p 0) (first_row t h)
              ∙ moved_weight (own_places a.places) (row_at a t).take p,
          give_there (joined_rows a b vs) t p (omega arith) l
              ∙ ap (λ (r : Row). get_or r.give p 0) (first_row t h)
              ∙ moved_weight (own_places a.places) (row_at a t).give p,
        )

        pub first_take : p < a.places → takes_in j.take t p ≡ takes_in a.take t p
        first_take own = first_weights.0 ∙ rw (own_at a.places p own) (sixteen_at (takes_in a.take t) p l)

        pub first_give : p < a.places → gives_in j.give t p ≡ gives_in a.give t p
        first_give own = first_weights.1 ∙ rw (own_at a.places p own) (sixteen_at (gives_in a.give t) p l)

        pub first_else : a.places ≤ p → (takes_in j.take t p ≡ 0) × (gives_in j.give t p ≡ 0)
        first_else past = let e = own_past a.places p past in (first_weights.0 ∙ rw e refl, first_weights.1 ∙ rw e refl)

    -- the second's, at the places where its own stand
    module _ (t : ℕ) (h : t < b.transitions) where
      pub second_interval : get_or j.table (a.transitions + t) no_transition ≡ get_or b.table t no_transition
      second_interval =
          get_or-map (λ (r : Row). r.interval) (joined_rows a b vs) (a.transitions + t) no_row ∙ ap (λ (r : Row). r.interval) (second_row t h)

      module _ (p : ℕ) (l : p < 16) where
        pub second_weights : (takes_in j.take (a.transitions + t) p ≡ weight_at (row_at b t).take (get_or (sources vs a.places b.places) p none))
            × (gives_in j.give (a.transitions + t) p ≡ weight_at (row_at b t).give (get_or (sources vs a.places b.places) p none))
        second_weights = (
          take_there (joined_rows a b vs) (a.transitions + t) p (omega arith) l
              ∙ ap (λ (r : Row). get_or r.take p 0) (second_row t h)
              ∙ moved_weight (sources vs a.places b.places) (row_at b t).take p,
          give_there (joined_rows a b vs) (a.transitions + t) p (omega arith) l
              ∙ ap (λ (r : Row). get_or r.give p 0) (second_row t h)
              ∙ moved_weight (sources vs a.places b.places) (row_at b t).give p,
        )

        module _ (q : ℕ) (k : q < 16) (e : get_or (sources vs a.places b.places) p none ≡ some q) where
          pub second_take : takes_in j.take (a.transitions + t) p ≡ takes_in b.take t q
          second_take = second_weights.0 ∙ rw e (sixteen_at (takes_in b.take t) q k)

          pub second_give : gives_in j.give (a.transitions + t) p ≡ gives_in b.give t q
          second_give = second_weights.1 ∙ rw e (sixteen_at (gives_in b.give t) q k)

        pub second_else : get_or (sources vs a.places b.places) p none ≡ none
            → (takes_in j.take (a.transitions + t) p ≡ 0) × (gives_in j.give (a.transitions + t) p ≡ 0)
        second_else e = (second_weights.0 ∙ rw e refl, second_weights.1 ∙ rw e refl)

    -- and no others
    module _ (t : ℕ) (past : j.transitions ≤ t) (l : t < 32) where
      pub past_weights : (p : ℕ) → p < 16 → (takes_in j.take t p ≡ 0) × (gives_in j.give t p ≡ 0)
      past_weights p k = (
        take_there (joined_rows a b vs) t p l k ∙ ap (λ (r : Row). get_or r.take p 0) (no_row_lem t past) ∙ get_d_padded [] 16 0 p,
        give_there (joined_rows a b vs) t p l k ∙ ap (λ (r : Row). get_or r.give p 0) (no_row_lem t past) ∙ get_d_padded [] 16 0 p,
      )

  -- its start
  abbrev tokens : List ℕ
  tokens = first_of a.places 0 a.start ++ map (λ q. get_or b.start q 0) (unpaired vs b.places)

  length_tokens : length tokens ≡ j.places
  length_tokens =
      let others = unpaired vs b.places in
      let first = first_of a.places 0 a.start in
      omega (
        arith,
        length-append first (map (λ q. get_or b.start q 0) others),
        length_first a.places 0 a.start,
        length-map others (λ q. get_or b.start q 0),
      )

  pub first_start : (p : ℕ) → p < a.places → get_or j.start p 0 ≡ get_or a.start p 0
  unfolding joined_start
  first_start p h =
      let first = first_of a.places 0 a.start in
      pad_there 0 16 tokens p
      ∙ get_or-append first (map (λ q. get_or b.start q 0) (unpaired vs b.places)) 0 p (omega (arith, length_first a.places 0 a.start))
      ∙ get_d_first a.places 0 a.start p h

  pub second_start : (i : ℕ) → i < length (unpaired vs b.places)
      → get_or j.start (a.places + i) 0 ≡ get_or b.start (get_or (unpaired vs b.places) i 0) 0
  unfolding joined_start
  second_start i h =
      let others = unpaired vs b.places in
      let start : ℕ → ℕ = λ q. get_or b.start q 0 in
      pad_there 0 16 tokens (a.places + i)
      ∙ next_there 0 (first_of a.places 0 a.start) (map start others) a.places i (length_first a.places 0 a.start)
      ∙ get_d_within (map start others) i 0 (start 0) (omega (arith, length-map others start))
      ∙ get_or-map start others i 0

  pub past_start : (p : ℕ) → j.places ≤ p → get_or j.start p 0 ≡ 0
  unfolding joined_start
  past_start p h = pad_there 0 16 tokens p ∙ get_or-eq_default tokens 0 {n = p} (omega (arith, length_tokens))

  -- ---- its card
  length_rows : length (mine ++ other) ≡ j.transitions
  length_rows = omega (arith, length-append mine other, length_moved (own_places a.places) a, length_moved (sources vs a.places b.places) b)

  module _ (few : j.places ≤ 16) (short : j.transitions ≤ 32) where
    -- a fact of each row that is moved
    each_row : (P : Row → Type 0) → ((at : List (Option ℕ)) → length at ≤ j.places → (r : Row) → P (moved_row at r)) → Each P (mine ++ other)
    each_row P h =
        each_append P mine other
        (each_image P (moved_row (own_places a.places)) (h (own_places a.places) (omega (arith, length_own a.places)))
        (first_of a.transitions no_row (rows_of a)))
        (each_image P (moved_row (sources vs a.places b.places))
        (h (sources vs a.places b.places) (omega (arith, length_sources vs a.places b.places)))
        (first_of b.transitions no_row (rows_of b)))

    -- its rows are those of which it was made
    pub joined_rows_back : rows_of j ≡ pad_to 32 no_row (mine ++ other)
    unfolding joined_rows
    joined_rows_back =
        rows_back a.sheet j.places j.transitions (joined_start a b vs) (pad_to 32 no_row (mine ++ other))
        (length_pad 32 no_row (mine ++ other) (omega (arith, length_rows)))
        (each_append Full (mine ++ other) (replicate (32 - length (mine ++ other)) no_row) (each_row Full (λ at h r. moved_full j.places at h few r))
        (each_replicate Full no_row (refl, refl) (32 - length (mine ++ other))))

    -- those that count
    counted_rows : first_of (min j.transitions 32) no_row (rows_of j) ≡ mine ++ other
    counted_rows =
        ap (first_of (min j.transitions 32) no_row) joined_rows_back
        ∙ first_pad (min j.transitions 32) 32 no_row (mine ++ other) (length_rows ∙ sym (min-eq_left short))

    counted_tokens : first_of (min j.places 16) 0 j.start ≡ tokens
    unfolding joined_start
    counted_tokens = first_pad (min j.places 16) 16 0 tokens (length_tokens ∙ sym (min-eq_left few))

    pub joined_clean : net_card.clean j ≡ j
    unfolding joined_start joined_rows
    joined_clean =
        let start : pad_to 16 0 (map (λ (n : ℕ). n) (first_of (min j.places 16) 0 j.start)) ≡ pad_to 16 0 tokens =
        ap (λ (l : List ℕ). pad_to 16 0 (map (λ (n : ℕ). n) l)) counted_tokens
        ∙ ap (pad_to 16 0) (map-id tokens) in
        let rows : pad_to 32 no_row (map (row j.places).clean (first_of (min j.transitions 32) no_row (rows_of j))) ≡ pad_to 32 no_row (mine ++ other) =
        ap (λ (l : List Row). pad_to 32 no_row (map (row j.places).clean l)) counted_rows
        ∙ ap (pad_to 32 no_row) (map_idle (row j.places).clean (mine ++ other)
        (each_row (λ (r : Row). (row j.places).clean r ≡ r) (λ at h r. moved_clean j.places at h few r))) in
        λ i. to_net (a.sheet, (j.places, (j.transitions, (start i, rows i))))

-- ---- nets that agree in all that counts
-- weights at places of their net
weights_same : (n : ℕ) (at : List (Option ℕ)) (w w' : List ℕ) → ((i : ℕ) → Within n (get_or at i none)) → ((q : ℕ) → q < n → get_or w q 0 ≡ get_or w' q 0)
    → map (weight_at w) at ≡ map (weight_at w') at
weights_same n at w w' h same =
    ext_get_or 0 (map (weight_at w) at) (map (weight_at w') at) (length-map at (weight_at w) ∙ sym (length-map at (weight_at w')))
    (λ i b. get_or-map (weight_at w) at i none ∙ go (get_or at i none) (h i) ∙ sym (get_or-map (weight_at w') at i none))
  where
    go : (o : Option ℕ) → Within n o → weight_at w o ≡ weight_at w' o
    go none k = refl
    go (some q) k = same q k

sixteen_same : (f g : ℕ → ℕ) (p : ℕ) → f p ≡ g p → get_or (filled f 16 (replicate 16 0)) p 0 ≡ get_or (filled g 16 (replicate 16 0)) p 0
sixteen_same f g p e = go (dec_lt p 16)
  where
    past : (f : ℕ → ℕ) → 16 ≤ p → get_or (filled f 16 (replicate 16 0)) p 0 ≡ 0
    past f h = filled_past f (replicate 16 0) 0 16 p h ∙ get_d_padded [] 16 0 p

    go : Dec (p < 16) → get_or (filled f 16 (replicate 16 0)) p 0 ≡ get_or (filled g 16 (replicate 16 0)) p 0
    go (yes h) = sixteen_at f p h ∙ e ∙ sym (sixteen_at g p h)
    go (no h) = past f (omega arith) ∙ sym (past g (omega arith))

module _ {a c : Net} (s : SameNet a c) (at : List (Option ℕ)) (h : (i : ℕ) → Within c.places (get_or at i none)) where
  moved_same : moved_rows at a ≡ moved_rows at c
  unfolding rows_of
  moved_same =
      ap (λ (n : ℕ). map (moved_row at) (first_of n no_row (rows_of a))) s.transitions
      ∙ mapped_same (moved_row at) c.transitions no_row (rows_of a) (rows_of c) (λ t b. go t b (dec_lt t 32))
    where
      past : (n : Net) (t : ℕ) → 32 ≤ t → get_or (rows_of n) t no_row ≡ no_row
      past n t l = filled_past (row_at n) (replicate 32 no_row) no_row 32 t l ∙ get_d_padded [] 32 no_row t

      go : (t : ℕ) → t < c.transitions → Dec (t < 32) → moved_row at (get_or (rows_of a) t no_row) ≡ moved_row at (get_or (rows_of c) t no_row)
      go t b (yes l) =
          let take = weights_same c.places at (row_at a t).take (row_at c t).take h
          (λ q k. sixteen_same (takes_in a.take t) (takes_in c.take t) q (s.take t q b k)) in
          let give = weights_same c.places at (row_at a t).give (row_at c t).give h
          (λ q k. sixteen_same (gives_in a.give t) (gives_in c.give t) q (s.give t q b k)) in
          ap (moved_row at) (row_there a t l)
          ∙ (λ i. record { interval = s.table t b i; take = pad_to 16 0 (take i); give = pad_to 16 0 (give i) })
          ∙ sym (ap (moved_row at) (row_there c t l))
      go t b (no l) = ap (moved_row at) (past a t (omega arith) ∙ sym (past c t (omega arith)))

-- what is asked of each of the unpaired places
unpaired_same : (vs : List (ℕ × ℕ)) (n : ℕ) (f g : ℕ → ℕ) → ((q : ℕ) → q < n → f q ≡ g q) → map f (unpaired vs n) ≡ map g (unpaired vs n)
unpaired_same vs n f g h =
    let l = unpaired vs n in
    ext_get_or (f 0) (map f l) (map g l) (length-map l f ∙ sym (length-map l g))
    (λ i b.
    let k : i < length l = omega (arith, length-map l f) in
    let q = unpaired_at vs n i k in
    get_or-map f l i 0 ∙ h (get_or l i 0) (omega (arith, q.here, q.below)) ∙ sym (get_or-map g l i 0)
    ∙ get_d_within (map g l) i (g 0) (f 0) (omega (arith, length-map l g)))

pub joined_same : {a b c d : Net} (vs : List (ℕ × ℕ)) → Each (λ v. v.1 < d.places) vs → SameNet a c → SameNet b d → joined_net a b vs ≡ joined_net c d vs
unfolding joined_start joined_rows
joined_same {a} {b} {c} {d} vs named s u =
    let tokens : first_of c.places 0 a.start ≡ first_of c.places 0 c.start =
    first_same c.places 0 a.start c.start s.start in
    let others = unpaired_same vs d.places (λ q. get_or b.start q 0) (λ q. get_or d.start q 0) u.start in
    let mine = moved_same s (own_places c.places) (own_within c.places) in
    let other = moved_same u (sources vs c.places d.places) (source_within vs c.places d.places named) in
    let of : ℕ → ℕ → ℕ → List ℕ → List ℕ → List Row → List Row → Net =
    λ sheet places transitions first second mine other.
    to_net (sheet, (places, (transitions, (pad_to 16 0 (first ++ second), pad_to 32 no_row (mine ++ other))))) in
    (λ i.
    of (s.sheet i) (s.places i + length (unpaired vs (u.places i))) (s.transitions i + u.transitions i) (first_of (s.places i) 0 a.start)
    (map (λ q. get_or b.start q 0) (unpaired vs (u.places i))) (moved_rows (own_places (s.places i)) a)
    (moved_rows (sources vs (s.places i) (u.places i)) b))
    ∙ (λ i.
    of c.sheet (c.places + length (unpaired vs d.places)) (c.transitions + d.transitions) (tokens i) (others i) (mine i) (other i))
