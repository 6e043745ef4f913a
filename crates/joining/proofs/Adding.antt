-- The rows of a net added to the arrays of others, one by one.
use Prim.Native.Nat.{ℕ, ◌+◌, ◌-◌, ◌*◌, ◌≤◌, ◌<◌}
use native.Mathlib.Numerals.{add-one}
use native.Mathlib.Omega.{arith}
use mathlib.Core.Path.{◌≡◌, refl, sym, ap, ◌∙◌}
use mathlib.Core.Option.{Option as Place, none, some}
use Rattle.std.specs.Prelude.{Option}
use mathlib.Core.List.{List, [], ◌∷◌, ◌++◌, map, map-append, append_assoc, append-nil}
use lib.ListN.{length, get_or, set, take, drop, replicate, length-map, length-append, length-replicate, get_or-eq_default}
use lib.Seq.{take-suc, take_all, length-take-le, drop-append_seam}
use Rattle.laws.specs.Arrays.{filled, length_filled}
use Rattle.laws.specs.Slots.{first_of, pad_to, length_first, get_d_first, get_d_padded, length_pad, first_pad, pad_more}
use Rattle.laws.specs.Tables.{map_set}
use Rattle.net.specs.declared.Transition.{Transition}
use Rattle.net.specs.declared.Net.{Net}
use Rattle.net.specs.Net.{Row, no_row, no_transition, row_at, rows_of, take_of, give_of}
use Rattle.net.proofs.Rows.{row_there}
use Rattle.net_card.specs.Code.{spread}
use Rattle.net_card.proofs.Tables.{take_empty, give_empty, take_stored, give_stored, take_gathered, give_gathered}
use Rattle.joining.specs.declared.Rows.{Rows}
use Rattle.joining.specs.Joining.{partner, unpaired, own_places, sources, weight_at, moved_row, joined_start, joined_rows}
use Rattle.joining.specs.Code.{places_in, Holds, Added, JoinedBy}
use Rattle.joining.proofs.Layouts.{length_places, length_sources}
use Rattle.joining.proofs.Moving.{weights_in, moved_to, length_moved}

-- no rows
pub none_held : Holds [] (record { take = replicate 512 0; give = replicate 512 0; table = replicate 32 no_transition })
none_held = record { takes = sym take_empty; gives = sym give_empty; intervals = refl }

-- ---- one row more
module _ (net : Net) (at : List (Option ℕ)) (few : length at ≤ 16) (t : ℕ) (rs : List Row) (room : length rs < 32) where
  -- row t of the net, at the places of the layout
  abbrev row : Row
  row = moved_row (places_in at) (row_at net t)

  full : length (pad_to 32 no_row rs) ≡ 32
  full = length_pad 32 no_row rs (omega arith)

  free : get_or (pad_to 32 no_row rs) (length rs) no_row ≡ no_row
  free = get_d_padded rs (32 - length rs) no_row (length rs) ∙ get_or-eq_default rs no_row {n = length rs} (omega arith)

  more : set (pad_to 32 no_row rs) (length rs) row ≡ pad_to 32 no_row (rs ++ (row ∷ []))
  more = pad_more 32 no_row rs row room

  -- a list of the row that was stored
  counted : (weights : List ℕ) → first_of (length at) 0 (pad_to 16 0 (moved_to weights at)) ≡ moved_to weights at
  counted weights = first_pad (length at) 16 0 (moved_to weights at) (length_moved weights at)

  row_takes : {take : List ℕ} → take ≡ take_of (pad_to 32 no_row rs)
      → spread (moved_to (weights_in net.take t 32) at) (length rs) 32 take ≡ take_of (pad_to 32 no_row (rs ++ (row ∷ [])))
  row_takes {take} held =
      let same : moved_to (weights_in net.take t 32) at ≡ first_of (length at) 0 row.take =
      ap (λ (l : List ℕ). moved_to l at) (take_gathered net t refl) ∙ sym (counted (row_at net t).take) in
      rw (held, same)
      (take_stored (pad_to 32 no_row rs) row (length rs) (length at) full room few free (rw (counted (row_at net t).take) refl) ∙ ap take_of more)

  row_gives : {give : List ℕ} → give ≡ give_of (pad_to 32 no_row rs)
      → spread (moved_to (weights_in net.give (16 * t) 1) at) (16 * length rs) 1 give ≡ give_of (pad_to 32 no_row (rs ++ (row ∷ [])))
  row_gives {give} held =
      let same : moved_to (weights_in net.give (16 * t) 1) at ≡ first_of (length at) 0 row.give =
      ap (λ (l : List ℕ). moved_to l at) (give_gathered net t refl) ∙ sym (counted (row_at net t).give) in
      rw (held, same)
      (give_stored (pad_to 32 no_row rs) row (length rs) (length at) full room few free (rw (counted (row_at net t).give) refl) ∙ ap give_of more)

  row_interval : {table : List Transition} → table ≡ map (λ (x : Row). x.interval) (pad_to 32 no_row rs)
      → set table (length rs) (get_or net.table t no_transition) ≡ map (λ (x : Row). x.interval) (pad_to 32 no_row (rs ++ (row ∷ [])))
  row_interval held =
      rw held
      (sym (map_set (λ (x : Row). x.interval) (pad_to 32 no_row rs) (length rs) row) ∙ ap (map (λ (x : Row). x.interval)) more)

-- ---- the loop: t rows are added
pub record Adding (net : Net) (at : List (Option ℕ)) (behind : ℕ) (old new : Rows) (t : ℕ) : Type 0 where
  pub within : t ≤ net.transitions
  pub rows : (rs : List Row) → length rs ≡ behind → Holds rs old
      → Holds (rs ++ map (moved_row (places_in at)) (take t (first_of net.transitions no_row (rows_of net)))) new

pub adding_start : (net : Net) (at : List (Option ℕ)) (behind : ℕ) (old : Rows) → Adding net at behind old old 0
adding_start net at behind old = record { within = omega arith; rows = λ rs e h. rw (append-nil rs) h }

module _ {net : Net} {at : List (Option ℕ)} {behind : ℕ} {old new : Rows} {t : ℕ} (w : Adding net at behind old new t) where
  abbrev listed : List Row
  listed = first_of net.transitions no_row (rows_of net)

  abbrev moved : List Row → List Row
  moved = map (moved_row (places_in at))

  module _ (h : t < net.transitions) (room : behind + net.transitions ≤ 32) (few : length at ≤ 16) where
    next_row : moved (take (t + 1) listed) ≡ moved (take t listed) ++ (moved_row (places_in at) (row_at net t) ∷ [])
    next_row =
        let there : get_or listed t no_row ≡ row_at net t = get_d_first net.transitions no_row (rows_of net) t h ∙ row_there net t (omega arith) in
        rw (add-one, take-suc listed t no_row (omega (arith, length_first net.transitions no_row (rows_of net))), there)
        (map-append (moved_row (places_in at)) (take t listed) (row_at net t ∷ []))

    pub adding_more : {take' give' : List ℕ} {table' : List Transition}
        → take' ≡ spread (moved_to (weights_in net.take t 32) at) (behind + t) 32 new.take
        → give' ≡ spread (moved_to (weights_in net.give (16 * t) 1) at) (16 * (behind + t)) 1 new.give
        → table' ≡ set new.table (behind + t) (get_or net.table t no_transition)
        → Adding net at behind old (record { take = take'; give = give'; table = table' }) (t + 1)
    adding_more takes gives intervals =
        record {
          within = omega arith;
          rows = λ rs e k.
              let so_far = rs ++ moved (take t listed) in
              let long : length so_far ≡ behind + t = omega (
                arith,
                length-append rs (moved (take t listed)),
                length-map (take t listed) (moved_row (places_in at)),
                length-take-le t listed (omega (arith, length_first net.transitions no_row (rows_of net))),
              ) in
              let held = w.rows rs e k in
              let fits : length so_far < 32 = omega arith in
              let all : rs ++ moved (take (t + 1) listed) ≡ so_far ++ (moved_row (places_in at) (row_at net t) ∷ []) =
              ap (λ (l : List Row). rs ++ l) next_row ∙ sym (append_assoc rs (moved (take t listed)) _) in
              rw all
              (record {
                takes = takes ∙ rw (← long) (row_takes net at few t so_far fits held.takes);
                gives = gives ∙ rw (← long) (row_gives net at few t so_far fits held.gives);
                intervals = intervals ∙ rw (← long) (row_interval net at few t so_far fits held.intervals);
              });
        }

  pub adding_done : net.transitions ≤ t → Added net at behind old new
  adding_done h =
      let all : take t listed ≡ listed = take_all t listed (omega (arith, length_first net.transitions no_row (rows_of net))) in
      record { rows = λ rs e k. rw all at (w.rows rs e k) }

-- ---- the joined net
-- the tokens of the second net's places that no pair names
second_tokens : (vs : List (ℕ × ℕ)) (places others : ℕ) (tokens : List ℕ)
    → map (weight_at tokens) (drop places (sources vs places others)) ≡ map (λ q. get_or tokens q 0) (unpaired vs others)
unfolding sources
second_tokens vs places others tokens =
    let front = filled (partner vs) places (replicate places none) in
    let long : length front ≡ places = length_filled (partner vs) (replicate places none) places ∙ length-replicate {A = Place ℕ} places none in
    ap (map (weight_at tokens)) (ap (λ (k : ℕ). drop k (front ++ map some (unpaired vs others))) (sym long) ∙ drop-append_seam front (map some (unpaired vs others)))
    ∙ each (unpaired vs others)
  where
    each : (qs : List ℕ) → map (weight_at tokens) (map some qs) ≡ map (λ q. get_or tokens q 0) qs
    each [] = refl
    each (q ∷ qs) = ap (λ (l : List ℕ). get_or tokens q 0 ∷ l) (each qs)

module _ (a b : Net) (at : List (Option ℕ)) {own : List (Option ℕ)} {none first rows : Rows} {start : List ℕ} where
  pub joined_by_lem : Holds [] none → places_in own ≡ own_places a.places
      → Added a own 0 none first → Added b at a.transitions first rows
      → start ≡ pad_to 16 0 (first_of a.places 0 a.start ++ map (weight_at b.start) (drop a.places (places_in at)))
      → JoinedBy a b at (record {
        sheet = a.sheet;
        places = length at;
        transitions = a.transitions + b.transitions;
        start = start;
        take = rows.take;
        give = rows.give;
        table = rows.table;
      })
  unfolding joined_start joined_rows
  joined_by_lem nothing mine one two tokens =
      record {
        joined = λ vs laid.
            let rs = map (moved_row (own_places a.places)) (first_of a.transitions no_row (rows_of a)) in
            let long : length rs ≡ a.transitions =
            length-map (first_of a.transitions no_row (rows_of a)) (moved_row (own_places a.places)) ∙ length_first a.transitions no_row (rows_of a) in
            let h : Holds rs first = rw mine at (one.rows [] refl nothing) in
            let k = rw laid at (two.rows rs long h) in
            let begun : start ≡ joined_start a b vs =
            tokens ∙ rw laid (rw (second_tokens vs a.places b.places b.start) refl) in
            let count : length at ≡ a.places + length (unpaired vs b.places) =
            sym (length_places at) ∙ ap length laid ∙ length_sources vs a.places b.places in
            λ i. record {
              sheet = a.sheet;
              places = count i;
              transitions = a.transitions + b.transitions;
              start = begun i;
              take = k.takes i;
              give = k.gives i;
              table = k.intervals i;
            };
      }
