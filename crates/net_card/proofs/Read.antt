-- A net card, by the cases of the code: its parts read one after the other, of which the first refusal counts. Behind the last one the values of all
-- lines stand where the net has them.
use Rattle.std.specs.Prelude.{Err, Ok, Option, Result}
use Prim.Native.Nat.{ℕ, ◌+◌, ◌-◌, ◌*◌, ◌≤◌, ◌<◌, min}
use native.Mathlib.Nat.{add-zero, one-mul, min-eq_left}
use native.Mathlib.Omega.{arith}
use mathlib.Core.Path.{◌≡◌, refl, sym, ap, subst, ◌∙◌}
use mathlib.Core.List.{List, [], map}
use lib.ListN.{get_or, set, drop, replicate}
use lib.Seq.{get_or-drop}
use lib.Dec.{lit<}
use Rattle.laws.specs.Tables.{map_set}
use Rattle.laws.specs.Slots.{first_of, pad_to, get_d_padded}
use Rattle.reply.specs.declared.Refusal.{Refusal}
use Rattle.text.specs.Key.{bytes}
use Rattle.form.specs.Form.{Found, found, refused, and_then, Form, keyed, exactly}
use Rattle.form.specs.Line.{ranged, number, items}
use Rattle.form.specs.Sheet.{sheet}
use Rattle.form.proofs.Answers.{chain_parts, exactly_lines}
use Rattle.form.proofs.Found.{not_both, found_value, found_place, refused_same, then_found, then_refused, then_then}
use Rattle.form.proofs.Format.{items_format}
use Rattle.form.proofs.Lines.{ranged_read}
use Rattle.form.proofs.Loops.{Reading, reading_start, reading_more, reading_refused, reading_done}
use Rattle.net.specs.declared.Transition.{Transition}
use Rattle.net.specs.declared.Net.{Net}
use Rattle.net.specs.Net.{latest, weights, Row, to_row, row, no_row, no_transition, starts, rows, body, counted_lines, take_of, give_of, to_net, net_card}
use Rattle.net_card.specs.declared.counts.Heading.{Heading}
use Rattle.net_card.specs.Code.{interval, interval_lines, to_interval, found_in, spread, stored_at, stored_as, behind_sheet, with_counts, behind_counts, started}
use Rattle.net_card.proofs.Tables.{take_empty, give_empty, take_stored, give_stored}

-- ---- what an answer beside lent arrays tells
in_next : {A : Type 0} {f : Found A} (r : Result ℕ Refusal) (a : A) {next : ℕ} → found_in r a ≡ f → r ≡ Ok next → f ≡ found a next
in_next r a p e = sym p ∙ rw e refl

in_stopped : {A : Type 0} {f : Found A} (r : Result ℕ Refusal) (a : A) {q : Refusal} → found_in r a ≡ f → r ≡ Err q → f ≡ refused q
in_stopped r a p e = sym p ∙ rw e refl

-- ---- the weights of transition t
-- the form of a list of weights
abbrev list_of : List ℕ → ℕ → Form (List ℕ)
list_of key places = keyed key (items places 16 0 255)

-- a list that was found is clean: behind its numbers stand zeros
list_clean : (key : List ℕ) (places : ℕ) (ns s : List ℕ) (at next line : ℕ) → places ≤ 16 → (list_of key places).read s at line ≡ found ns next
    → pad_to 16 0 (first_of places 0 ns) ≡ ns
list_clean key places ns s at next line few e =
    rw (min-eq_left few) at (((items_format {P = Unit {0}} key places 16 0 255 (lit< tt)).inverse tt).written_read ns s at next line e).cleaned

-- a value beside one that is known
pair_in : {A B : Type 0} (r : Result ℕ Refusal) (a : A) (b : B) {f : Found B} → found_in r b ≡ f → found_in {A = A × B} r (a, b) ≡ and_then f (λ y end. found (a, y) end)
pair_in {A} {B} r a b e = go r ∙ ap (λ (f : Found B). and_then f (λ y end. found (a, y) end)) e
  where
    go : (q : Result ℕ Refusal) → found_in {A = A × B} q (a, b) ≡ and_then (found_in q b) (λ y end. found (a, y) end)
    go (Ok n) = refl
    go (Err q) = refl

module _ (places t : ℕ) (s : List ℕ) (at line : ℕ) (take give : List ℕ) (r : Result ℕ Refusal) (take' : List ℕ)
    (p : found_in r take' ≡ stored_at places t 32 take ((list_of (bytes "take=") places).read s at line)) where
  -- the answer for both lists
  abbrev both : Found (List ℕ × List ℕ)
  both = stored_as places t take give ((weights places).read s at line)

  -- what the second line says
  abbrev gives : ℕ → Found (List ℕ)
  gives next = (list_of (bytes "give=") places).read s next (line + 1)

  pub take_stopped : {q : Refusal} → r ≡ Err q → refused q ≡ both
  take_stopped e =
      then_refused ((list_of (bytes "take=") places).read s at line) _ (λ z. sym (rw z refl)) (λ v end z z'. absurd (not_both (sym z'))) (in_stopped r take' p e)

  pub take_next : {next : ℕ} → r ≡ Ok next → (q : Result ℕ Refusal) (give' : List ℕ)
      → found_in q give' ≡ stored_at places (16 * t) 1 give (gives next)
      → found_in q (take', give') ≡ both
  take_next {next} e q give' z =
      let u = then_found ((list_of (bytes "take=") places).read s at line) _ (in_next r take' p e) in
      let first : (list_of (bytes "take=") places).read s at line ≡ found u.value next = u.first ∙ ap (found u.value) (found_place u.then) in
      pair_in q take' give' z
      ∙ then_then (gives next) _ _
      ∙ ap (λ (l : List ℕ). and_then (gives next) (λ g end. found (l, spread (first_of places 0 g) (16 * t) 1 give) end)) (sym (found_value u.then))
      ∙ sym (ap (stored_as places t take give) (chain_left u.value first) ∙ then_then (gives next) _ _)
    where
      chain_left : (v : List ℕ) → (list_of (bytes "take=") places).read s at line ≡ found v next
          → (weights places).read s at line ≡ and_then (gives next) (λ g end. found (v, g) end)
      chain_left v first = rw first refl

-- ---- the lines of transition t
-- the row of lines that were found
abbrev as_row : Found (ℕ × (Option ℕ × (List ℕ × List ℕ))) → Found Row
as_row f = and_then f (λ v end. found (to_row v) end)

-- the row of an interval that was found and what h finds behind it
abbrev with_weights : (ℕ → Found (List ℕ × List ℕ)) → Found (ℕ × Option ℕ) → Found Row
with_weights h f = and_then f (λ i next. and_then (h next) (λ w end. found (to_row (i.0, (i.1, w))) end))

-- a row is its interval and behind it its weights
weights_put : (e : ℕ) (l : Option ℕ) (h : Found (List ℕ × List ℕ))
    → as_row (and_then (and_then h (λ w end. found (l, w) end)) (λ b end. found (e, b) end)) ≡ and_then h (λ w end. found (to_row (e, (l, w))) end)
weights_put e l (found w end) = refl
weights_put e l (refused r) = refl

latest_put : (e : ℕ) (g : Found (Option ℕ)) (h : ℕ → Found (List ℕ × List ℕ))
    → as_row (and_then (and_then g (λ l next. and_then (h next) (λ w end. found (l, w) end))) (λ b end. found (e, b) end))
    ≡ with_weights h (and_then g (λ l next. found (e, l) next))
latest_put e (found l next) h = weights_put e l (h next)
latest_put e (refused r) h = refl

earliest_put : (f : Found ℕ) (g : ℕ → ℕ → Found (Option ℕ)) (h : ℕ → Found (List ℕ × List ℕ))
    → as_row (and_then f (λ e to. and_then (and_then (g e to) (λ l next. and_then (h next) (λ w end. found (l, w) end))) (λ b end. found (e, b) end)))
    ≡ with_weights h (and_then f (λ e to. and_then (g e to) (λ l next. found (e, l) next)))
earliest_put (found e to) g h = latest_put e (g e to) h
earliest_put (refused r) g h = refl

row_read : (places : ℕ) (s : List ℕ) (at line : ℕ) → (row places).read s at line
    ≡ with_weights (λ next. (weights places).read s next (line + 2)) (interval_lines.read s at line)
row_read places s at line =
    let two : line + 1 + 1 ≡ line + 2 = omega arith in
    rw two
    (earliest_put ((keyed (bytes "earliest=") (number (ranged 0 1000))).read s at line) (λ e to. (keyed (bytes "latest=") (latest e)).read s to (line + 1))
    (λ next. (weights places).read s next (line + 2)))

-- what the lines of an interval say
interval_found : (f : Found (ℕ × Option ℕ)) {t : Transition} {next : ℕ} → and_then f (λ v end. found (to_interval v) end) ≡ found t next
    → f ≡ found (t.earliest, t.latest) next
interval_found (found v to) e = rw (← found_value e, ← found_place e) refl
interval_found (refused r) e = absurd (not_both e)

interval_refused : (f : Found (ℕ × Option ℕ)) {r : Refusal} → and_then f (λ v end. found (to_interval v) end) ≡ refused r → f ≡ refused r
interval_refused (found v to) e = absurd (not_both (sym e))
interval_refused (refused q) e = ap refused (refused_same e)

-- a slot that is not filled yet
row_free : (held : List Row) (t : ℕ) → drop t held ≡ replicate (32 - t) no_row → get_or held t no_row ≡ no_row
row_free held t e =
    ap (λ (k : ℕ). get_or held k no_row) (sym (add-zero t))
    ∙ sym (get_or-drop t held 0 no_row)
    ∙ ap (λ (l : List Row). get_or l 0 no_row) e
    ∙ get_d_padded [] (32 - t) no_row 0

-- of n transitions, t are read; `held` is what their lines say, which stands in three arrays
pub record RowsRead (places n : ℕ) (s : List ℕ) (at : ℕ) (take give : List ℕ) (table : List Transition) (t to : ℕ) : Type 0 where
  pub held : List Row
  pub reading : Reading (row places) n 32 no_row s at (4 + places) held t to (4 + places + 4 * t)
  pub taken : take ≡ take_of held
  pub given : give ≡ give_of held
  pub intervals : table ≡ map (λ (r : Row). r.interval) held

pub rows_start : (places n : ℕ) (s : List ℕ) (at : ℕ) → n ≤ 32 → RowsRead places n s at (replicate 512 0) (replicate 512 0) (replicate 32 no_transition) 0 at
rows_start places n s at few =
    let e : 4 + places ≡ 4 + places + 4 * 0 = omega arith in
    record {
      held = replicate 32 no_row;
      reading = subst (Reading (row places) n 32 no_row s at (4 + places) (replicate 32 no_row) 0 at) e
          (reading_start (row places) n 32 no_row s at (4 + places) few);
      taken = sym take_empty;
      given = sym give_empty;
      intervals = refl;
    }

-- the rows that a net with so many transitions has
rows_exactly : (places n : ℕ) (s : List ℕ) (at line : ℕ) → n ≤ 32 → (rows places n).read s at line ≡ (exactly n 32 no_row (row places)).read s at line
rows_exactly places n s at line few = rw (min-eq_left few) refl

module _ (head : Heading) (start : List ℕ) {s : List ℕ} {at : ℕ} {take give : List ℕ} {table : List Transition} {t to : ℕ}
    (w : RowsRead head.places head.transitions s at take give table t to) where
  abbrev places : ℕ
  places = head.places

  abbrev n : ℕ
  n = head.transitions

  -- the answer for the whole net
  abbrev net : Found Net
  net = started head start ((rows places n).read s at (4 + places))

  -- the line of the next transition
  abbrev line : ℕ
  line = 4 + places + 4 * t

  module _ (h : t < n) where
    refused_row : {r : Refusal} → (row places).read s to line ≡ refused r → refused r ≡ net
    refused_row e = ap (started head start) (sym (rows_exactly places n s at (4 + places) w.reading.room ∙ reading_refused w.reading h e))

    pub interval_stopped : {r : Refusal} → interval.read s to line ≡ refused r → refused r ≡ net
    interval_stopped e = refused_row (row_read places s to line ∙ rw (interval_refused (interval_lines.read s to line) e) refl)

    module _ {i : Transition} {next : ℕ} (e : interval.read s to line ≡ found i next) (r : Result ℕ Refusal) (take' give' : List ℕ)
        (p : found_in r (take', give') ≡ stored_as places t take give ((weights places).read s next (line + 2))) where
      -- the row, from its weights
      row_left : (row places).read s to line
          ≡ and_then ((weights places).read s next (line + 2)) (λ v end. found (to_row (i.earliest, (i.latest, v))) end)
      row_left = row_read places s to line ∙ rw (interval_found (interval_lines.read s to line) e) refl

      pub weights_stopped : {q : Refusal} → r ≡ Err q → refused q ≡ net
      weights_stopped {q} e' =
          then_refused ((weights places).read s next (line + 2)) _ (λ z. refused_row (row_left ∙ rw z refl)) (λ v end z z'. absurd (not_both (sym z')))
          (in_stopped r (take', give') p e')

      -- the weights that were found stand in the arrays
      rows_with : places ≤ 16 → (v : List ℕ × List ℕ) {after : ℕ} → (weights places).read s next (line + 2) ≡ found v after
          → take' ≡ spread (first_of places 0 v.0) t 32 take → give' ≡ spread (first_of places 0 v.1) (16 * t) 1 give
          → RowsRead places n s at take' give' (set table t i) (t + 1) after
      rows_with few v {after} first taken given =
          let r = to_row (i.earliest, (i.latest, v)) in
          let read : (row places).read s to line ≡ found r after = row_left ∙ rw first refl in
          let parts = chain_parts (list_of (bytes "take=") places) (λ _. list_of (bytes "give=") places) s next (line + 2) first in
          let long = w.reading.whole in
          let small : t < 32 = omega (arith, w.reading.room) in
          let free = row_free w.held t w.reading.filled in
          let below : line + 4 ≡ 4 + places + 4 * (t + 1) = omega arith in
          record {
            held = set w.held t r;
            reading = subst (Reading (row places) n 32 no_row s at (4 + places) (set w.held t r) (t + 1) after) below (reading_more w.reading h read);
            taken = taken ∙ ap (spread (first_of places 0 v.0) t 32) w.taken
                ∙ take_stored w.held r t places long small few free
                (list_clean (bytes "take=") places v.0 s next parts.place (line + 2) few parts.first);
            given = given ∙ ap (spread (first_of places 0 v.1) (16 * t) 1) w.given
                ∙ give_stored w.held r t places long small few free
                (list_clean (bytes "give=") places v.1 s parts.place after (line + 2 + 1) few parts.second);
            intervals = ap (λ (x : List Transition). set x t i) w.intervals ∙ sym (map_set (λ (x : Row). x.interval) w.held t r);
          }

      pub rows_more : places ≤ 16 → {after : ℕ} → r ≡ Ok after → RowsRead places n s at take' give' (set table t i) (t + 1) after
      rows_more few e' =
          let u = then_found ((weights places).read s next (line + 2)) _ (in_next r (take', give') p e') in
          let arrays = found_value u.then in
          rows_with few u.value (u.first ∙ ap (found u.value) (found_place u.then))
          (sym (ap (λ (x : List ℕ × List ℕ). x.0) arrays)) (sym (ap (λ (x : List ℕ × List ℕ). x.1) arrays))

  pub rows_done : n ≤ t
      → found (record { sheet = head.sheet; places = places; transitions = n; start = start; take = take; give = give; table = table }) to ≡ net
  rows_done h = rw (rows_exactly places n s at (4 + places) w.reading.room ∙ reading_done w.reading h, w.taken, w.given, w.intervals) refl

-- ---- the lines `start`
-- one of them
abbrev pub start_line : Form ℕ
start_line = keyed (bytes "start=") (number (ranged 0 255))

pub start_begins : (places : ℕ) (s : List ℕ) (at : ℕ) {l : List ℕ} → places ≤ 16 → l ≡ replicate 16 0 → Reading start_line places 16 0 s at 4 l 0 at (4 + 0)
start_begins places s at few e = rw e (reading_start start_line places 16 0 s at 4 few)

-- as many lines as the net has places
pub starts_lines : (places : ℕ) (l : List ℕ) → places ≤ 16 → (starts places).lines l ≡ places
starts_lines places l few = exactly_lines (min places 16) 16 0 start_line 1 (λ n. refl) l ∙ one-mul (min places 16) ∙ min-eq_left few

-- the starts that a net with so many places has
starts_exactly : (places : ℕ) (s : List ℕ) (at : ℕ) → places ≤ 16 → (starts places).read s at 4 ≡ (exactly places 16 0 start_line).read s at 4
starts_exactly places s at few = rw (min-eq_left few) refl

module _ {places : ℕ} {s : List ℕ} {at : ℕ} {l : List ℕ} {i to : ℕ} (w : Reading start_line places 16 0 s at 4 l i to (4 + i)) where
  module _ (h : i < places) where
    pub start_stopped : {r : Refusal} → start_line.read s to (4 + i) ≡ refused r → refused r ≡ (starts places).read s at 4
    start_stopped e = sym (starts_exactly places s at w.room ∙ reading_refused w h e)

    module _ {v next : ℕ} (e : start_line.read s to (4 + i) ≡ found v next) where
      pub start_small : v ≤ 255
      start_small = (ranged_read (bytes "start=") 0 255 (lit< tt) v s to next (4 + i) e).1

      pub start_more : Reading start_line places 16 0 s at 4 (set l i v) (i + 1) next (4 + (i + 1))
      start_more =
          let q : 4 + i + 1 ≡ 4 + (i + 1) = omega arith in
          rw q at (reading_more w h e)

  pub start_done : places ≤ i → found l to ≡ (starts places).read s at 4
  start_done h = sym (starts_exactly places s at w.room ∙ reading_done w h)

-- ---- the lines behind the counts
module _ (head : Heading) (s : List ℕ) (at : ℕ) where
  pub starts_stopped : {q : Refusal} → (starts head.places).read s at 4 ≡ refused q → refused q ≡ behind_counts head ((body head.places head.transitions).read s at 4)
  starts_stopped e = rw e refl

  pub starts_found : head.places ≤ 16 → {start : List ℕ} {next : ℕ} → (starts head.places).read s at 4 ≡ found start next
      → started head start ((rows head.places head.transitions).read s next (4 + head.places))
      ≡ behind_counts head ((body head.places head.transitions).read s at 4)
  starts_found few {start} {next} e =
      let f = (rows head.places head.transitions).read s next (4 + head.places) in
      let whole : List ℕ × List Row → ℕ → Found Net = λ b end. found (to_net (head.sheet, (head.places, (head.transitions, b)))) end in
      rw (e, starts_lines head.places start few) (sym (then_then f (λ b end. found (start, b) end) whole))

-- ---- the lines behind the sheet
-- the values of the lines put together, at once or one after the other
counted_together : (h p t : ℕ) (f : Found (List ℕ × List Row))
    → with_counts h p t f ≡ behind_sheet h (and_then (and_then f (λ b end. found (t, b) end)) (λ b end. found (p, b) end))
counted_together h p t (found w next) = refl
counted_together h p t (refused r) = refl

module _ (sheet : ℕ) (s : List ℕ) (at : ℕ) where
  -- the answer for the whole net
  abbrev counted : Found Net
  counted = behind_sheet sheet (counted_lines.read s at 2)

  -- the first count
  abbrev places_line : Found ℕ
  places_line = (keyed (bytes "places=") (number (ranged 1 16))).read s at 2

  pub places_stopped : {r : Refusal} → places_line ≡ refused r → refused r ≡ counted
  places_stopped e = rw e

  module _ {p next : ℕ} (e : places_line ≡ found p next) where
    -- the second one
    abbrev transitions_line : Found ℕ
    transitions_line = (keyed (bytes "transitions=") (number (ranged 1 32))).read s next 3

    pub transitions_stopped : {r : Refusal} → transitions_line ≡ refused r → refused r ≡ counted
    transitions_stopped e' = rw (e, e')

    module _ {t to : ℕ} (e' : transitions_line ≡ found t to) where
      pub counts_read : with_counts sheet p t ((body p t).read s to 4) ≡ counted
      counts_read = rw (e, e') (counted_together sheet p t ((body p t).read s to 4))

      pub counts_small : (1 ≤ p) × (p ≤ 16) × (t ≤ 32)
      counts_small =
          let h = ranged_read (bytes "places=") 1 16 (lit< tt) p s at next 2 e in
          (h.0, h.1, (ranged_read (bytes "transitions=") 1 32 (lit< tt) t s next to 3 e').1)

-- ---- a net
module _ (s : List ℕ) where
  pub sheet_stopped : {r : Refusal} → (sheet.read s 0 1) ≡ refused r → refused r ≡ net_card.read s 0 1
  sheet_stopped e = rw e

  pub net_read_lem : {h next : ℕ} → (sheet.read s 0 1) ≡ found h next
      → behind_sheet h (counted_lines.read s next 2) ≡ net_card.read s 0 1
  net_read_lem {h} {next} e =
      let together = then_then (counted_lines.read s next 2) (λ v end. found (h, v) end) (λ v end. found (to_net v) end) in
      rw e (sym together)
