-- The net card is a format: each of its lines is one, and the counts of its second and third line bound how many follow. A number never begins
-- like the word for no upper bound, since the word's first byte is no digit.
use Rattle.reply.specs.Respond.{Passed}
use Rattle.std.specs.Prelude.{Err, None, Option, Some}
use Prim.Native.Nat.{ℕ, ◌+◌, ◌-◌, ◌≤◌, ◌<◌, min}
use native.Mathlib.Nat.{min-le_right, min-eq_left}
use native.Mathlib.Omega.{arith}
use mathlib.Core.Path.{◌≡◌, refl, sym, ap, subst, ◌∙◌}
use mathlib.Core.Bool.{Bool, true, false, cond, ◌&&◌}
use mathlib.Core.Logic.{◌↔◌}
use mathlib.Core.List.{List, ◌++◌, map}
use lib.ListN.{length, get_or, drop, replicate, length-map}
use lib.Dec.{lit<, leb, ltb}
use Rattle.laws.specs.Each.{each_append, each_image, each_replicate, each_at}
use Rattle.laws.specs.Slots.{first_of, pad_to, length_first, length_pad, get_d_first}
use Rattle.reply.specs.declared.Refusal.{Refusal}
use Rattle.reply.specs.declared.Refusal.TheVariants.{OutOfRange, LatestBelowEarliest, AnotherSheet}
use Rattle.reply.specs.Refusal.{position_of}
use Rattle.text.specs.Key.{bytes, begins_with}
use Rattle.text.specs.Number.{digits_of, field_at}
use Rattle.text.specs.Decimal.{field}
use Rattle.text.proofs.KeyLaws.{begins_text, begins_split, begins_take}
use Rattle.text.proofs.NumberLaws.{field_text, field_split, field_near, field_take}
use Rattle.form.specs.Form.{found, refused, and_then, found_if, also, keyed, front}
use Rattle.form.specs.Line.{formed, ranged, number}
use Rattle.form.specs.Sheet.{sheet}
use Rattle.form.specs.Inverse.{WasRead, Inverse, Settled, Reaches, Placed, Format}
use Rattle.form.proofs.Found.{not_both, found_place, then_found, then_refused, also_first, also_second, checks_each, judged_passed, judged_found}
use Rattle.form.proofs.Combine.{was_same}
use Rattle.form.proofs.Lines.{formed_value, ranged_within, ranged_small, word_was}
use Rattle.form.proofs.Places.{OwnLine, line_placed, field_own}
use Rattle.form.proofs.Format.{keyed_format, pair_format, held_format, times_format, ranged_format, items_format, counted_format}
use Rattle.form.proofs.Sheets.{sheet_line_format, sheet_refused}
use Rattle.form.proofs.Card.{read_back, passes_exactly}
use Rattle.net.specs.declared.Net.{Net}
use Rattle.net.specs.Net.{latest_checked, latest, weights, Row, to_row, from_row, row, no_row, no_transition, starts, rows, body, counted_lines, net_lines, rows_of}
use Rattle.net.specs.Net.{to_net, from_net, net_card}
use Rattle.net.proofs.Rows.{Full, row_there, rows_back}

-- where the word stands there is no number
word_no_number : (s : List ℕ) (at : ℕ) → begins_with (bytes "inf\n") (drop at s) ≡ true → field_at s at true ≡ None
unfolding digits_of field_at
word_no_number s at t = rw (begins_split (bytes "inf\n") s at t).0 refl

pub number_no_word : (n at next : ℕ) (s : List ℕ) → field_at s at true ≡ Some (n, next) → begins_with (bytes "inf\n") (drop at s) ≡ false
number_no_word n at next s e = go (begins_with (bytes "inf\n") (drop at s)) refl
  where
    go : (t : Bool) → begins_with (bytes "inf\n") (drop at s) ≡ t → begins_with (bytes "inf\n") (drop at s) ≡ false
    go true t = let q = word_no_number s at t in let z : ◌≡◌ {A = ℕ} 0 1 = cc in absurd (omega arith)
    go false t = t

module _ (earliest : ℕ) where
  latest_back : (l : Option ℕ) (s rest : List ℕ) (at line : ℕ) → latest_checked earliest l line ≡ Passed → drop at s ≡ (latest earliest).text l ++ rest
      → (latest earliest).read s at line ≡ found l (at + length ((latest earliest).text l))
  latest_back None s rest at line p e = rw (ap (begins_with (bytes "inf\n")) e ∙ begins_text (bytes "inf\n") rest) refl
  latest_back (Some n) s rest at line p e =
      let small =
      ranged_small 0 1000 (lit< tt) n line (also_first (ranged 0 1000 n line) (cond (ltb n earliest) (Err (LatestBelowEarliest line)) Passed) p) in
      let q = field_text n at true s rest small e in
      rw (number_no_word n at (at + length (field n true)) s q, q, p) refl

  ticks_was : (l : Option ℕ) (s : List ℕ) (at next line : ℕ) → and_then (formed line (field_at s at true))
      (λ n to. found_if (latest_checked earliest (Some n) line) (Some n) to) ≡ found l next
      → WasRead (latest earliest) l s at next line
  ticks_was l s at next line e =
      let u = then_found (formed line (field_at s at true)) _ e in
      let c = latest_checked earliest (Some u.value) line in
      let w = field_split u.value at u.place true s (formed_value line (field_at s at true) u.first) in
      was_same (latest earliest) (judged_found c _ u.place u.then)
      (record { bytes = w.text; end = w.end; passed = judged_passed c _ u.place u.then; cleaned = refl })

  latest_was : (l : Option ℕ) (s : List ℕ) (at next line : ℕ) → (latest earliest).read s at line ≡ found l next → WasRead (latest earliest) l s at next line
  latest_was l s at next line = go (begins_with (bytes "inf\n") (drop at s)) refl
    where
      go : (t : Bool) → begins_with (bytes "inf\n") (drop at s) ≡ t
          → cond t (found None (at + length (bytes "inf\n")))
          (and_then (formed line (field_at s at true)) (λ n to. found_if (latest_checked earliest (Some n) line) (Some n) to)) ≡ found l next
          → WasRead (latest earliest) l s at next line
      go true t e = was_same (latest earliest) e (word_was (latest earliest) None s at line refl refl t)
      go false t e = ticks_was l s at next line e

  latest_near : (l : Option ℕ) (s : List ℕ) (at next line : ℕ) → (latest earliest).read s at line ≡ found l next → next ≤ at + 10
  latest_near l s at next line = go (begins_with (bytes "inf\n") (drop at s))
    where
      go : (t : Bool) → cond t (found None (at + length (bytes "inf\n")))
          (and_then (formed line (field_at s at true)) (λ n to. found_if (latest_checked earliest (Some n) line) (Some n) to)) ≡ found l next
          → next ≤ at + 10
      go true e = omega (arith, found_place e)
      go false e =
          let u = then_found (formed line (field_at s at true)) _ e in
          let h = field_near u.value at u.place true s (formed_value line (field_at s at true) u.first) in
          omega (arith, h.0, found_place (judged_found (latest_checked earliest (Some u.value) line) _ u.place u.then))

  latest_own : OwnLine (latest_checked earliest)
  latest_own None line r = λ e. let z : ◌≡◌ {A = ℕ} 0 1 = cc in absurd (omega arith)
  latest_own (Some n) line r = go (leb 0 n && leb n 1000) (ltb n earliest)
    where
      go : (a b : Bool) → also (cond a Passed (Err (OutOfRange line))) (cond b (Err (LatestBelowEarliest line)) Passed) ≡ Err r
          → position_of r ≡ line
      go true true e = let same : r ≡ LatestBelowEarliest line = cc in ap position_of same
      go true false e = let z : ◌≡◌ {A = ℕ} 0 1 = cc in absurd (omega arith)
      go false b e = let same : r ≡ OutOfRange line = cc in ap position_of same

  latest_placed : Placed (latest earliest) 1
  latest_placed = line_placed (λ r s at line. go r s at line (begins_with (bytes "inf\n") (drop at s))) (λ l. refl)
    where
      go : (r : Refusal) (s : List ℕ) (at line : ℕ) (t : Bool)
          → cond t (found None (at + length (bytes "inf\n")))
          (and_then (formed line (field_at s at true)) (λ n to. found_if (latest_checked earliest (Some n) line) (Some n) to)) ≡ refused r → position_of r ≡ line
      go r s at line true e = absurd (not_both (sym e))
      go r s at line false e = field_own (latest_checked earliest) Some latest_own line (field_at s at true) e

  latest_format : {P : Type 0} → Format P (latest earliest) 10 1
  latest_format =
      record {
        settled = record { same_text = λ l. refl; same_lines = λ l. refl; same_check = λ l line. refl };
        inverse = λ p. record { read_written = latest_back; written_read = latest_was };
        reaches = λ p.
            record {
              near = latest_near;
              prefix = λ s k at line h. rw (begins_take (bytes "inf\n") s k at (omega arith), field_take k at true s h) refl;
            };
        placed = λ p. latest_placed;
      }

-- ---- the lines put together
weights_format : (places : ℕ) → Format (Unit {0}) (weights places) 330 2
weights_format places = pair_format (items_format (bytes "take=") places 16 0 255 (lit< tt)) (items_format (bytes "give=") places 16 0 255 (lit< tt))

row_format : (places : ℕ) → Format (Unit {0}) (row places) 366 4
row_format places =
    held_format to_row from_row (λ v. refl)
    (counted_format (bytes "earliest=") 0 1000 (lit< tt) (λ n. pair_format (keyed_format (bytes "latest=") (latest_format n)) (weights_format places))
    (λ n l h. h))

body_format : (places transitions : ℕ) → Format (Unit {0}) (body places transitions) 11968 144
body_format places transitions =
    pair_format (times_format places 16 0 (ranged_format (bytes "start=") 0 255 (lit< tt))) (times_format transitions 32 no_row (row_format places))

-- ---- rows in their arrays
-- what is clean has full rows
full_list : (k : ℕ) (l : List ℕ) → length (pad_to 16 0 (first_of (min k 16) 0 l)) ≡ 16
full_list k l = length_pad 16 0 (first_of (min k 16) 0 l) (omega (arith, length_first (min k 16) 0 l, min-le_right k 16))

full_row : (places : ℕ) (r : Row) → Full ((row places).clean r)
full_row places r = (full_list places r.take, full_list places r.give)

clean_back : (v : ℕ × (ℕ × (ℕ × (List ℕ × List Row)))) → from_net (to_net (net_lines.clean v)) ≡ net_lines.clean v
clean_back (own, (places, (transitions, (start, rs)))) =
    let n = min transitions 32 in
    let m = map (row places).clean (first_of n no_row rs) in
    let few : length m ≤ 32 = omega (arith, length-map (first_of n no_row rs) (row places).clean, length_first n no_row rs, min-le_right transitions 32) in
    let full = each_append Full m (replicate (32 - length m) no_row)
    (each_image Full (row places).clean (full_row places) (first_of n no_row rs)) (each_replicate Full no_row (refl, refl) (32 - length m)) in
    let e = rows_back own places transitions ((starts places).clean start) (pad_to 32 no_row m) (length_pad 32 no_row m few) full in
    ap (λ (x : List Row). (own, (places, (transitions, ((starts places).clean start, x))))) e

-- as many bytes as a reading of a net card looks at
abbrev pub net_reach : ℕ
net_reach = 12023

-- a net card has 147 lines at most: its sheet, two counts, 16 starts, and four lines for each of 32 transitions
counted_lines_format : Format (Unit {0}) counted_lines 12007 146
counted_lines_format =
    counted_format (bytes "places=") 1 16 (lit< tt)
    (λ places. counted_format (bytes "transitions=") 1 32 (lit< tt) (body_format places) (λ transitions few h. h))
    (λ places few h. h)

net_format : Format (Unit {0}) net_card net_reach 147
net_format = held_format to_net from_net clean_back (pair_format sheet_line_format counted_lines_format)

pub net_inverse : Inverse net_card
net_inverse = net_format.inverse tt

pub net_settled : Settled net_card
net_settled = net_format.settled

pub net_reaches : Reaches net_card net_reach
net_reaches = net_format.reaches tt

pub net_placed : Placed net_card 147
net_placed = net_format.placed tt

-- a net card is never refused as 11 at line 1: its sheet is 1 or 2, and what stands behind it has a later line
pub net_own_sheet : (s : List ℕ) → front net_card s ≡ refused (AnotherSheet 1) → ⊥
net_own_sheet s =
    then_refused (net_lines.read s 0 1) _
    (then_refused (sheet.read s 0 1) _ (λ e. let h : 11 ≤ 2 = sheet_refused s 0 1 e in omega arith) (λ n next p.
    then_refused (counted_lines.read s next 2) _
    (λ q. let h : 2 ≤ 1 = ((counted_lines_format.placed tt).named (AnotherSheet 1) s next 2 q).from in omega arith)
    (λ v end q e. not_both (sym e))))
    (λ v next p e. not_both (sym e))

-- what was written is read back, up to the slots past the counts, and reading stops at the rest
pub net_read_back : (n : Net) (rest : List ℕ) → net_card.check n 1 ≡ Passed
    → net_card.read (net_card.text n ++ rest) 0 1 ≡ found (net_card.clean n) (length (net_card.text n))
net_read_back = read_back net_inverse

-- the check lets pass exactly the nets that are read back
pub net_passes_exactly : (n : Net) (rest : List ℕ)
    → (net_card.check n 1 ≡ Passed) ↔ (net_card.read (net_card.text n ++ rest) 0 1 ≡ found (net_card.clean n) (length (net_card.text n)))
net_passes_exactly = passes_exactly net_inverse net_settled

-- the sheet and the counts of a net that passes its check
pub net_sheet : (n : Net) → net_card.check n 1 ≡ Passed → n.sheet ≤ 9999
net_sheet n p = (ranged_within 0 9999 n.sheet 1 (also_first (ranged 0 9999 n.sheet 1) _ p)).1

pub net_places : (n : Net) → net_card.check n 1 ≡ Passed → (1 ≤ n.places) × (n.places ≤ 16)
net_places n p = ranged_within 1 16 n.places 2 (also_first (ranged 1 16 n.places 2) _ (also_second (ranged 0 9999 n.sheet 1) _ p))

-- the lines from the second count on, and those behind the counts
behind_places : (n : Net) → net_card.check n 1 ≡ Passed → also (ranged 1 32 n.transitions 3) ((body n.places n.transitions).check (n.start, rows_of n) 4) ≡ Passed
behind_places n p = also_second (ranged 1 16 n.places 2) _ (also_second (ranged 0 9999 n.sheet 1) _ p)

pub net_transitions : (n : Net) → net_card.check n 1 ≡ Passed → (1 ≤ n.transitions) × (n.transitions ≤ 32)
net_transitions n p = ranged_within 1 32 n.transitions 3 (also_first (ranged 1 32 n.transitions 3) _ (behind_places n p))

behind_counts_lem : (n : Net) → net_card.check n 1 ≡ Passed → also ((starts n.places).check n.start 4)
    ((rows n.places n.transitions).check (rows_of n) (4 + (starts n.places).lines n.start)) ≡ Passed
behind_counts_lem n p = also_second (ranged 1 32 n.transitions 3) _ (behind_places n p)

-- its start
pub net_start : (n : Net) → net_card.check n 1 ≡ Passed → (p : ℕ) → p < n.places → get_or n.start p 0 ≤ 255
net_start n e p h =
    let k = min n.places 16 in
    let all : k ≡ n.places = min-eq_left (net_places n e).1 in
    let listed = first_of k 0 n.start in
    let each = checks_each (keyed (bytes "start=") (number (ranged 0 255))) (λ (x : ℕ). x ≤ 255) (λ x line q. (ranged_within 0 255 x line q).1) listed _
    (also_first ((starts n.places).check n.start 4) _ (behind_counts_lem n e)) in
    subst (λ (x : ℕ). x ≤ 255) (get_d_first k 0 n.start p (omega arith))
    (each_at (λ (x : ℕ). x ≤ 255) 0 listed each p (omega (arith, length_first k 0 n.start)))

-- its lower bounds
pub net_earliest : (n : Net) → net_card.check n 1 ≡ Passed → (t : ℕ) → t < n.transitions → (get_or n.table t no_transition).earliest ≤ 1000
net_earliest n p t h =
    let few = (net_transitions n p).1 in
    let k = min n.transitions 32 in
    let all : k ≡ n.transitions = min-eq_left few in
    let listed = first_of k no_row (rows_of n) in
    let P : Row → Type 0 = λ r. r.interval.earliest ≤ 1000 in
    let each = checks_each (row n.places) P (λ r line e. (ranged_within 0 1000 r.interval.earliest line
    (also_first (ranged 0 1000 r.interval.earliest line) _ e)).1) listed _
    (also_second ((starts n.places).check n.start 4) _ (behind_counts_lem n p)) in
    let found-row = get_d_first k no_row (rows_of n) t (omega arith) ∙ row_there n t (omega arith) in
    subst P found-row (each_at P no_row listed each t (omega (arith, length_first k no_row (rows_of n))))
