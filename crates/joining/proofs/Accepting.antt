-- The joined net of two nets that pass their check passes it too.
use Rattle.std.specs.Prelude.{Err, None, Option, Some}
use Prim.Native.Nat.{ℕ, zero, suc, ◌+◌, ◌-◌, ◌*◌, ◌/◌, ◌%◌, ◌≤◌, ◌<◌, min}
use native.Mathlib.Nat.{not-suc-le-zero, le_of_suc-le-suc, min-eq_left}
use native.Mathlib.Numerals.{add-one}
use native.Mathlib.Omega.{arith}
use native.Mathlib.Decide.{dec_lt}
use mathlib.Core.Path.{◌≡◌, refl, sym, subst, ◌∙◌}
use mathlib.Core.Bool.{Bool, true, false, cond, ◌&&◌, and-eq-true_iff}
use mathlib.Core.List.{List, [], ◌∷◌}
use mathlib.Core.Option.{Option as Place, none, some}
use lib.ListN.{length, get_or, replicate}
use lib.Dec.{leb, ltb}
use borrow.Author.Tests.{leb-true, le-leb}
use Rattle.laws.specs.Arrays.{filled, filled_past}
use Rattle.laws.specs.Each.{Each, each_at}
use Rattle.laws.specs.Slots.{first_of, length_first, get_d_first, get_d_padded}
use Rattle.reply.specs.declared.Refusal.{Refusal}
use Rattle.reply.specs.declared.Refusal.TheVariants.{OutOfRange, LatestBelowEarliest}
use Rattle.reply.specs.Respond.{Checked, Passed}
use Rattle.form.specs.Form.{also}
use Rattle.form.specs.Line.{ranged, all_ranged, items}
use Rattle.form.proofs.Found.{also_first, also_second, checks_each, test_passed}
use Rattle.net.specs.declared.Transition.{Transition}
use Rattle.net.specs.declared.Net.{Net}
use Rattle.net.specs.Net.{latest_checked, Row, row, no_row, no_transition, starts, takes_in, gives_in, take_of, give_of, row_at, rows_of, net_card}
use Rattle.net.proofs.Rows.{row_there}
use Rattle.net.proofs.Card.{net_sheet, net_places, net_transitions, net_start}
use Rattle.net_card.specs.Code.{interval_lines}
use Rattle.net_card.proofs.Check.{InBytes, RowsChecked, rows_begin, interval_passes_lem, all_pass}
use Rattle.joining.specs.Joining.{unpaired, own_places, sources, weight_at, joined_net}
use Rattle.joining.proofs.Counting.{unpaired_at}
use Rattle.joining.proofs.JoinedNet.{Within, own_within, source_within, first_weights, first_interval, second_weights, second_interval, past_weights}
use Rattle.joining.proofs.JoinedNet.{first_start, second_start, past_start}

-- ---- the rows of a net that passes its check
-- an interval passes in whichever line it stands
also_then : (c c' d d' : Checked) → also c d ≡ Passed → (c ≡ Passed → c' ≡ Passed) → (d ≡ Passed → d' ≡ Passed) → also c' d' ≡ Passed
also_then c c' d d' e f g = rw (f (also_first c d e)) (g (also_second c d e))

test_again : (t : Bool) (r r' : Refusal) → cond t Passed (Err r) ≡ Passed → cond t Passed (Err r') ≡ Passed
test_again true r r' e = refl
test_again false r r' e = cc

ranged_again : (low high n line line' : ℕ) → ranged low high n line ≡ Passed → ranged low high n line' ≡ Passed
ranged_again low high n line line' = test_again (leb low n && leb n high) (OutOfRange line) (OutOfRange line')

latest_again : (earliest : ℕ) (l : Option ℕ) (line line' : ℕ) → latest_checked earliest l line ≡ Passed → latest_checked earliest l line' ≡ Passed
latest_again earliest None line line' e = refl
latest_again earliest (Some n) line line' e =
    also_then (ranged 0 1000 n line) (ranged 0 1000 n line') _ _ e (ranged_again 0 1000 n line line') (go (ltb n earliest))
  where
    go : (t : Bool) → cond t (Err (LatestBelowEarliest line)) Passed ≡ Passed → cond t (Err (LatestBelowEarliest line')) Passed ≡ Passed
    go true e = cc
    go false e = refl

abbrev interval_passes : Transition → Type 0
interval_passes i = (line : ℕ) → interval_lines.check (i.earliest, i.latest) line ≡ Passed

-- numbers of a list in its range
ranged_at : (low high : ℕ) (ns : List ℕ) → all_ranged low high ns ≡ true → (i : ℕ) → i < length ns → get_or ns i 0 ≤ high
unfolding all_ranged
ranged_at low high [] e i h = absurd (not-suc-le-zero h)
ranged_at low high (n ∷ ns) e zero h =
    leb-true n high ((and-eq-true_iff (leb low n) (leb n high)).0 ((and-eq-true_iff (leb low n && leb n high) (all_ranged low high ns)).0 e).0).1
ranged_at low high (n ∷ ns) e (suc i) h =
    ranged_at low high ns ((and-eq-true_iff (leb low n && leb n high) (all_ranged low high ns)).0 e).1 i (le_of_suc-le-suc h)

items_at_lem : (n : ℕ) (l : List ℕ) (line : ℕ) → n ≤ 16 → (items n 16 0 255).check l line ≡ Passed → (i : ℕ) → i < n → get_or l i 0 ≤ 255
items_at_lem n l line few e i h =
    let k = min n 16 in
    let all : k ≡ n = min-eq_left few in
    let listed = first_of k 0 l in
    let small = ranged_at 0 255 listed (test_passed (all_ranged 0 255 listed) (OutOfRange line) e) i (omega (arith, length_first k 0 l)) in
    omega (arith, get_d_first k 0 l i (omega arith))

record RowFits (n : ℕ) (r : Row) : Type 0 where
  interval : interval_passes r.interval
  take : (p : ℕ) → p < n → get_or r.take p 0 ≤ 255
  give : (p : ℕ) → p < n → get_or r.give p 0 ≤ 255

row_fits : (n : ℕ) → n ≤ 16 → (r : Row) (line : ℕ) → (row n).check r line ≡ Passed → RowFits n r
row_fits n few r line e =
    let earliest = ranged 0 1000 r.interval.earliest line in
    let latest = latest_checked r.interval.earliest r.interval.latest (line + 1) in
    let take = (items n 16 0 255).check r.take (line + 1 + 1) in
    let give = (items n 16 0 255).check r.give (line + 1 + 1 + 1) in
    let behind = also_second earliest (also latest (also take give)) e in
    let weights = also_second latest (also take give) behind in
    record {
      interval = λ line'.
          rw (ranged_again 0 1000 r.interval.earliest line line' (also_first earliest _ e))
          (latest_again r.interval.earliest r.interval.latest (line + 1) (line' + 1) (also_first latest _ behind));
      take = items_at_lem n r.take (line + 1 + 1) few (also_first take give weights);
      give = items_at_lem n r.give (line + 1 + 1 + 1) few (also_second take give weights);
    }

net_rows : (n : Net) → net_card.check n 1 ≡ Passed → (t : ℕ) → t < n.transitions → RowFits n.places (row_at n t)
net_rows n e t h =
    let few = (net_transitions n e).1 in
    let k = min n.transitions 32 in
    let all : k ≡ n.transitions = min-eq_left few in
    let listed = first_of k no_row (rows_of n) in
    let behind = also_second (ranged 1 32 n.transitions 3) _ (also_second (ranged 1 16 n.places 2) _ (also_second (ranged 0 9999 n.sheet 1) _ e)) in
    let each = checks_each (row n.places) (RowFits n.places) (row_fits n.places (net_places n e).1) listed _
    (also_second ((starts n.places).check n.start 4) _ behind) in
    subst (RowFits n.places) (get_d_first k no_row (rows_of n) t (omega arith) ∙ row_there n t (omega arith))
    (each_at (RowFits n.places) no_row listed each t (omega (arith, length_first k no_row (rows_of n))))

-- weights of such a row, at places of its net
weight_small : (n : ℕ) (w : List ℕ) → ((q : ℕ) → q < n → get_or w q 0 ≤ 255) → (o : Place ℕ) → Within n o → weight_at w o ≤ 255
weight_small n w h none k = omega arith
weight_small n w h (some q) k = h q k

-- ---- the joined net
module _ (a b : Net) (vs : List (ℕ × ℕ)) (named : Each (λ v. v.1 < b.places) vs) (first : net_card.check a 1 ≡ Passed) (second : net_card.check b 1 ≡ Passed)
    (few : (joined_net a b vs).places ≤ 16) (short : (joined_net a b vs).transitions ≤ 32) where
  abbrev j : Net
  j = joined_net a b vs

  weights_small : (t p : ℕ) → t < 32 → p < 16 → (takes_in j.take t p ≤ 255) × (gives_in j.give t p ≤ 255)
  weights_small t p h l = go (dec_lt t a.transitions) (dec_lt (t - a.transitions) b.transitions)
    where
      go : Dec (t < a.transitions) → Dec (t - a.transitions < b.transitions) → (takes_in j.take t p ≤ 255) × (gives_in j.give t p ≤ 255)
      go (yes c) d =
          let w = first_weights a b vs few short t c p l in
          let r = net_rows a first t c in
          let o = get_or (own_places a.places) p none in
          let i = own_within a.places p in (
            rw w.0 (weight_small a.places (row_at a t).take r.take o i),
            rw w.1 (weight_small a.places (row_at a t).give r.give o i),
          )
      go (no c) (yes d) =
          let e : a.transitions + (t - a.transitions) ≡ t = omega arith in
          let u = t - a.transitions in
          let w = second_weights a b vs few short u d p l in
          let r = net_rows b second u d in
          let o = get_or (sources vs a.places b.places) p none in
          let i = source_within vs a.places b.places named p in
          subst (λ (n : ℕ). (takes_in j.take n p ≤ 255) × (gives_in j.give n p ≤ 255)) e (
            rw w.0 (weight_small b.places (row_at b u).take r.take o i),
            rw w.1 (weight_small b.places (row_at b u).give r.give o i),
          )
      go (no c) (no d) = let w = past_weights a b vs few short t (omega arith) h p l in (omega arith, omega arith)

  start_small : (p : ℕ) → get_or j.start p 0 ≤ 255
  start_small p = go (dec_lt p a.places) (dec_lt (p - a.places) (length (unpaired vs b.places)))
    where
      go : Dec (p < a.places) → Dec (p - a.places < length (unpaired vs b.places)) → get_or j.start p 0 ≤ 255
      go (yes c) d = omega (arith, first_start a b vs p c, net_start a first p c)
      go (no c) (yes d) =
          let e : a.places + (p - a.places) ≡ p = omega arith in
          let i = p - a.places in
          let q = unpaired_at vs b.places i d in
          let at = rw (e, q.here) at (second_start a b vs i d) in
          omega (arith, net_start b second q.place q.below)
      go (no c) (no d) = omega (arith, past_start a b vs p (omega arith))

  -- its tokens and weights are bytes
  in_bytes : InBytes j
  unfolding take_of give_of
  in_bytes = record { start = start_small; take = λ i. take i (dec_lt i 512); give = λ i. give i (dec_lt i 512) }
    where
      past : (f : ℕ → ℕ) (i : ℕ) → 512 ≤ i → get_or (filled f 512 (replicate 512 0)) i 0 ≡ 0
      past f i h = filled_past f (replicate 512 0) 0 512 i h ∙ get_d_padded [] 512 0 i

      take : (i : ℕ) → Dec (i < 512) → get_or j.take i 0 ≤ 255
      take i (yes h) =
          let e : 32 * (i / 32) + i % 32 ≡ i = omega arith in
          subst (λ (k : ℕ). get_or j.take k 0 ≤ 255) e (weights_small (i % 32) (i / 32) (omega arith) (omega arith)).0
      take i (no h) = rw (past _ i (omega arith)) (omega arith)

      give : (i : ℕ) → Dec (i < 512) → get_or j.give i 0 ≤ 255
      give i (yes h) =
          let e : 16 * (i / 16) + i % 16 ≡ i = omega arith in
          subst (λ (k : ℕ). get_or j.give k 0 ≤ 255) e (weights_small (i / 16) (i % 16) (omega arith) (omega arith)).1
      give i (no h) = rw (past _ i (omega arith)) (omega arith)

  -- and its intervals pass
  intervals_pass : (t : ℕ) → t < j.transitions → interval_passes (get_or j.table t no_transition)
  intervals_pass t h = go (dec_lt t a.transitions)
    where
      go : Dec (t < a.transitions) → interval_passes (get_or j.table t no_transition)
      go (yes c) = subst interval_passes (sym (first_interval a b vs few short t c)) (net_rows a first t c).interval
      go (no c) =
          let e : a.transitions + (t - a.transitions) ≡ t = omega arith in
          let u = t - a.transitions in
          let k : u < b.transitions = omega arith in
          subst (λ (n : ℕ). interval_passes (get_or j.table n no_transition)) e
          (subst interval_passes (sym (second_interval a b vs few short u k)) (net_rows b second u k).interval)

  pub joined_accepted : net_card.check j 1 ≡ Passed
  joined_accepted = sym (all_pass j in_bytes sheet places transitions (rows j.transitions (omega arith)) (omega arith))
    where
      sheet : ranged 0 9999 j.sheet 1 ≡ Passed
      sheet = rw (le-leb 0 a.sheet (omega arith), le-leb a.sheet 9999 (net_sheet a first)) refl

      places : ranged 1 16 j.places 2 ≡ Passed
      places = rw (le-leb 1 j.places (omega (arith, (net_places a first).0)), le-leb j.places 16 few) refl

      transitions : ranged 1 32 j.transitions 3 ≡ Passed
      transitions = rw (le-leb 1 j.transitions (omega (arith, (net_transitions a first).0)), le-leb j.transitions 32 short) refl

      rows : (t : ℕ) → t ≤ j.transitions → RowsChecked j t
      rows zero h = rows_begin j
      rows (suc t) h =
          subst (RowsChecked j) (add-one t)
          (interval_passes_lem j in_bytes sheet places transitions (rows t (omega arith)) h (intervals_pass t h (4 + j.places + 4 * t)))
