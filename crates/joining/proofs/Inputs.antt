-- A whole input: two net cards and the line `pairs` behind them. Both round trips, what is refused of it, and its reading in steps, card by card.
use Rattle.std.specs.Prelude.{Err, Ok}
use Prim.Native.Nat.{ℕ, ◌+◌, ◌-◌, ◌%◌, ◌^◌, ◌≤◌, ◌<◌}
use native.Mathlib.Nat.{zero-add, le_refl}
use native.Mathlib.Omega.{arith}
use mathlib.Core.Path.{◌≡◌, refl, sym, ap, ◌∙◌}
use mathlib.Core.Bool.{Bool, true, false, cond, ◌&&◌}
use mathlib.Core.Logic.{⊎_elim}
use mathlib.Core.List.{List, [], ◌++◌, append-nil}
use lib.ListN.{length, take, drop, replicate, length-append, drop_of_length-le}
use lib.Seq.{take_all, take-append_seam, drop-append_seam}
use lib.Dec.{leb, eqb}
use borrow.Author.Tests.{le-leb}
use Rattle.laws.specs.Each.{Each}
use Rattle.laws.specs.Slots.{pad_to}
use Rattle.reply.specs.declared.Refusal.{Refusal}
use Rattle.reply.specs.declared.Refusal.TheVariants.{OutputTooShort, BadPairs, UnequalStarts, TooLarge}
use Rattle.reply.specs.Refusal.{number_of, position_of}
use Rattle.reply.specs.Respond.{refusal, written_if, Passed}
use Rattle.reply.specs.Demanded.{Demanded}
use Rattle.reply.proofs.Laws.{demanded}
use Rattle.form.specs.Form.{Found, found, refused, also, Form, front, alone, follow}
use Rattle.form.specs.Inverse.{Inverse}
use Rattle.form.specs.Code.{value_read}
use Rattle.form.proofs.Card.{read_back, alone_found}
use Rattle.form.proofs.Row.{row_read, row_refused}
use Rattle.net.specs.declared.Net.{Net}
use Rattle.net.specs.Net.{net_card}
use Rattle.net.proofs.Card.{net_inverse, net_placed, net_places, net_transitions}
use Rattle.net.proofs.Same.{net_same}
use Rattle.operations.proofs.Answers.{no_answer}
use Rattle.operations.proofs.Places.{Place, once_refused, line_place}
use Rattle.joining.specs.declared.Pairs.{Pairs}
use Rattle.joining.specs.Pairs.{pairs}
use Rattle.joining.specs.Joining.{pairs_of, firsts, seconds, distinct_places, equal_starts, joined_net}
use Rattle.joining.specs.Joining.{join_of, net_and_pairs, nets_and_pairs, join_cards}
use Rattle.joining.specs.Request.{JoinOfCards, join_input, JoinInverse}
use Rattle.joining.specs.Code.{kept, pairs_read}
use Rattle.joining.proofs.Numbers.{pairs_back, pairs_there, pairs_refused}

-- ---- what was read
-- the line, behind which nothing follows
record LineThere (list s : List ℕ) (next : ℕ) : Type 0 where
  pub bytes : s ≡ pairs.text list
  pub end : next ≡ length s
  pub small : Each (λ n. n < 10 ^ 9) list

line_was : (s : List ℕ) {list : List ℕ} {next : ℕ} → alone pairs s ≡ found list next → LineThere list s next
line_was s {list} {next} e =
    let h = alone_found pairs s e in
    let w = pairs_there s 0 1 h.0 in
    let t = pairs.text list in
    let whole : s ≡ t = w.bytes ∙ ap (λ (l : List ℕ). t ++ l) (drop_of_length-le s {i = next} h.1) ∙ append-nil t in
    record { bytes = whole; end = w.end ∙ zero-add (length t) ∙ ap length (sym whole); small = w.small }

-- what was read passes its checks, and written again it is the input
pub record JoinRead (a b : Net) (list s : List ℕ) (next : ℕ) : Type 0 where
  pub bytes : join_input a b list ≡ s
  pub end : next ≡ length s
  pub first : net_card.check a 1 ≡ Passed
  pub second : net_card.check b 1 ≡ Passed
  pub small : Each (λ n. n < 10 ^ 9) list

pub join_was : (s : List ℕ) {a b : Net} {list : List ℕ} {next : ℕ} → nets_and_pairs s ≡ found (a, (b, list)) next → JoinRead a b list s next
join_was s {a} {b} {list} e =
    let t = net_card.text a in
    let u = net_card.text b in
    let rest = drop (length t) s in
    let one = row_read net_inverse (λ _. net_and_pairs) s e in
    let two = row_read net_inverse (λ _. alone pairs) rest one.there in
    let last = line_was (drop (length u) rest) two.there in
    let behind : u ++ pairs.text list ≡ rest = ap (λ (l : List ℕ). u ++ l) (sym last.bytes) ∙ sym two.bytes in
    let all = ap length one.bytes ∙ length-append t rest in
    let more = ap length two.bytes ∙ length-append u (drop (length u) rest) in
    record {
      bytes = ap (λ (l : List ℕ). t ++ l) behind ∙ sym one.bytes;
      end = omega (arith, one.in_all, two.in_all, last.end, all, more);
      first = one.passed;
      second = two.passed;
      small = last.small;
    }

pub join_of_cards : JoinOfCards
join_of_cards = (λ s e p. rw p refl, λ s a b list next e. let w = join_was s e in rw (e, w.first, w.second) refl)

-- ---- what was written is read back
pub line_back : (list : List ℕ) → Each (λ n. n < 10 ^ 9) list → alone pairs (pairs.text list) ≡ found list (length (pairs.text list))
line_back list small =
    let t = pairs.text list in
    let e = pairs_back list t [] 0 1 small (sym (append-nil t)) ∙ ap (found list) (zero-add (length t)) in
    rw (e, le-leb (length t) (length t) (le_refl (length t))) refl

-- behind a card that passes
row_back : {A B : Type 0} {f : Form A} → Inverse f → (then : List ℕ → Found B) (a : A) (u : List ℕ) {b : B} {n : ℕ} → f.check a 1 ≡ Passed
    → then u ≡ found b n → follow (front f) (λ _. then) (f.text a ++ u) ≡ found (f.clean a, b) (length (f.text a) + n)
row_back {f = f} i then a u p e = rw (read_back i a u p, drop-append_seam (f.text a) u, e) refl

rows_back : {A : Type 0} {f : Form A} → Inverse f → (a b : A) (list : List ℕ) → f.check a 1 ≡ Passed → f.check b 1 ≡ Passed → Each (λ n. n < 10 ^ 9) list
    → follow (front f) (λ _. follow (front f) (λ _. alone pairs)) (f.text a ++ (f.text b ++ pairs.text list))
    ≡ found (f.clean a, (f.clean b, list)) (length (f.text a ++ (f.text b ++ pairs.text list)))
rows_back {f = f} i a b list p q small =
    let t = f.text a in
    let u = f.text b in
    let v = pairs.text list in
    let long : length t + (length u + length v) ≡ length (t ++ (u ++ v)) = omega (arith, length-append t (u ++ v), length-append u v) in
    row_back i (follow (front f) (λ _. alone pairs)) a (u ++ v) p (row_back i (alone pairs) b v q (line_back list small))
    ∙ ap (found (f.clean a, (f.clean b, list))) long

pub join_back : (a b : Net) (list : List ℕ) → net_card.check a 1 ≡ Passed → net_card.check b 1 ≡ Passed → Each (λ n. n < 10 ^ 9) list
    → nets_and_pairs (join_input a b list) ≡ found (net_card.clean a, (net_card.clean b, list)) (length (join_input a b list))
join_back = rows_back net_inverse

pub join_inverse : JoinInverse
join_inverse = (
  λ s a b list next e. (join_was s e).bytes,
  λ a b list p q small. (
    net_card.clean a,
    net_card.clean b,
    join_back a b list p q small,
    net_same a (net_places a p).1 (net_transitions a p).1,
    net_same b (net_places b q).1 (net_transitions b q).1,
  ),
)

-- ---- what is refused
-- the cards and the line by a place in one of them
cards_refused : (s : List ℕ) {r : Refusal} → nets_and_pairs s ≡ refused r → Place r
cards_refused s {r} =
    row_refused (front net_card) (λ _. net_and_pairs) s (λ e. line_place (net_placed.named r s 0 1 e)) (λ a next p.
    let rest = drop next s in
    row_refused (front net_card) (λ _. alone pairs) rest (λ e. line_place (net_placed.named r rest 0 1 e)) (λ b end q e.
    ⊎_elim (λ k. (omega (arith, ap position_of k), omega (arith, ap position_of k))) (λ k. (omega (arith, ap position_of k), omega (arith, ap position_of k)))
    (pairs_refused (drop end rest) e)))

-- the list as 12, 13 or 14, and with no place
join_refused : (a b : Net) (list : List ℕ) {r : Refusal} → join_of a b list ≡ refusal r → (12 ≤ number_of r) × (position_of r ≡ 0)
join_refused a b list {r} =
    let vs = pairs_of list in
    let j = joined_net a b vs in
    go (net_card.text j) (eqb (length list % 2) 0 && distinct_places a.places (firsts vs) && distinct_places b.places (seconds vs))
    (equal_starts a.start b.start vs) (leb j.places 16 && leb j.transitions 32)
  where
    told : (q : Refusal) → refusal q ≡ refusal r → 12 ≤ number_of q → position_of q ≡ 0 → (12 ≤ number_of r) × (position_of r ≡ 0)
    told q e h z = let same : q ≡ r = cc in (omega (arith, ap number_of same), omega (arith, ap position_of same))

    go : (text : List ℕ) (paired equal fits : Bool)
        → written_if
        (also (cond paired Passed (Err BadPairs)) (also (cond equal Passed (Err UnequalStarts)) (cond fits Passed (Err TooLarge)))) text
        ≡ refusal r
        → (12 ≤ number_of r) × (position_of r ≡ 0)
    go text true true true e = absurd (no_answer (sym e))
    go text true true false e = told TooLarge e (omega arith) refl
    go text true false fits e = told UnequalStarts e (omega arith) refl
    go text false equal fits e = told BadPairs e (omega arith) refl

-- so each refusal has a small place, and none is 9
pub join_own : (s : List ℕ) (r : Refusal) → join_cards s ≡ refusal r → (position_of r ≤ 147) × (r ≡ OutputTooShort → ⊥)
join_own s r =
    once_refused (nets_and_pairs s) _ (λ e. let h = cards_refused s e in (h.1, λ z. omega (arith, h.0, ap position_of z)))
    (λ v next e q. let h = join_refused v.0 v.1.0 v.1.1 q in (omega (arith, h.1), λ z. omega (arith, h.0, ap number_of z)))

pub cards_replies : (s : List ℕ) → Demanded (join_cards s)
cards_replies s = demanded (join_cards s) (λ e. (join_own s OutputTooShort e).1 refl)

-- ---- the reading in steps
-- the net that was read at the front passes its check
pub front_passed : (s : List ℕ) {net : Net} {next : ℕ} → net_card.read s 0 1 ≡ found net next → net_card.check net 1 ≡ Passed
front_passed s {net} {next} there = (net_inverse.written_read net s 0 next 1 there).passed

kept_whole : (list : List ℕ) → length list ≤ 32 → take (length list) (pad_to 32 0 (take 32 list)) ≡ list
kept_whole list few = rw (take_all 32 list few) (take-append_seam list (replicate (32 - length list) 0))

-- what the reader of the line says: the whole list, if the array holds it
module _ (s : List ℕ) {read : Pairs} (p : value_read (pairs_read (alone pairs s)) ≡ Ok read) where
  list_there : (list : List ℕ) × (next : ℕ) × (alone pairs s ≡ found list next) × (read ≡ kept list)
  list_there = go (alone pairs s) p
    where
      go : (f : Found (List ℕ)) → value_read (pairs_read f) ≡ Ok read → (list : List ℕ) × (next : ℕ) × (f ≡ found list next) × (read ≡ kept list)
      go (found list next) e = (list, next, refl, cc)
      go (refused why) e = let z : ◌≡◌ {A = ℕ} 0 1 = cc in absurd (omega arith)

  pub list_held : read.count ≤ 32 → (next : ℕ) × (alone pairs s ≡ found (take read.count read.list) next)
  list_held few =
      let (list, next, q, same) = list_there in
      let whole : take read.count read.list ≡ list =
      ap (λ (r : Pairs). take r.count r.list) same ∙ kept_whole list (omega (arith, few, ap (λ (r : Pairs). r.count) same)) in
      (next, q ∙ ap (λ (l : List ℕ). found l next) (sym whole))

  pub list_longer : 32 < read.count → (list : List ℕ) × (next : ℕ) × (32 < length list) × (alone pairs s ≡ found list next)
  list_longer more = let (list, next, q, same) = list_there in (list, next, omega (arith, more, ap (λ (r : Pairs). r.count) same), q)
