-- The lines that open a run: what is read from them stands behind a net that passes its check and has its denominator in its range, so that it opens; and what
-- is refused is refused at one of the lines or, for the range of the denominator, at 0.
use Rattle.reply.specs.Respond.{Checked, Passed}
use Rattle.std.specs.Prelude.{None, Option, Some}
use Prim.Native.Nat.{ℕ, ◌+◌, ◌≤◌}
use native.Mathlib.Omega.{arith}
use mathlib.Core.Path.{◌≡◌, sym, ap, subst}
use mathlib.Core.Bool.{Bool, true, false, cond, ◌&&◌}
use mathlib.Core.List.{List}
use lib.ListN.{length, take, drop}
use lib.Dec.{leb, lit<}
use Rattle.reply.specs.declared.Refusal.{Refusal}
use Rattle.reply.specs.declared.Refusal.TheVariants.{Malformed, OutOfRange}
use Rattle.reply.specs.Refusal.{number_of, position_of}
use Rattle.text.specs.Key.{bytes, begins_with}
use Rattle.text.specs.Number.{field_at}
use Rattle.form.specs.Form.{Found, found, refused, and_then, found_if, keyed, chain, front, alone}
use Rattle.form.specs.Line.{formed, ranged, number}
use Rattle.form.specs.Sheet.{sheet_checked, sheet_of}
use Rattle.form.specs.Inverse.{Reaches, Among}
use Rattle.form.proofs.Found.{not_both, refused_same, found_value, then_found, then_refused, judged_refused, test_refused}
use Rattle.form.proofs.Lines.{ranged_small, number_inverse, number_reaches}
use Rattle.form.proofs.Combine.{keyed_inverse, keyed_reaches, chain_reaches}
use Rattle.form.proofs.Card.{alone_found}
use Rattle.form.proofs.Places.{number_placed, keyed_placed}
use Rattle.form.proofs.Sheets.{sheet_own}
use Rattle.form.proofs.Row.{front_near, alone_near, follow_near, row_refused}
use Rattle.net.specs.declared.Net.{Net}
use Rattle.net.specs.Net.{net_card}
use Rattle.net.proofs.Card.{net_inverse, net_reaches, net_placed}
use Rattle.run.specs.declared.Memory.{Memory}
use Rattle.run.specs.Run.{memory}
use Rattle.run.proofs.Card.{memory_format}
use Rattle.open_run.specs.Open.{open_checked}
use Rattle.open_run.specs.Cards.{denominator, opening, opening_cards}
use Rattle.open_run.proofs.Refusals.{Own}

-- ---- what is read
abbrev judge : ℕ → ℕ → Checked
judge n line = ranged 1 1000 n 0

denominator_read_lem : (s : List ℕ) (at next line D : ℕ) → denominator.read s at line ≡ found D next → ranged 1 1000 D 0 ≡ Passed
denominator_read_lem s at next line D e =
    ((keyed_inverse (bytes "denominator=") (number judge) (number_inverse judge (λ n k. ranged_small 1 1000 (lit< tt) n 0))).written_read D s at next line e).passed

pub opening_read_lem : (own : ℕ) (s : List ℕ) (v : ℕ × (Memory × ℕ)) (next : ℕ) → (opening own).read s 0 1 ≡ found v next → ranged 1 1000 v.1.1 0 ≡ Passed
opening_read_lem own s v next e =
    let u = then_found ((sheet_of own).read s 0 1) _ e in
    let x = then_found ((chain (keyed (bytes "memory=") memory) (λ _. denominator)).read s u.place 2) _ u.then in
    let y = then_found ((keyed (bytes "memory=") memory).read s u.place 2) _ x.first in
    let z = then_found (denominator.read s y.place 3) _ y.then in
    let p = denominator_read_lem s y.place z.place 3 z.value z.first in
    let inner : (y.value, z.value) ≡ x.value = found_value z.then in
    let outer : (u.value, x.value) ≡ v = found_value x.then in
    subst (λ (w : ℕ × (Memory × ℕ)). ranged 1 1000 w.1.1 0 ≡ Passed) outer (subst (λ (w : Memory × ℕ). ranged 1 1000 w.1 0 ≡ Passed) inner p)

-- the net passes its check and is clean, and the denominator is in its range
pub openings_read : (s : List ℕ) (net : Net) (v : ℕ × (Memory × ℕ)) (next : ℕ) → opening_cards s ≡ found (net, v) next
    → (open_checked net v.1.1 ≡ Passed) × (net_card.clean net ≡ net)
openings_read s net v next e =
    let u = then_found (front net_card s) _ e in
    let x = then_found (alone (opening u.value.sheet) (drop u.place s)) _ u.then in
    let w = net_inverse.written_read u.value s 0 u.place 1 u.first in
    let lines = (alone_found (opening u.value.sheet) (drop u.place s) x.first).0 in
    let p = opening_read_lem u.value.sheet (drop u.place s) x.value x.place lines in
    let same : ◌≡◌ {A = Net × (ℕ × (Memory × ℕ))} (u.value, x.value) (net, v) = found_value x.then in
    subst (λ (z : Net × (ℕ × (Memory × ℕ))). (open_checked z.0 z.1.1.1 ≡ Passed) × (net_card.clean z.0 ≡ z.0)) same
    (rw w.passed p, w.cleaned)

-- ---- what is refused
placed_own : {line n : ℕ} {e : Refusal} → 1 ≤ line → line + n ≤ 148 → Among line n e → Own e
placed_own some few h = (omega (arith, h.below), λ z. omega (arith, h.from, ap position_of z))

denominator_refused : (s : List ℕ) (at : ℕ) {e : Refusal} → denominator.read s at 3 ≡ refused e → Own e
denominator_refused s at {e} = go (begins_with (bytes "denominator=") (drop at s)) (field_at s (at + length (bytes "denominator=")) true)
  where
    malformed : ◌≡◌ {A = Found ℕ} (refused (Malformed 3)) (refused e) → Own e
    malformed p =
        let same : Malformed 3 ≡ e = refused_same p in
        (omega (arith, ap position_of same), λ z. omega (arith, ap position_of same, ap position_of z))

    go : (t : Bool) (x : Option (ℕ × ℕ)) → cond t (and_then (formed 3 x) (λ n next. found_if (ranged 1 1000 n 0) n next)) (refused (Malformed 3)) ≡ refused e → Own e
    go false x p = malformed p
    go true None p = malformed p
    go true (Some (n, next)) p =
        let same = test_refused (leb 1 n && leb n 1000) (OutOfRange 0) (judged_refused (ranged 1 1000 n 0) n next p) in
        (omega (arith, ap position_of same), λ z. omega (arith, ap number_of same, ap number_of z))

opening_refused : (own : ℕ) (s : List ℕ) {e : Refusal} → (opening own).read s 0 1 ≡ refused e → Own e
opening_refused own s {e} =
    then_refused ((sheet_of own).read s 0 1) _
    (λ p. placed_own {line = 1} (omega arith) (omega arith) ((keyed_placed (bytes "sheet=") (omega arith) (number_placed (sheet_checked own) (sheet_own own))).named e s 0 1 p))
    (λ n next p.
    then_refused ((chain (keyed (bytes "memory=") memory) (λ _. denominator)).read s next 2) _
    (then_refused ((keyed (bytes "memory=") memory).read s next 2) _
    (λ q. placed_own {line = 2} (omega arith) (omega arith) ((keyed_placed (bytes "memory=") (omega arith) ((memory_format {P = Unit {0}}).placed tt)).named e s next 2 q))
    (λ m then q. then_refused (denominator.read s then 3) _ (denominator_refused s then) (λ D end x y. absurd (not_both (sym y)))))
    (λ v end q y. absurd (not_both (sym y))))

pub openings_refused : (s : List ℕ) {e : Refusal} → opening_cards s ≡ refused e → Own e
openings_refused s {e} =
    row_refused (front net_card) (λ net. alone (opening net.sheet)) s (λ p. placed_own {line = 1} (omega arith) (omega arith) (net_placed.named e s 0 1 p))
    (λ net next p.
    then_refused (front (opening net.sheet) (drop next s)) _ (opening_refused net.sheet (drop next s))
    (λ v end q. go (leb (length (drop next s)) end) v end))
  where
    go : (t : Bool) (v : ℕ × (Memory × ℕ)) (end : ℕ) → cond t (found v end) (refused (Malformed 4)) ≡ refused e → Own e
    go true v end p = absurd (not_both (sym p))
    go false v end p =
        let same : Malformed 4 ≡ e = refused_same p in
        (omega (arith, ap position_of same), λ z. omega (arith, ap position_of same, ap position_of z))

-- ---- how much of an input is looked at
opening_reaches : (own : ℕ) → Reaches (opening own) 58
opening_reaches own =
    let word = keyed_reaches (bytes "memory=") memory ((memory_format {P = Unit {0}}).reaches tt) in
    let parts = keyed_reaches (bytes "denominator=") (number judge) (number_reaches judge) in
    let own_sheet = keyed_reaches (bytes "sheet=") (number (sheet_checked own)) (number_reaches (sheet_checked own)) in
    let later = chain_reaches (keyed (bytes "memory=") memory) (λ _. denominator) word (λ m t from to place p. parts) in
    chain_reaches (sheet_of own) (λ _. chain (keyed (bytes "memory=") memory) (λ _. denominator)) own_sheet (λ n s at next line e. later)

pub openings_prefix : (s : List ℕ) (k : ℕ) → 14035 ≤ k → opening_cards (take k s) ≡ opening_cards s
openings_prefix s k h =
    (follow_near (front_near net_reaches) (λ t net next e. alone_near (opening_reaches net.sheet))).prefix s k (omega arith)
