-- The sheet of a card of a net: what passes is on the net's own; another one within the range is refused as 11 at line 1, whatever stands behind that line,
-- and nothing else is.
use Rattle.reply.specs.Respond.{Checked, Passed}
use Rattle.std.specs.Prelude.{Err}
use Prim.Native.Nat.{ℕ, ◌+◌, ◌≤◌}
use native.Mathlib.Decide.{dec_le}
use native.Mathlib.Omega.{arith}
use mathlib.Core.Path.{◌≡◌, refl, sym, ap, ◌∙◌}
use mathlib.Core.Bool.{Bool, true, false, cond}
use mathlib.Core.Logic.{◌⊎◌, inl, inr}
use mathlib.Core.List.{List, [], ◌++◌, append-nil}
use lib.ListN.{length, drop}
use lib.Dec.{leb}
use Rattle.reply.specs.declared.Refusal.{Refusal}
use Rattle.reply.specs.declared.Refusal.TheVariants.{Malformed, AnotherSheet}
use Rattle.reply.specs.Refusal.{number_of, position_of}
use Rattle.form.specs.Form.{Found, found, refused, also, Form, front, alone, follow}
use Rattle.form.specs.Sheet.{sheet_checked, sheet, on_sheet}
use Rattle.form.specs.Inverse.{Placed}
use Rattle.form.proofs.Found.{not_both, refused_same, then_refused, also_second}
use Rattle.form.proofs.Lines.{ranged_within}
use Rattle.form.proofs.Writable.{told_placed}
use Rattle.form.proofs.Row.{row_refused, row_behind}
use Rattle.form.proofs.Sheets.{sheet_line_format, far_sheet, another_sheet, own_sheet, another_read, another_told}
use Rattle.net.specs.declared.Net.{Net}
use Rattle.net.specs.Net.{net_card}
use Rattle.net.specs.Same.{writable_net}
use Rattle.net.proofs.Card.{net_inverse, net_transitions, net_own_sheet}
use Rattle.net.proofs.Writable.{net_told}
use Rattle.run.specs.declared.Run.{Run}
use Rattle.run.specs.declared.Order.{Order}
use Rattle.run.specs.Run.{run_lines, from_run, run_card, order_lines, from_order, order_card}
use Rattle.run.proofs.Card.{run_lines_format, order_lines_format}
use Rattle.run.proofs.Writable.{run_lines_told, order_lines_told}
use Rattle.run.proofs.Ranges.{run_in_ranges, order_in_ranges}
use Rattle.cards.specs.Cards.{card_of, both_cards, run_cards, order_cards, two_runs, run_checked, order_checked}
use Rattle.cards.specs.Claims.{AnotherAhead, OnAnotherSheet, SecondOnAnother}
use Rattle.cards.proofs.OnNet.{run_lawful, read_few}

module _ (net : Net) where
  -- ---- values
  pub run_own_sheet : (r : Run) → run_checked net r ≡ Passed → r.sheet ≡ net.sheet
  run_own_sheet r p = ((run_in_ranges net.sheet net.transitions r).0 (also_second (net_card.check net 1) _ p)).own

  pub order_own_sheet : (o : Order) → order_checked net o ≡ Passed → o.sheet ≡ net.sheet
  order_own_sheet o p = (order_in_ranges net.sheet net.transitions o (also_second (net_card.check net 1) _ p)).own

  module _ (p : net_card.check net 1 ≡ Passed) where
    pub run_wrong_sheet : (r : Run) → r.sheet ≤ 9999 → (r.sheet ≡ net.sheet → ⊥) → run_checked net r ≡ Err (AnotherSheet 1)
    run_wrong_sheet r small other = rw (p, another_sheet net.sheet r.sheet 1 small other) refl

    pub order_wrong_sheet : (o : Order) → o.sheet ≤ 9999 → (o.sheet ≡ net.sheet → ⊥) → order_checked net o ≡ Err (AnotherSheet 1)
    order_wrong_sheet o small other = rw (p, another_sheet net.sheet o.sheet 1 small other) refl

  -- ---- bytes
  module _ (n : ℕ) (small : n ≤ 9999) (other : n ≡ net.sheet → ⊥) (rest : List ℕ) where
    abbrev line : List ℕ
    line = sheet.text n ++ rest

    pub run_at_once : front (card_of run_card net) line ≡ refused (AnotherSheet 1)
    run_at_once = rw (another_read net.sheet (run_lines net.transitions) n small other line rest 0 1 refl) refl

    pub order_at_once : front (card_of order_card net) line ≡ refused (AnotherSheet 1)
    order_at_once = rw (another_read net.sheet (order_lines net.transitions) n small other line rest 0 1 refl) refl

    -- the same behind the card of the net
    pub behind_at_once : {A : Type 0} (card : ℕ → ℕ → Form A) → net_card.check net 1 ≡ Passed → front (card_of card net) line ≡ refused (AnotherSheet 1)
        → both_cards card (net_card.text net ++ line) ≡ refused (AnotherSheet 1)
    behind_at_once card p e = row_behind net_inverse (λ a. alone (card_of card a)) net line p (rw e refl)

    -- and of two runs behind it: that of the first, and that of the second behind a first card that passes
    abbrev both : Net → List ℕ → Found (Run × Run)
    both a = follow (front (card_of run_card a)) (λ _. alone (card_of run_card a))

    pub first_at_once : net_card.check net 1 ≡ Passed → two_runs (net_card.text net ++ line) ≡ refused (AnotherSheet 1)
    first_at_once p = row_behind net_inverse both net line p (rw run_at_once refl)

    pub second_at_once : net_card.check net 1 ≡ Passed → (x : Run) → (card_of run_card net).check x 1 ≡ Passed
        → two_runs (net_card.text net ++ ((card_of run_card net).text x ++ line)) ≡ refused (AnotherSheet 1)
    second_at_once p x q =
        let inverse = (run_lawful net).inverse (net_transitions net p).1 in
        row_behind net_inverse both net ((card_of run_card net).text x ++ line) p
        (row_behind inverse (λ _. alone (card_of run_card net)) x line q (rw run_at_once refl))

-- ---- 11 at line 1 is told of nothing else
checked_same : {r q : Refusal} → ◌≡◌ {A = Checked} (Err r) (Err q) → r ≡ q
checked_same e = cc

alone_another : {A : Type 0} (f : Form A) (s : List ℕ) → alone f s ≡ refused (AnotherSheet 1) → front f s ≡ refused (AnotherSheet 1)
alone_another {A} f s = then_refused (f.read s 0 1) _ (λ e. e) (λ a next p. go a next (leb (length s) next))
  where
    go : (a : A) (next : ℕ) (t : Bool) → cond t (found a next) (refused (Malformed (1 + f.lines a))) ≡ refused (AnotherSheet 1) → front f s ≡ refused (AnotherSheet 1)
    go a next true e = absurd (not_both (sym e))
    go a next false e = absurd (omega (arith, ap number_of (refused_same e)))

module _ (net : Net) (few : net.transitions ≤ 32) where
  -- a card of a net whose lines behind the sheet have later lines
  ahead : {A : Type 0} (f : Form A) {k : ℕ} → Placed f k → (s : List ℕ) → (on_sheet net.sheet f).read s 0 1 ≡ refused (AnotherSheet 1) → AnotherAhead net.sheet s
  ahead f w s e =
      let (n, next, read, other) = another_told net.sheet f w s 0 1 e in
      let was = (sheet_line_format.inverse tt).written_read n s 0 next 1 read in
      (n, drop next s, (ranged_within 0 9999 n 1 was.passed).1, other, was.bytes)

  run_ahead : (s : List ℕ) → front (card_of run_card net) s ≡ refused (AnotherSheet 1) → AnotherAhead net.sheet s
  run_ahead s =
      then_refused ((on_sheet net.sheet (run_lines net.transitions)).read s 0 1) _
      (ahead (run_lines net.transitions) ((run_lines_format net.transitions).placed few) s) (λ v next p e. absurd (not_both (sym e)))

  order_ahead : (s : List ℕ) → front (card_of order_card net) s ≡ refused (AnotherSheet 1) → AnotherAhead net.sheet s
  order_ahead s =
      then_refused ((on_sheet net.sheet (order_lines net.transitions)).read s 0 1) _
      (ahead (order_lines net.transitions) ((order_lines_format net.transitions).placed few) s) (λ v next p e. absurd (not_both (sym e)))

  -- the same of values
  module _ {A : Type 0} (f : Form A) (later : (a : A) (r : Refusal) → f.check a 2 ≡ Err r → 2 ≤ position_of r) where
    judged_ahead : (n : ℕ) (a : A) → also (sheet_checked net.sheet n 1) (f.check a 2) ≡ Err (AnotherSheet 1) → (n ≤ 9999) × (n ≡ net.sheet → ⊥)
    judged_ahead n a e = go (dec_le n 9999)
      where
        go : Dec (n ≤ 9999) → (n ≤ 9999) × (n ≡ net.sheet → ⊥)
        go (no far) = absurd (omega (arith, ap number_of (checked_same (rw (far_sheet net.sheet n 1 (omega arith)) at e))))
        go (yes h) = (h, λ own. let p : 2 ≤ 1 = later a (AnotherSheet 1) (rw (own_sheet net.sheet n 1 h own) at e) in omega arith)

  pub run_judged : (r : Run) → (card_of run_card net).check r 1 ≡ Err (AnotherSheet 1) → (r.sheet ≤ 9999) × (r.sheet ≡ net.sheet → ⊥)
  run_judged r =
      judged_ahead (run_lines net.transitions)
      (λ v q. told_placed (run_lines_told net.transitions few) ((run_lines_format net.transitions).placed few) v 2) r.sheet (from_run r).1

  pub order_judged : (o : Order) → (card_of order_card net).check o 1 ≡ Err (AnotherSheet 1) → (o.sheet ≤ 9999) × (o.sheet ≡ net.sheet → ⊥)
  order_judged o =
      judged_ahead (order_lines net.transitions)
      (λ v q. told_placed (order_lines_told net.transitions few) ((order_lines_format net.transitions).placed few) v 2) o.sheet (from_order o).1

-- a net itself is never refused so
pub net_judged : (net : Net) → net_card.check net 1 ≡ Err (AnotherSheet 1) → ⊥
net_judged net e =
    let t = net_card.text (writable_net net) in
    net_own_sheet t (net_told.told net t [] 0 1 (sym (append-nil t)) ∙ rw e refl)

both_ahead : {A : Type 0} (card : ℕ → ℕ → Form A)
    → ((net : Net) → net.transitions ≤ 32 → (s : List ℕ) → front (card_of card net) s ≡ refused (AnotherSheet 1) → AnotherAhead net.sheet s)
    → (s : List ℕ) → both_cards card s ≡ refused (AnotherSheet 1) → OnAnotherSheet s
both_ahead card h s =
    row_refused (front net_card) (λ net. alone (card_of card net)) s (λ e. absurd (net_own_sheet s e))
    (λ net next e q.
    let was = net_inverse.written_read net s 0 next 1 e in
    (net, drop next s, was.passed, was.bytes, h net (read_few s e) (drop next s) (alone_another (card_of card net) (drop next s) q)))

pub run_cards_ahead : (s : List ℕ) → run_cards s ≡ refused (AnotherSheet 1) → OnAnotherSheet s
run_cards_ahead = both_ahead run_card run_ahead

pub order_cards_ahead : (s : List ℕ) → order_cards s ≡ refused (AnotherSheet 1) → OnAnotherSheet s
order_cards_ahead = both_ahead order_card order_ahead

pub two_runs_ahead : (s : List ℕ) → two_runs s ≡ refused (AnotherSheet 1) → OnAnotherSheet s ⊎ SecondOnAnother s
two_runs_ahead s =
    row_refused (front net_card) (λ net. follow (front (card_of run_card net)) (λ _. alone (card_of run_card net))) s (λ e. absurd (net_own_sheet s e))
    (λ net next e.
    let card = card_of run_card net in
    let few = read_few s e in
    let was = net_inverse.written_read net s 0 next 1 e in
    let behind = drop next s in
    row_refused (front card) (λ _. alone card) behind (λ q. inl (net, behind, was.passed, was.bytes, run_ahead net few behind q))
    (λ x end p q.
    let then = ((run_lawful net).inverse few).written_read x behind 0 end 1 p in
    inr (
      net,
      x,
      drop end behind,
      rw was.passed then.passed,
      was.bytes ∙ ap (λ (l : List ℕ). net_card.text net ++ l) then.bytes,
      run_ahead net few (drop end behind) (alone_another card (drop end behind) q),
    )))
