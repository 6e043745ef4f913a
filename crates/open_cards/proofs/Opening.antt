-- The lines that open a run, by the cases of the code: they are read one behind the other, and the first refusal counts; what was read of them opens the run.
use Rattle.std.specs.Prelude.{Err, None, Option, Some}
use Prim.Native.Nat.{ℕ, ◌+◌, ◌≤◌, ◌<◌}
use native.Mathlib.Omega.{arith}
use mathlib.Core.Path.{◌≡◌, refl, sym, ap, subst, ◌∙◌}
use mathlib.Core.Bool.{Bool, true, false, cond}
use mathlib.Core.List.{List}
use lib.ListN.{length, drop}
use borrow.Author.Tests.{le-leb, lt-leb}
use Rattle.reply.specs.declared.Refusal.{Refusal}
use Rattle.reply.specs.declared.Refusal.TheVariants.{Malformed}
use Rattle.reply.specs.Respond.{Outcome, refusal, Responded, Checked, Passed, Reply}
use Rattle.text.specs.Key.{bytes, begins_with}
use Rattle.text.specs.Number.{field_at}
use Rattle.text.proofs.NumberLaws.{field_split}
use Rattle.form.specs.Form.{Found, found, refused, and_then, found_if, keyed, front, alone}
use Rattle.form.specs.Line.{formed, ranged, number}
use Rattle.form.specs.Sheet.{sheet_of}
use Rattle.form.proofs.Found.{not_both, refused_same, found_value, found_place}
use Rattle.net.specs.declared.Net.{Net}
use Rattle.net.specs.Net.{net_card}
use Rattle.net.proofs.Card.{net_inverse}
use Rattle.run.specs.declared.Memory.{Memory}
use Rattle.run.proofs.Ranges.{ranged_passes}
use Rattle.operations.specs.Operation.{once_read}
use Rattle.open_run.specs.declared.Entered.{Entered}
use Rattle.open_run.specs.Open.{open_of}
use Rattle.open_run.specs.Cards.{denominator, opening, opened_card, open_cards, card_after}
use Rattle.open_run.proofs.Opening.{opening_read_lem}
use Rattle.open_cards.specs.Code.{opening_read, opening_on}

-- ---- the line `denominator`
-- every number that has its form is one of nine digits, so its check may come behind one for that range
module _ (judge : ℕ → ℕ → Checked) (key s : List ℕ) (at line : ℕ) where
  abbrev judged : Found ℕ → Found ℕ
  judged f = and_then f (λ n next. found_if (judge n line) n next)

  in_steps : (keyed key (number judge)).read s at line ≡ judged ((keyed key (number (ranged 0 999999999))).read s at line)
  in_steps = go (begins_with key (drop at s)) (field_at s (at + length key) true) refl
    where
      go : (t : Bool) (x : Option (ℕ × ℕ)) → field_at s (at + length key) true ≡ x →
          cond t (judged (formed line x)) (refused (Malformed line)) ≡
          judged (cond t (and_then (formed line x) (λ n next. found_if (ranged 0 999999999 n line) n next)) (refused (Malformed line)))
      go false x e = refl
      go true None e = refl
      go true (Some (n, next)) e =
          rw (ranged_passes 0 999999999 n line (omega arith) (omega (arith, (field_split n (at + length key) next true s e).small))) refl

module _ (s : List ℕ) (at : ℕ) where
  -- what stands there, whatever its range
  abbrev any_read : Found ℕ
  any_read = (keyed (bytes "denominator=") (number (ranged 0 999999999))).read s at 3

  told : judged (λ n line. ranged 1 1000 n 0) (bytes "denominator=") s at 3 any_read ≡ denominator.read s at 3
  told = sym (in_steps (λ n line. ranged 1 1000 n 0) (bytes "denominator=") s at 3)

  pub none_there : {r : Refusal} → any_read ≡ refused r → refused r ≡ denominator.read s at 3
  none_there e = rw e at told

  module _ {n next : ℕ} (e : any_read ≡ found n next) where
    pub out_of_range : {r : Refusal} → ranged 1 1000 n 0 ≡ Err r → refused r ≡ denominator.read s at 3
    out_of_range q = rw (e, q) at told

    pub in_range : ranged 1 1000 n 0 ≡ Passed → found n next ≡ denominator.read s at 3
    in_range q = rw (e, q) at told

-- ---- all lines: the sheet is the net's, and is not told
pub on_sheet_lem : (own : ℕ) (s : List ℕ) {sheet next : ℕ} → (sheet_of own).read s 0 1 ≡ found sheet next
    → opening_on s next ≡ opening_read (front (opening own) s)
on_sheet_lem own s {sheet} {next} e = rw e (go (opening_on s next))
  where
    go : (f : Found (Memory × ℕ)) → f ≡ opening_read (and_then f (λ v end. found {A = ℕ × (Memory × ℕ)} (sheet, v) end))
    go (found v end) = refl
    go (refused r) = refl

-- ---- the run that they open on a net
lines_open : (net : Net) (s : List ℕ) (v : ℕ × (Memory × ℕ)) {next : ℕ} → front (opening net.sheet) s ≡ found v next → net_card.check net 1 ≡ Passed
    → length s ≤ next → once_read (alone (opening net.sheet) s) (opened_card net) ≡ card_after (open_of net v.1.0 v.1.1)
lines_open net s v {next} is n h = rw (is, le-leb (length s) next h, n, opening_read_lem net.sheet s v next is) refl

module _ (net : Net) (s : List ℕ) where
  -- the lines
  abbrev lines : Found (ℕ × (Memory × ℕ))
  lines = front (opening net.sheet) s

  -- what comes of them
  abbrev on_lines : Outcome
  on_lines = once_read (alone (opening net.sheet) s) (opened_card net)

  pub lines_stopped : {r : Refusal} → opening_read lines ≡ refused r → on_lines ≡ refusal r
  lines_stopped {r} = go lines refl
    where
      go : (f : Found (ℕ × (Memory × ℕ))) → lines ≡ f → opening_read f ≡ refused r → on_lines ≡ refusal r
      go (found v next) is e = absurd (not_both (sym e))
      go (refused q) is e = rw (is, refused_same e) refl

  module _ {m : Memory} {d next : ℕ} (e : opening_read lines ≡ found (m, d) next) where
    there : (v : ℕ × (Memory × ℕ)) × (lines ≡ found v next) × (v.1 ≡ (m, d))
    there = go lines refl e
      where
        go : (f : Found (ℕ × (Memory × ℕ))) → lines ≡ f → opening_read f ≡ found (m, d) next
            → (v : ℕ × (Memory × ℕ)) × (lines ≡ found v next) × (v.1 ≡ (m, d))
        go (found v end) is e = (v, is ∙ ap (found v) (found_place e), found_value e)
        go (refused q) is e = absurd (not_both e)

    pub lines_followed : next < length s → on_lines ≡ refusal (Malformed 4)
    lines_followed h = let (v, is, same) = there in rw (is, lt-leb (length s) next h) refl

    pub lines_answered : net_card.check net 1 ≡ Passed → length s ≤ next → {x : Entered} → x ≡ open_of net m d
        → {entry : List ℕ} {q : Reply} {exit : List ℕ} → Responded (card_after x) entry q exit → Responded on_lines entry q exit
    lines_answered n h opens {entry} {q} {exit} w =
        let (v, is, same) = there in
        let whole = ap card_after opens ∙ ap (λ (p : Memory × ℕ). card_after (open_of net p.0 p.1)) (sym same) ∙ sym (lines_open net s v is n h) in
        subst (λ (x : Outcome). Responded x entry q exit) whole w

-- ---- a net card, behind which these lines stand
module _ (s : List ℕ) {net : Net} {next : ℕ} (e : net_card.read s 0 1 ≡ found net next) where
  pub net_passed : net_card.check net 1 ≡ Passed
  net_passed = (net_inverse.written_read net s 0 next 1 e).passed

  pub net_answered : {rest entry : List ℕ} {q : Reply} {exit : List ℕ} → rest ≡ drop next s
      → Responded (once_read (alone (opening net.sheet) rest) (opened_card net)) entry q exit → Responded (open_cards s) entry q exit
  net_answered {rest} {entry} {q} {exit} is v =
      subst (λ (o : Outcome). Responded o entry q exit) (go (alone (opening net.sheet) rest) refl) v
    where
      go : (f : Found (ℕ × (Memory × ℕ))) → alone (opening net.sheet) rest ≡ f → once_read f (opened_card net) ≡ open_cards s
      go (found b end) h = rw (e, ← is, h) refl
      go (refused r) h = rw (e, ← is, h) refl
