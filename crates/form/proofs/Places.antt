-- A refusal names a line of what was read: a line refuses itself, and behind lines that were read the next line is numbered by how many these were.
use Rattle.reply.specs.Respond.{Checked}
use Rattle.std.specs.Prelude.{Err, None, Option, Some}
use Prim.Native.Nat.{ℕ, zero, suc, ◌+◌, ◌*◌, ◌≤◌}
use native.Mathlib.Omega.{arith}
use mathlib.Core.Path.{◌≡◌, refl, sym, ap}
use mathlib.Core.Bool.{Bool, true, false, cond, ◌&&◌}
use mathlib.Core.List.{List}
use lib.ListN.{length, drop}
use lib.Dec.{leb, ltb, eqb}
use Rattle.laws.specs.Slots.{pad_to, first_pad}
use Rattle.reply.specs.declared.Refusal.{Refusal}
use Rattle.reply.specs.declared.Refusal.TheVariants.{Malformed, OutOfRange, NoSuchTransition}
use Rattle.reply.specs.Refusal.{position_of}
use Rattle.text.specs.Key.{begins_with}
use Rattle.text.specs.Number.{field_at}
use Rattle.form.specs.Form.{found, refused, and_then, found_if, Form, keyed, chain, lines_of, reads, exactly, held, alone}
use Rattle.form.specs.Line.{formed, ranged, listed, number, items_at, all_ranged, items_ranged, item_list}
use Rattle.form.specs.Inverse.{Inverse, Among, Placed}
use Rattle.form.proofs.Combine.{held_back}
use Rattle.form.proofs.Found.{not_both, refused_same, found_value, then_found, then_refused, test_refused, judged_refused}

-- ---- one line
-- the refusal of the first line
here : (line n : ℕ) {r : Refusal} → 1 ≤ n → position_of r ≡ line → Among line n r
here line n some e = record { from = omega arith; below = omega arith }

-- more lines
pub among_more : {line n m : ℕ} {r : Refusal} → n ≤ m → Among line n r → Among line m r
among_more h p = record { from = p.from; below = omega arith }

pub placed_more : {A : Type 0} {f : Form A} {n m : ℕ} → n ≤ m → Placed f n → Placed f m
placed_more h w =
    record {
      named = λ r s at line e. among_more h (w.named r s at line e);
      few = λ a s at next line e. omega (arith, w.few a s at next line e);
    }

-- a reading of one line that refuses that line alone
pub line_placed : {A : Type 0} {f : Form A} → ((r : Refusal) (s : List ℕ) (at line : ℕ) → f.read s at line ≡ refused r → position_of r ≡ line)
    → ((a : A) → f.lines a ≡ 1) → Placed f 1
line_placed own one =
    record {
      named = λ r s at line e. here line 1 (omega arith) (own r s at line e);
      few = λ a s at next line e. omega (arith, one a);
    }

formed_own : (line : ℕ) (n : Option (ℕ × ℕ)) {r : Refusal} → formed line n ≡ refused r → position_of r ≡ line
formed_own line (Some (n, next)) e = absurd (not_both (sym e))
formed_own line None e = ap position_of (sym (refused_same e))

-- a check that refuses the line it is given
abbrev pub OwnLine : {A : Type 0} → (A → ℕ → Checked) → Type 0
OwnLine {A} judge = (a : A) (line : ℕ) (r : Refusal) → judge a line ≡ Err r → position_of r ≡ line

pub ranged_own : (low high : ℕ) → OwnLine (ranged low high)
ranged_own low high n line r e = ap position_of (sym (test_refused (leb low n && leb n high) (OutOfRange line) e))

pub listed_own : (transitions : ℕ) → OwnLine (listed transitions)
listed_own transitions n line r e = ap position_of (sym (test_refused (ltb n transitions) (NoSuchTransition line) e))

-- a number of the line, and what is found of it
pub field_own : {A : Type 0} (judge : A → ℕ → Checked) (to : ℕ → A) → OwnLine judge → (line : ℕ) (n : Option (ℕ × ℕ)) {r : Refusal}
    → and_then (formed line n) (λ m next. found_if (judge (to m) line) (to m) next) ≡ refused r → position_of r ≡ line
field_own judge to own line n {r} =
    then_refused (formed line n) (λ m next. found_if (judge (to m) line) (to m) next) (formed_own line n)
    (λ m next e q. own (to m) line r (judged_refused (judge (to m) line) (to m) next q))

pub number_placed : (judge : ℕ → ℕ → Checked) → OwnLine judge → Placed (number judge) 1
number_placed judge own = line_placed (λ r s at line e. field_own judge (λ n. n) own line (field_at s at true) e) (λ n. refl)

items_own : (k : ℕ) (s : List ℕ) (at line : ℕ) {r : Refusal} → items_at k s at line ≡ refused r → position_of r ≡ line
unfolding items_at
items_own zero s at line e = absurd (not_both (sym e))
items_own (suc k) s at line e =
    then_refused (formed line (field_at s at (eqb k 0))) _ (formed_own line (field_at s at (eqb k 0)))
    (λ n next p q. then_refused (items_at k s next line) _ (items_own k s next line) (λ ns end x y. absurd (not_both (sym y))) q) e

pub items_placed : (k size low high : ℕ) → Placed (item_list k size low high) 1
items_placed k size low high =
    line_placed
    (λ r s at line e.
    then_refused (items_at k s at line) _ (items_own k s at line)
    (λ ns next p q.
    ap position_of (sym (test_refused (all_ranged low high ns) (OutOfRange line) (judged_refused (items_ranged low high ns line) (pad_to size 0 ns) next q)))) e)
    (λ ns. refl)

-- ---- forms put together
module _ (key : List ℕ) {A : Type 0} {f : Form A} {n : ℕ} where
  pub keyed_placed : 1 ≤ n → Placed f n → Placed (keyed key f) n
  keyed_placed some w =
      record {
        named = λ r s at line. go r s at line (begins_with key (drop at s));
        few = λ a s at next line. many a s at next line (begins_with key (drop at s));
      }
    where
      go : (r : Refusal) (s : List ℕ) (at line : ℕ) (t : Bool) → cond t (f.read s (at + length key) line) (refused (Malformed line)) ≡ refused r
          → Among line n r
      go r s at line true e = w.named r s (at + length key) line e
      go r s at line false e = here line n some (ap position_of (sym (refused_same e)))

      many : (a : A) (s : List ℕ) (at next line : ℕ) (t : Bool) → cond t (f.read s (at + length key) line) (refused (Malformed line)) ≡ found a next
          → f.lines a ≤ n
      many a s at next line true e = w.few a s (at + length key) next line e
      many a s at next line false e = absurd (not_both e)

-- a refusal behind lines that were read
behind : {line lines n m : ℕ} {r : Refusal} → lines ≤ n → Among (line + lines) m r → Among line (n + m) r
behind h p = record { from = omega arith; below = omega arith }

-- the lines of a value that was found
same_lines : {A : Type 0} (lines : A → ℕ) {a b : A} {next end n : ℕ} → found a next ≡ found b end → lines a ≤ n → lines b ≤ n
same_lines lines e h = rw (← found_value e) h

module _ {A B : Type 0} {f : Form A} {g : A → Form B} {n m : ℕ} where
  pub chain_placed : Placed f n → ((a : A) (s : List ℕ) (at next line : ℕ) → f.read s at line ≡ found a next → Placed (g a) m) → Placed (chain f g) (n + m)
  chain_placed w z =
      record {
        named = λ r s at line.
            then_refused (f.read s at line) _ (λ e. among_more (omega arith) (w.named r s at line e))
            (λ a next e.
            then_refused ((g a).read s next (line + f.lines a)) _
            (λ q. behind (w.few a s at next line e) ((z a s at next line e).named r s next (line + f.lines a) q))
            (λ b end p q. absurd (not_both (sym q))));
        few = λ v s at next line e.
            let u = then_found (f.read s at line) _ e in
            let x = then_found ((g u.value).read s u.place (line + f.lines u.value)) _ u.then in
            let h = w.few u.value s at u.place line u.first in
            let h' = (z u.value s at u.place line u.first).few x.value s u.place x.place (line + f.lines u.value) x.first in
            same_lines (chain f g).lines x.then (omega arith);
      }

module _ {A B : Type 0} (to : A → B) (from : B → A) {f : Form A} {n : ℕ} where
  pub held_placed : ((a : A) → from (to (f.clean a)) ≡ f.clean a) → Inverse f → Placed f n → Placed (held to from f) n
  held_placed back i w =
      record {
        named = λ r s at line. then_refused (f.read s at line) _ (w.named r s at line) (λ a next e q. absurd (not_both (sym q)));
        few = λ b s at next line e.
            let u = then_found (f.read s at line) _ e in
            let same = held_back to from f back (i.written_read u.value s at u.place line u.first).cleaned in
            same_lines (λ (x : B). f.lines (from x)) u.then (rw same (w.few u.value s at u.place line u.first));
      }

module _ {A : Type 0} {f : Form A} {m : ℕ} (w : Placed f m) where
  reads_named : (n : ℕ) (r : Refusal) (s : List ℕ) (at line : ℕ) → reads f n s at line ≡ refused r → Among line (n * m) r
  unfolding reads
  reads_named zero r s at line = λ e. absurd (not_both (sym e))
  reads_named (suc n) r s at line =
      then_refused (f.read s at line) _ (λ e. among_more (omega arith) (w.named r s at line e))
      (λ a next e.
      then_refused (reads f n s next (line + f.lines a)) _
      (λ q. among_more (omega arith) (behind (w.few a s at next line e) (reads_named n r s next (line + f.lines a) q)))
      (λ l end p q. absurd (not_both (sym q))))

  -- what was read in a row: as many as were asked for, each of few lines
  reads_few : (n : ℕ) (l : List A) (s : List ℕ) (at next line : ℕ) → reads f n s at line ≡ found l next → (length l ≡ n) × (lines_of f l ≤ n * m)
  unfolding reads lines_of
  reads_few zero l s at next line e = rw (← found_value e) (refl, omega arith)
  reads_few (suc n) l s at next line e =
      let u = then_found (f.read s at line) _ e in
      let x = then_found (reads f n s u.place (line + f.lines u.value)) _ u.then in
      let h = w.few u.value s at u.place line u.first in
      let (many, short) = reads_few n x.value s u.place x.place (line + f.lines u.value) x.first in
      rw (← found_value x.then) (ap suc many, omega arith)

  pub exactly_placed : (n size : ℕ) (d : A) → Placed (exactly n size d f) (n * m)
  exactly_placed n size d =
      record {
        named = λ r s at line. then_refused (reads f n s at line) _ (reads_named n r s at line) (λ l end p q. absurd (not_both (sym q)));
        few = λ l s at next line e.
            let u = then_found (reads f n s at line) _ e in
            let (many, short) = reads_few n u.value s at u.place line u.first in
            same_lines (exactly n size d f).lines u.then (rw (first_pad n size d u.value many) short);
      }

-- a whole card: what follows it has the line behind the last
pub alone_placed : {A : Type 0} (f : Form A) {n : ℕ} → Placed f n → (s : List ℕ) {r : Refusal} → alone f s ≡ refused r → Among 1 (n + 1) r
alone_placed f {n} w s {r} =
    then_refused (f.read s 0 1) _ (λ e. among_more (omega arith) (w.named r s 0 1 e))
    (λ a next e. go a next (w.few a s 0 next 1 e) (leb (length s) next))
  where
    go : (a : _) (next : ℕ) → f.lines a ≤ n → (t : Bool) → cond t (found a next) (refused (Malformed (1 + f.lines a))) ≡ refused r → Among 1 (n + 1) r
    go a next h true e = absurd (not_both (sym e))
    go a next h false e =
        let p : position_of r ≡ 1 + f.lines a = ap position_of (sym (refused_same e)) in
        record { from = omega arith; below = omega arith }
