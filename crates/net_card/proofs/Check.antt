-- The check of a net whose tokens and weights are bytes: all of them pass, so its counts and intervals decide.
use Rattle.reply.specs.Respond.{Checked, Passed}
use Rattle.std.specs.Prelude.{Err}
use Prim.Native.Nat.{ℕ, ◌+◌, ◌*◌, ◌≤◌, ◌<◌, min}
use native.Mathlib.Nat.{min-eq_left, min-le_right}
use native.Mathlib.Omega.{arith}
use mathlib.Core.Path.{◌≡◌, refl, sym, ap, subst, ◌∙◌}
use mathlib.Core.Bool.{true}
use mathlib.Core.List.{List, [], ◌∷◌}
use lib.ListN.{get_or, replicate}
use mir.Syntax.{w8}
use mir.Val.{Fits}
use borrow.Author.Tests.{le-leb}
use Rattle.laws.specs.Arrays.{filled_most}
use Rattle.laws.specs.Each.{Each, each_of}
use Rattle.laws.specs.Slots.{first_of, length_first, get_d_first}
use Rattle.reply.specs.declared.Refusal.{Refusal}
use Rattle.form.specs.Form.{also, checks}
use Rattle.form.specs.Line.{ranged, all_ranged, items}
use Rattle.form.proofs.Lines.{ranged_within}
use Rattle.form.proofs.Loops.{Checking, checking_start, checking_more, checking_refused, checking_done}
use Rattle.net.specs.declared.Net.{Net}
use Rattle.net.specs.Net.{row, no_row, no_transition, starts, row_at, rows_of, takes_in, gives_in, net_card}
use Rattle.net.proofs.Rows.{row_there}
use Rattle.net_card.specs.Code.{interval_lines}
use Rattle.net_card.proofs.Read.{start_line, starts_lines}

-- the tokens and weights of a net are bytes
pub record InBytes (n : Net) : Type 0 where
  pub start : (i : ℕ) → get_or n.start i 0 ≤ 255
  pub take : (i : ℕ) → get_or n.take i 0 ≤ 255
  pub give : (i : ℕ) → get_or n.give i 0 ≤ 255

pub bytes_of : (n : Net) → ((i : ℕ) → Fits w8 (get_or n.start i 0)) → ((i : ℕ) → Fits w8 (get_or n.take i 0)) → ((i : ℕ) → Fits w8 (get_or n.give i 0))
    → InBytes n
bytes_of n start take give = record { start = λ i. omega (arith, start i); take = λ i. omega (arith, take i); give = λ i. omega (arith, give i) }

-- ---- what passes
-- the first numbers of a list of bytes
first_bytes : (k : ℕ) (l : List ℕ) → ((i : ℕ) → i < k → get_or l i 0 ≤ 255) → Each (λ x. x ≤ 255) (first_of k 0 l)
first_bytes k l h =
    each_of (λ (x : ℕ). x ≤ 255) 0 (first_of k 0 l)
    (λ i b. let c : i < k = omega (arith, length_first k 0 l) in subst (λ (x : ℕ). x ≤ 255) (sym (get_d_first k 0 l i c)) (h i c))

items_pass : (places line : ℕ) (l : List ℕ) → ((i : ℕ) → i < 16 → get_or l i 0 ≤ 255) → (items places 16 0 255).check l line ≡ Passed
unfolding all_ranged
items_pass places line l h = rw (go (first_of (min places 16) 0 l) (first_bytes (min places 16) l (λ i b. h i (omega (arith, min-le_right places 16))))) refl
  where
    go : (ns : List ℕ) → Each (λ x. x ≤ 255) ns → all_ranged 0 255 ns ≡ true
    go [] e = refl
    go (n ∷ ns) e = rw (le-leb 0 n (omega arith), le-leb n 255 e.0, go ns e.1) refl

starts_pass : (places line : ℕ) (l : List ℕ) → ((i : ℕ) → get_or l i 0 ≤ 255) → (starts places).check l line ≡ Passed
unfolding checks
starts_pass places line l h = go (first_of (min places 16) 0 l) line (first_bytes (min places 16) l (λ i b. h i))
  where
    go : (ns : List ℕ) (q : ℕ) → Each (λ x. x ≤ 255) ns → checks start_line ns q ≡ Passed
    go [] q e = refl
    go (n ∷ ns) q e = rw (le-leb 0 n (omega arith), le-leb n 255 e.0) (go ns (q + 1) e.1)

-- ---- a transition
module _ (n : Net) where
  -- its interval, as its two lines are checked
  abbrev pub interval_checked : ℕ → ℕ → Checked
  interval_checked t line = let i = get_or n.table t no_transition in interval_lines.check (i.earliest, i.latest) line

  module _ (small : InBytes n) where
    take_bytes : (t i : ℕ) → i < 16 → get_or (row_at n t).take i 0 ≤ 255
    take_bytes t i b = omega (arith, filled_most (takes_in n.take t) (replicate 16 0) 16 i b, small.take (32 * i + t))

    give_bytes : (t i : ℕ) → i < 16 → get_or (row_at n t).give i 0 ≤ 255
    give_bytes t i b = omega (arith, filled_most (gives_in n.give t) (replicate 16 0) 16 i b, small.give (16 * t + i))

    -- the interval decides
    row_check : (t line : ℕ) → (row n.places).check (row_at n t) line ≡ interval_checked t line
    row_check t line =
        rw (
          items_pass n.places (line + 1 + 1) (row_at n t).take (take_bytes t),
          items_pass n.places (line + 1 + 1 + 1) (row_at n t).give (give_bytes t),
        ) (go (ranged 0 1000 (get_or n.table t no_transition).earliest line) _)
      where
        go : (a b : Checked) → also a (also b Passed) ≡ also a b
        go Passed Passed = refl
        go Passed (Err r) = refl
        go (Err r) b = refl

-- ---- a net
module _ (n : Net) where
  pub sheet_fails : {r : Refusal} → ranged 0 9999 n.sheet 1 ≡ Err r → Err r ≡ net_card.check n 1
  sheet_fails e = sym (rw e refl)

  pub places_fail : {r : Refusal} → ranged 0 9999 n.sheet 1 ≡ Passed → ranged 1 16 n.places 2 ≡ Err r → Err r ≡ net_card.check n 1
  places_fail h e = sym (rw (h, e) refl)

  pub transitions_fail : {r : Refusal} → ranged 0 9999 n.sheet 1 ≡ Passed → ranged 1 16 n.places 2 ≡ Passed → ranged 1 32 n.transitions 3 ≡ Err r
      → Err r ≡ net_card.check n 1
  transitions_fail h e l = sym (rw (h, e, l) refl)

  -- of its transitions, t are checked
  abbrev pub RowsChecked : ℕ → Type 0
  RowsChecked t = Checking (row n.places) n.transitions no_row (rows_of n) (4 + n.places) t (4 + n.places + 4 * t)

  pub rows_begin : RowsChecked 0
  rows_begin =
      let e : 4 + n.places ≡ 4 + n.places + 4 * 0 = omega arith in
      subst (Checking (row n.places) n.transitions no_row (rows_of n) (4 + n.places) 0) e
      (checking_start (row n.places) n.transitions no_row (rows_of n) (4 + n.places))

  module _ (small : InBytes n) (h₀ : ranged 0 9999 n.sheet 1 ≡ Passed) (p : ranged 1 16 n.places 2 ≡ Passed) (q : ranged 1 32 n.transitions 3 ≡ Passed) where
    by_rows : net_card.check n 1 ≡ checks (row n.places) (first_of n.transitions no_row (rows_of n)) (4 + n.places)
    by_rows =
        let lines = starts_lines n.places n.start (ranged_within 1 16 n.places 2 p).1 in
        rw (h₀, p, q, starts_pass n.places 4 n.start small.start, lines, min-eq_left (ranged_within 1 32 n.transitions 3 q).1) refl

    module _ {t : ℕ} (w : RowsChecked t) where
      -- what is said of the next one's interval
      abbrev interval : Checked
      interval = interval_checked n t (4 + n.places + 4 * t)

      module _ (h : t < n.transitions) where
        checked_row : (row n.places).check (get_or (rows_of n) t no_row) (4 + n.places + 4 * t) ≡ interval
        checked_row =
            ap (λ r. (row n.places).check r (4 + n.places + 4 * t)) (row_there n t (omega (arith, (ranged_within 1 32 n.transitions 3 q).1)))
            ∙ row_check n small t (4 + n.places + 4 * t)

        pub interval_fails : {r : Refusal} → interval ≡ Err r → Err r ≡ net_card.check n 1
        interval_fails e = sym (by_rows ∙ checking_refused w h (checked_row ∙ e))

        pub interval_passes_lem : interval ≡ Passed → RowsChecked (t + 1)
        interval_passes_lem e =
            let next : 4 + n.places + 4 * t + 4 ≡ 4 + n.places + 4 * (t + 1) = omega arith in
            rw next at (checking_more w h (checked_row ∙ e))

      pub all_pass : n.transitions ≤ t → Passed ≡ net_card.check n 1
      all_pass h = sym (by_rows ∙ checking_done w h)
