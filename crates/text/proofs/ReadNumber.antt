-- A number is read digit by digit: what the digits from the start make is what the value so far and the digits that follow make, and the reader
-- counts the digits passed, so that where they end it knows the length and the value of all. A zero stands alone in
-- front of its separator, any other digit begins a number, and a byte that is no digit ends one, with the separator that is asked for or without.
use Rattle.std.specs.Prelude.{None, Some}
use Prim.Native.Nat.{ℕ, ◌+◌, ◌-◌, ◌*◌, ◌^◌, ◌≤◌, ◌<◌}
use native.Mathlib.Numerals.{add-one}
use native.Mathlib.Nat.{pow-suc, pow-le-pow_right, zero-add}
use native.Mathlib.Omega.{arith}
use mathlib.Core.List.{List, [], ◌∷◌}
use mathlib.Core.Bool.{Bool, true, false, not, cond, and-true, or-true}
use mathlib.Core.Logic.{◌≢◌}
use mathlib.Core.Path.{◌≡◌, refl, sym, ap, ◌∙◌}
use lib.ListN.{length, get_or, drop, drop_of_length-le}
use lib.Seq.{drop-cons}
use lib.Dec.{eqb, lit<}
use borrow.Author.Tests.{le-leb, eqb-true, eqb-false, ne_eqb}
use Rattle.text.specs.declared.ByteClass.{ByteClass}
use Rattle.text.specs.declared.ByteClass.TheVariants.{Zero, Digit, Comma, LineEnd, Other}
use Rattle.text.specs.Key.{begins_with}
use Rattle.text.specs.Number.{is_digit, class_of, digits_of, value_of, well_formed, number_at, separator, closed, field_at}
use Rattle.text.proofs.KeyLaws.{begins_split}
use Rattle.text.proofs.NumberLaws.{digit_range, digit_test, separator_stops, long_form, zero_form, number_of_right, number_of_wrong}

-- ---- what a class says of the byte
abbrev Says : ByteClass → ℕ → Type 0
Says Zero b = b ≡ 48
Says (Digit d) b = (b ≡ 48 + d) × (0 < d) × (d ≤ 9)
Says Comma b = b ≡ 44
Says LineEnd b = b ≡ 10
Says Other b = (is_digit b ≡ false) × (b ≢ 44) × (b ≢ 10)

class_says : (b : ℕ) (k : ByteClass) → class_of b ≡ k → Says k b
class_says b k e = rw e at (go (is_digit b) (eqb b 48) (eqb b 44) (eqb b 10) refl refl refl refl)
  where
    go : (t z u w : Bool) → is_digit b ≡ t → eqb b 48 ≡ z → eqb b 44 ≡ u → eqb b 10 ≡ w →
        Says (cond t (cond z Zero (Digit (b - 48))) (cond u Comma (cond w LineEnd Other))) b
    go true true u w p o q r = eqb-true b 48 o
    go true false u w p o q r =
        let h = digit_range b p in
        let n = eqb-false b 48 o in
        (omega arith, omega arith, omega arith)
    go false z true w p o q r = eqb-true b 44 q
    go false z false true p o q r = eqb-true b 10 r
    go false z false false p o q r = (p, eqb-false b 44 q, eqb-false b 10 r)

-- whether a byte of a class is a digit
abbrev pub digit_by : ByteClass → Bool
digit_by Zero = true
digit_by (Digit d) = true
digit_by Comma = false
digit_by LineEnd = false
digit_by Other = false

pub digit_class : (b : ℕ) (k : ByteClass) → class_of b ≡ k → digit_by k ≡ is_digit b
digit_class b k e = go k (class_says b k e)
  where
    go : (k : ByteClass) → Says k b → digit_by k ≡ is_digit b
    go Zero h = rw h refl
    go (Digit d) h = sym (digit_test b (omega arith) (omega arith))
    go Comma h = rw h refl
    go LineEnd h = rw h refl
    go Other h = sym h.0

-- a byte whose class is neither that of a zero nor that of another digit is no digit
pub no_digit : (b : ℕ) (k : ByteClass) → class_of b ≡ k → k ≢ Zero → ((d : ℕ) → k ≢ Digit d) → false ≡ is_digit b
no_digit b k e zero_not digit_not = go k zero_not digit_not ∙ digit_class b k e
  where
    go : (k : ByteClass) → k ≢ Zero → ((d : ℕ) → k ≢ Digit d) → false ≡ digit_by k
    go Zero z d = absurd (z refl)
    go (Digit n) z d = absurd (d n refl)
    go Comma z d = refl
    go LineEnd z d = refl
    go Other z d = refl

-- ---- the digits that a list begins with, one step at a time
digits_more : (s : List ℕ) (i : ℕ) → i < length s → is_digit (get_or s i 0) ≡ true
    → digits_of (drop i s) ≡ (get_or s i 0 - 48) ∷ digits_of (drop (i + 1) s)
unfolding digits_of
digits_more s i l t = rw (add-one, drop-cons s i 0, t) refl

pub digits_stop : (s : List ℕ) (i : ℕ) → i < length s → is_digit (get_or s i 0) ≡ false → digits_of (drop i s) ≡ []
unfolding digits_of
digits_stop s i l t = rw (drop-cons s i 0, t) refl

pub digits_end : (s : List ℕ) (i : ℕ) → length s ≤ i → digits_of (drop i s) ≡ []
unfolding digits_of
digits_end s i l = rw (drop_of_length-le s l) refl

value_more : (v d : ℕ) (ds : List ℕ) → value_of v (d ∷ ds) ≡ value_of (v * 10 + d) ds
unfolding value_of
value_more v d ds = refl

value_none : (v : ℕ) → value_of v [] ≡ v
unfolding value_of
value_none v = refl

-- ---- bounds
room : (v k d : ℕ) → v < 10 ^ k → d ≤ 9 → v * 10 + d < 10 ^ (k + 1)
room v k d h l = rw (add-one, pow-suc) (omega arith)

pub small : (v k : ℕ) → v < 10 ^ k → k ≤ 9 → v < 1000000000
small v k h l = let m : 10 ^ k ≤ 10 ^ 9 = pow-le-pow_right {n = 10} (lit< tt) l in omega arith

-- ---- the separator behind a number
pub separated_there : (s : List ℕ) (at : ℕ) (last : Bool) (b : ℕ) → at < length s → b ≡ separator last
    → eqb (get_or s at 0) b ≡ begins_with (separator last ∷ []) (drop at s)
unfolding begins_with
separated_there s at last b h e = rw (e, drop-cons s at 0, and-true) refl

pub separated_short : (s : List ℕ) (at : ℕ) (last : Bool) → length s ≤ at → false ≡ begins_with (separator last ∷ []) (drop at s)
unfolding begins_with
separated_short s at last h = rw (drop_of_length-le s h) refl

separator_ends : (s : List ℕ) (at : ℕ) (last : Bool) → begins_with (separator last ∷ []) (drop at s) ≡ true → digits_of (drop at s) ≡ []
unfolding digits_of
separator_ends s at last t = rw ((begins_split (separator last ∷ []) s at t).0, separator_stops last) refl

-- whether a byte of a class is the separator
abbrev pub ends_by : Bool → ByteClass → Bool
ends_by last Zero = false
ends_by last (Digit d) = false
ends_by last Comma = not last
ends_by last LineEnd = last
ends_by last Other = false

pub ends_none : (last : Bool) (k : ByteClass) → k ≢ Comma → k ≢ LineEnd → false ≡ ends_by last k
ends_none last Zero p q = refl
ends_none last (Digit d) p q = refl
ends_none last Comma p q = absurd (p refl)
ends_none last LineEnd p q = absurd (q refl)
ends_none last Other p q = refl

ends_nothing : (last : Bool) (b : ℕ) → b ≢ 44 → b ≢ 10 → eqb b (separator last) ≡ false
ends_nothing true b p q = ne_eqb b 10 q
ends_nothing false b p q = ne_eqb b 44 p

ends_class : (last : Bool) (b : ℕ) (k : ByteClass) → Says k b → eqb b (separator last) ≡ ends_by last k
ends_class last b Zero h = ends_nothing last b (λ e. omega arith) (λ e. omega arith)
ends_class last b (Digit d) h = ends_nothing last b (λ e. omega arith) (λ e. omega arith)
ends_class true b Comma h = rw h refl
ends_class false b Comma h = rw h refl
ends_class true b LineEnd h = rw h refl
ends_class false b LineEnd h = rw h refl
ends_class last b Other h = ends_nothing last b h.1 h.2

pub separated_class : (s : List ℕ) (at : ℕ) (last : Bool) (k : ByteClass) → at < length s → class_of (get_or s at 0) ≡ k
    → ends_by last k ≡ begins_with (separator last ∷ []) (drop at s)
separated_class s at last k l e =
    sym (ends_class last (get_or s at 0) k (class_says (get_or s at 0) k e)) ∙ separated_there s at last (separator last) l refl

-- ---- a number with its separator, by the digits at the position
module _ (s : List ℕ) (at : ℕ) (last : Bool) where
  field_none : well_formed (digits_of (drop at s)) ≡ false → None ≡ field_at s at last
  unfolding field_at
  field_none e = rw (number_of_wrong (digits_of (drop at s)) at e) refl

  -- no digit stands there
  pub field_nothing : digits_of (drop at s) ≡ [] → None ≡ field_at s at last
  field_nothing e = field_none (rw e refl)

  -- one digit
  field_digit : (d : ℕ) → digits_of (drop at s) ≡ d ∷ [] → closed s last (Some (d, at + 1)) ≡ field_at s at last
  unfolding field_at value_of
  field_digit d e = rw (e, zero-add) refl

  module _ (l : at < length s) where
    -- a zero stands alone
    field_lone : get_or s at 0 ≡ 48 → begins_with (separator last ∷ []) (drop (at + 1) s) ≡ false → None ≡ field_at s at last
    field_lone e t = go (digits_of (drop (at + 1) s)) refl
      where
        first : digits_of (drop at s) ≡ 0 ∷ digits_of (drop (at + 1) s)
        first = digits_more s at l (rw e refl) ∙ rw e refl

        go : (ds : List ℕ) → digits_of (drop (at + 1) s) ≡ ds → None ≡ field_at s at last
        go [] q = rw t at (field_digit 0 (first ∙ rw q refl))
        go (d ∷ ds) q =
            let more : 2 ≤ length (digits_of (drop at s)) = omega (arith, ap length first, ap length q) in
            field_none (zero_form (digits_of (drop at s)) more (ap (λ (l : List ℕ). get_or l 0 0) first))

    -- a digit with its separator
    pub field_one : is_digit (get_or s at 0) ≡ true → begins_with (separator last ∷ []) (drop (at + 1) s) ≡ true
        → Some (get_or s at 0 - 48, at + 2) ≡ field_at s at last
    field_one d t =
        let two : at + 1 + 1 ≡ at + 2 = omega arith in
        rw (t, two) at (field_digit (get_or s at 0 - 48) (digits_more s at l d ∙ rw (separator_ends s (at + 1) last t) refl))

    -- a zero with more behind it
    pub field_zero : class_of (get_or s at 0) ≡ Zero → begins_with (separator last ∷ []) (drop (at + 1) s) ≡ false → None ≡ field_at s at last
    field_zero e t = field_lone (class_says (get_or s at 0) Zero e) t

-- ---- the state of a reader that began at `at` with a digit from 1 on, and that stands behind the digits up to i, whose value is v
pub record Run (s : List ℕ) (at v i : ℕ) : Type 0 where
  pub from : at < i
  pub few : i - at ≤ 9
  pub small : v < 10 ^ (i - at)
  pub count : length (digits_of (drop at s)) ≡ (i - at) + length (digits_of (drop i s))
  pub value : value_of 0 (digits_of (drop at s)) ≡ value_of v (digits_of (drop i s))
  pub lead : 0 < get_or (digits_of (drop at s)) 0 0

pub run_start : (s : List ℕ) (at : ℕ) → at < length s → is_digit (get_or s at 0) ≡ true → get_or s at 0 ≢ 48 → Run s at (get_or s at 0 - 48) (at + 1)
run_start s at l t e =
    let d = get_or s at 0 - 48 in
    let h = digit_range (get_or s at 0) t in
    let m = digits_more s at l t in
    let one : at + 1 - at ≡ 1 = omega arith in
    record {
      from = omega arith;
      few = omega arith;
      small = rw one (omega arith);
      count = omega (arith, ap length m);
      value = rw m (value_more 0 d (digits_of (drop (at + 1) s)) ∙ rw zero-add refl);
      lead = rw m (omega arith);
    }

module _ (s : List ℕ) (at v i : ℕ) (r : Run s at v i) where
  -- one more digit
  module _ (l : i < length s) (t : is_digit (get_or s i 0) ≡ true) where
    pub run_more : (i - at ≡ 9 → ⊥) → Run s at (v * 10 + (get_or s i 0 - 48)) (i + 1)
    run_more n =
        let d = get_or s i 0 - 48 in
        let h = digit_range (get_or s i 0) t in
        let m = digits_more s i l t in
        let k : (i - at) + 1 ≡ (i + 1) - at = omega arith in
        record {
          from = omega arith;
          few = omega arith;
          small = rw k at (room v (i - at) d r.small (omega arith));
          count = omega (arith, ap length m);
          value = r.value ∙ rw m (value_more v d (digits_of (drop (i + 1) s)));
          lead = r.lead;
        }

    -- a tenth digit
    pub run_long : (last : Bool) → i - at ≡ 9 → None ≡ field_at s at last
    run_long last n = field_none s at last (long_form (digits_of (drop at s)) (omega (arith, ap length (digits_more s i l t))))

  -- where the digits end, they make a number
  run_number : digits_of (drop i s) ≡ [] → number_at s at ≡ Some (v, i)
  run_number e = number_of_right ds at form ∙ rw (value, end) refl
    where
      ds : List ℕ
      ds = digits_of (drop at s)

      value : value_of 0 ds ≡ v
      value = r.value ∙ rw e (value_none v)

      end : at + length ds ≡ i
      end = omega (arith, ap length e)

      form : well_formed ds ≡ true
      form =
          rw (le-leb 1 (length ds) (omega (arith, end)), le-leb (length ds) 9 (omega (arith, end)), ne_eqb (get_or ds 0 0) 0 (λ z. omega arith))
          (or-true (eqb (length ds) 1))

  -- and with the separator behind them a field
  module _ (last : Bool) where
    run_field : digits_of (drop i s) ≡ [] → closed s last (Some (v, i)) ≡ field_at s at last
    unfolding field_at
    run_field e = rw (run_number e) refl

    pub run_closed : digits_of (drop i s) ≡ [] → begins_with (separator last ∷ []) (drop i s) ≡ true → Some (v, i + 1) ≡ field_at s at last
    run_closed e t = rw t at (run_field e)

    -- or without
    pub run_open : digits_of (drop i s) ≡ [] → begins_with (separator last ∷ []) (drop i s) ≡ false → None ≡ field_at s at last
    run_open e t = rw t at (run_field e)

    pub run_end : length s ≤ i → None ≡ field_at s at last
    run_end l = run_open (digits_end s i l) (sym (separated_short s i last l))
