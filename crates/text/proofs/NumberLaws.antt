-- A number that was written is read again, and what is read was written so: the digits of a value are those of the text,
-- and the form that a reader asks for, no leading zero, is that of the one width that the writer takes.
use Rattle.std.specs.Prelude.{None, Option, Some}
use Rattle.laws.specs.Pairs.{some_parts}
use Prim.Native.Nat.{ℕ, zero, suc, ◌+◌, ◌-◌, ◌*◌, ◌/◌, ◌%◌, ◌^◌, ◌≤◌, ◌<◌}
use native.Mathlib.Nat.{pow-suc, pow-le-pow_right, mul-le-mul_right, div-lt_iff_lt-mul, div-add-mod', mod-lt}
use native.Mathlib.Omega.{arith}
use mathlib.Core.List.{List, [], ◌∷◌, ◌++◌, map, append_assoc}
use mathlib.Core.Bool.{Bool, true, false, not, cond, ◌&&◌, ◌||◌, and-false, or-true, false≢true, and-eq-true_iff}
use mathlib.Core.Logic.{◌≢◌, ◌⊎◌, inl, inr}
use mathlib.Core.Path.{◌≡◌, refl, sym, ap, ◌∙◌}
use lib.ListN.{length, get_or, take, drop, length-append, length-drop, length-take}
use lib.Seq.{take_all, drop-drop}
use lib.Arith.{digits_div, digits_mod}
use lib.Dec.{leb, eqb, lit<, lit≤}
use borrow.Author.Tests.{leb-true, leb-false, eqb-true, eqb-false, not-true, le-leb, lt-leb, eq-eqb, ne_eqb}
use Rattle.laws.specs.Writing.{drop_take, drop_behind}
use Rattle.text.specs.Key.{begins_with}
use Rattle.text.proofs.KeyLaws.{begins_text, begins_split, begins_take}
use Rattle.text.specs.Number.{is_digit, digits_of, value_of, well_formed, read_digits, number_at, separator, closed, field_at}
use Rattle.text.specs.Decimal.{digits, width, decimal, field}
use Rattle.text.proofs.DecimalLaws.{Width, width_least, width_unique, width_right, decimal_width, length_decimal_small, power_positive}

-- ---- digits and their value
-- each is the value of a digit
abbrev pub AllDigits : List ℕ → Type 0
AllDigits [] = Unit {0}
AllDigits (d ∷ ds) = (d ≤ 9) × AllDigits ds

pub value_after : (v : ℕ) (ds : List ℕ) → value_of v ds ≡ v * 10 ^ length ds + value_of 0 ds
unfolding value_of
value_after v [] = omega arith
value_after v (d ∷ ds) = rw (pow-suc 10 (length ds)) (omega (arith, value_after (v * 10 + d) ds, value_after (0 * 10 + d) ds))

pub value_first : (d : ℕ) (ds : List ℕ) → value_of 0 (d ∷ ds) ≡ d * 10 ^ length ds + value_of 0 ds
unfolding value_of
value_first d ds = omega (arith, value_after (0 * 10 + d) ds)

pub value_small : (ds : List ℕ) → AllDigits ds → value_of 0 ds < 10 ^ length ds
value_small [] h = unfold value_of in lit< tt
value_small (d ∷ ds) h =
    omega (arith, value_first d ds, value_small ds h.1, pow-suc 10 (length ds), mul-le-mul_right (10 ^ length ds) h.0)

-- the digits of a value, as bytes
pub digits_value : (ds : List ℕ) → AllDigits ds → digits (length ds) (value_of 0 ds) ≡ map (λ d. 48 + d) ds
unfolding digits
digits_value [] h = refl
digits_value (d ∷ ds) h =
    let s = value_small ds h.1 in
    rw (value_first d ds, digits_div d s, digits_mod d s, digits_value ds h.1) refl

-- ---- the digits that a list begins with
pub digit_range : (b : ℕ) → is_digit b ≡ true → (48 ≤ b) × (b ≤ 57)
digit_range b e = let h = (and-eq-true_iff (leb 48 b) (leb b 57)).0 e in (leb-true 48 b h.0, leb-true b 57 h.1)

pub digits_are : (s : List ℕ) → AllDigits (digits_of s)
unfolding digits_of
digits_are [] = tt
digits_are (b ∷ s) = go (digits_are s) (is_digit b) refl
  where
    go : AllDigits (digits_of s) → (t : Bool) → is_digit b ≡ t → AllDigits (cond t ((b - 48) ∷ digits_of s) [])
    go h true e = (omega (arith, digit_range b e), h)
    go h false e = tt

pub digits_bytes : (s : List ℕ) → s ≡ map (λ d. 48 + d) (digits_of s) ++ drop (length (digits_of s)) s
unfolding digits_of
digits_bytes [] = refl
digits_bytes (b ∷ s) = go (digits_bytes s) (is_digit b) refl
  where
    go : s ≡ map (λ d. 48 + d) (digits_of s) ++ drop (length (digits_of s)) s → (t : Bool) → is_digit b ≡ t
        → b ∷ s ≡ map (λ d. 48 + d) (cond t ((b - 48) ∷ digits_of s) []) ++ drop (length (cond t ((b - 48) ∷ digits_of s) [])) (b ∷ s)
    go h true e = let same : b ≡ 48 + (b - 48) = omega (arith, digit_range b e) in cc
    go h false e = refl

pub digits_take : (k : ℕ) (s : List ℕ) → digits_of (take k s) ≡ take k (digits_of s)
unfolding digits_of
digits_take zero s = refl
digits_take (suc k) [] = refl
digits_take (suc k) (b ∷ s) = go (digits_take k s) (is_digit b)
  where
    go : digits_of (take k s) ≡ take k (digits_of s) → (t : Bool) → cond t ((b - 48) ∷ digits_of (take k s)) [] ≡ take (suc k) (cond t ((b - 48) ∷ digits_of s) [])
    go h true = cc
    go h false = refl

pub digit_test : (b : ℕ) → 48 ≤ b → b ≤ 57 → is_digit b ≡ true
digit_test b l h = rw (le-leb 48 b l, le-leb b 57 h) refl

-- the digits of a number that was written, up to what is no digit
module _ (c : ℕ) (rest : List ℕ) (stop : is_digit c ≡ false) where
  pub digits_written : (k n : ℕ) → n < 10 ^ k → (length (digits_of (digits k n ++ c ∷ rest)) ≡ k) × (value_of 0 (digits_of (digits k n ++ c ∷ rest)) ≡ n)
  unfolding digits digits_of value_of
  digits_written zero n h = rw stop (refl, omega arith)
  digits_written (suc k) n h =
      let q = n / 10 ^ k in
      let r = n % 10 ^ k in
      let tail = digits_of (digits k r ++ c ∷ rest) in
      let small : q < 10 = (div-lt_iff_lt-mul (power_positive k)).1 (omega (arith, pow-suc 10 k)) in
      let ih = digits_written k r (mod-lt n (power_positive k)) in
      let same : 48 + q - 48 ≡ q = omega arith in
      rw (digit_test (48 + q) (omega arith) (omega arith), same) (ap suc ih.0, value_first q tail ∙ rw (ih.0, ih.1) (div-add-mod' n (10 ^ k)))

-- ---- the form of a number
pub form_width : (ds : List ℕ) → AllDigits ds → well_formed ds ≡ true → Width (value_of 0 ds) (length ds) × (length ds ≤ 9)
form_width [] h e = absurd (false≢true e)
form_width (d ∷ ds) h e =
    let f = (and-eq-true_iff (leb 1 (suc (length ds)) && leb (suc (length ds)) 9) (eqb (suc (length ds)) 1 || not (eqb d 0))).0 e in
    let few : suc (length ds) ≤ 9 = leb-true (suc (length ds)) 9 ((and-eq-true_iff (leb 1 (suc (length ds))) (leb (suc (length ds)) 9)).0 f.0).1 in
    (record { enough = value_small (d ∷ ds) h; one = omega arith; least = go (eqb (suc (length ds)) 1) refl f.1 }, few)
  where
    go : (t : Bool) → eqb (suc (length ds)) 1 ≡ t → (t || not (eqb d 0)) ≡ true → (suc (length ds) ≡ 1) ⊎ (10 ^ (suc (length ds) - 1) ≤ value_of 0 (d ∷ ds))
    go true e _ = inl (eqb-true (suc (length ds)) 1 e)
    go false e g =
        let z : d ≢ 0 = eqb-false d 0 (not-true (eqb d 0) g) in
        let one : 1 ≤ d = omega arith in
        let less : suc (length ds) - 1 ≡ length ds = omega arith in
        inr (rw less (omega (arith, value_first d ds, mul-le-mul_right (10 ^ length ds) one)))

first_digit : (ds : List ℕ) → AllDigits ds → 1 ≤ length ds → get_or ds 0 0 ≡ 0 → value_of 0 ds < 10 ^ (length ds - 1)
first_digit [] h o z = absurd (omega arith)
first_digit (d ∷ ds) h o z =
    let less : suc (length ds) - 1 ≡ length ds = omega arith in
    rw (less, value_first d ds, z) (omega (arith, value_small ds h.1))

pub width_form : (ds : List ℕ) → AllDigits ds → Width (value_of 0 ds) (length ds) → length ds ≤ 9 → well_formed ds ≡ true
width_form ds h w few = rw (le-leb 1 (length ds) w.one, le-leb (length ds) 9 few) (go w.least)
  where
    go : (length ds ≡ 1) ⊎ (10 ^ (length ds - 1) ≤ value_of 0 ds) → (eqb (length ds) 1 || not (eqb (get_or ds 0 0) 0)) ≡ true
    go (inl e) = rw (eq-eqb (length ds) 1 e) refl
    go (inr l) = rw (ne_eqb (get_or ds 0 0) 0 (λ z. omega (arith, first_digit ds h w.one z))) (or-true (eqb (length ds) 1))

pub long_form : (ds : List ℕ) → 10 ≤ length ds → well_formed ds ≡ false
long_form ds h = rw (le-leb 1 (length ds) (omega arith), lt-leb (length ds) 9 h) refl

-- a zero in front of other digits
pub zero_form : (ds : List ℕ) → 2 ≤ length ds → get_or ds 0 0 ≡ 0 → well_formed ds ≡ false
zero_form ds h z = rw (ne_eqb (length ds) 1 (λ e. omega arith), z) (and-false (leb 1 (length ds) && leb (length ds) 9))

-- ---- a number at a position
pub number_of_right : (ds : List ℕ) (at : ℕ) → well_formed ds ≡ true → read_digits ds at ≡ Some (value_of 0 ds, at + length ds)
number_of_right ds at e = ap (λ (t : Bool). cond {A = Option (ℕ × ℕ)} t (Some (value_of 0 ds, at + length ds)) None) e

pub number_of_wrong : (ds : List ℕ) (at : ℕ) → well_formed ds ≡ false → read_digits ds at ≡ None
number_of_wrong ds at e = ap (λ (t : Bool). cond {A = Option (ℕ × ℕ)} t (Some (value_of 0 ds, at + length ds)) None) e

pub number_text : (n at c : ℕ) (s rest : List ℕ) → n < 10 ^ 9 → is_digit c ≡ false → drop at s ≡ decimal n ++ c ∷ rest
    → number_at s at ≡ Some (n, at + length (decimal n))
unfolding decimal
number_text n at c s rest h stop e =
    let w : Width n (width 19 n) = width_right 19 n (omega arith) in
    let ds = digits_of (digits (width 19 n) n ++ c ∷ rest) in
    let found = digits_written c rest stop (width 19 n) n w.enough in
    let few : length ds ≤ 9 = omega (arith, found.0, width_least n (width 19 n) 9 w h (lit≤ tt)) in
    let form : well_formed ds ≡ true = width_form ds (digits_are (digits (width 19 n) n ++ c ∷ rest)) (rw (found.0, found.1) w) few in
    rw e (number_of_right ds at form ∙ rw (found.0, found.1, decimal_width n) refl)

-- the text of the number n stands at a position, and next is the place behind it
pub record NumberThere (s : List ℕ) (at n next : ℕ) : Type 0 where
  pub text : drop at s ≡ decimal n ++ drop next s
  pub end : next ≡ at + length (decimal n)
  pub small : n < 10 ^ 9

pub number_split : (n at next : ℕ) (s : List ℕ) → number_at s at ≡ Some (n, next) → NumberThere s at n next
unfolding decimal
number_split n at next s = go (well_formed ds) refl
  where
    ds : List ℕ
    ds = digits_of (drop at s)

    go : (t : Bool) → well_formed ds ≡ t → cond {A = Option (ℕ × ℕ)} t (Some (value_of 0 ds, at + length ds)) None ≡ Some (n, next) → NumberThere s at n next
    go true e q =
        let parts = some_parts q in
        let value : value_of 0 ds ≡ n = parts.0 in
        let end : at + length ds ≡ next = parts.1 in
        let form = form_width ds (digits_are (drop at s)) e in
        let w : Width n (length ds) = rw value at form.0 in
        let p : 10 ^ length ds ≤ 10 ^ 9 = pow-le-pow_right {n = 10} (lit< tt) form.1 in
        let small : n < 10 ^ 9 = omega (arith, w.enough) in
        let same : length ds ≡ width 19 n = width_unique n (length ds) (width 19 n) w (width_right 19 n (omega arith)) in
        let bytes : map (λ d. 48 + d) ds ≡ decimal n = sym (digits_value ds (digits_are (drop at s))) ∙ rw (value, same) refl in
        let rest : drop (length ds) (drop at s) ≡ drop next s = drop-drop (length ds) at s ∙ rw end refl in
        record {
          text = digits_bytes (drop at s) ∙ rw (bytes, rest) refl;
          end = sym end ∙ rw (decimal_width n, same) refl;
          small = small;
        }
    go false e q = let z : ◌≡◌ {A = ℕ} 0 1 = cc in absurd (omega arith)

-- ---- a number with its separator at a position
pub separator_stops : (last : Bool) → is_digit (separator last) ≡ false
separator_stops true = refl
separator_stops false = refl

pub length_field : (n : ℕ) (last : Bool) → length (field n last) ≡ length (decimal n) + 1
length_field n last = length-append (decimal n) (separator last ∷ [])

pub field_text : (n at : ℕ) (last : Bool) (s rest : List ℕ) → n < 10 ^ 9 → drop at s ≡ field n last ++ rest
    → field_at s at last ≡ Some (n, at + length (field n last))
unfolding field_at
field_text n at last s rest h e =
    let parts : drop at s ≡ decimal n ++ (separator last ∷ rest) = e ∙ append_assoc (decimal n) (separator last ∷ []) rest in
    let read = number_text n at (separator last) s rest h (separator_stops last) parts in
    let behind = drop_behind s (decimal n) (separator last ∷ rest) at parts in
    let stands : begins_with (separator last ∷ []) (drop (at + length (decimal n)) s) ≡ true = rw behind (begins_text (separator last ∷ []) rest) in
    let end : at + length (decimal n) + 1 ≡ at + length (field n last) = omega (arith, length_field n last) in
    rw (read, stands, end) refl

-- the text of the number n with its separator stands at a position, and next is the place behind it
pub record FieldThere (s : List ℕ) (at : ℕ) (last : Bool) (n next : ℕ) : Type 0 where
  pub text : drop at s ≡ field n last ++ drop next s
  pub end : next ≡ at + length (field n last)
  pub small : n < 10 ^ 9

module _ (n at next : ℕ) (last : Bool) (s : List ℕ) where
  close_there : (v m : ℕ) → NumberThere s at v m → (t : Bool) → begins_with (separator last ∷ []) (drop m s) ≡ t
      → cond {A = Option (ℕ × ℕ)} t (Some (v, m + 1)) None ≡ Some (n, next) → FieldThere s at last n next
  close_there v m r true e q =
      let parts = some_parts q in
      let value : v ≡ n = parts.0 in
      let end : m + 1 ≡ next = parts.1 in
      let sep : drop m s ≡ separator last ∷ drop next s = (begins_split (separator last ∷ []) s m e).0 ∙ rw end refl in
      record {
        text = r.text ∙ rw (sep, value) (sym (append_assoc (decimal n) (separator last ∷ []) (drop next s)));
        end = rw (← value) (omega (arith, r.end, length_field v last));
        small = rw value at r.small;
      }
  close_there v m r false e q = let z : ◌≡◌ {A = ℕ} 0 1 = cc in absurd (omega arith)

  pub field_split : field_at s at last ≡ Some (n, next) → FieldThere s at last n next
  unfolding field_at
  field_split = go (number_at s at) refl
    where
      go : (r : Option (ℕ × ℕ)) → number_at s at ≡ r → closed s last r ≡ Some (n, next) → FieldThere s at last n next
      go None e q = let z : ◌≡◌ {A = ℕ} 0 1 = cc in absurd (omega arith)
      go (Some (v, m)) e q = close_there v m (number_split v at m s e) (begins_with (separator last ∷ []) (drop m s)) refl q

  pub field_near : field_at s at last ≡ Some (n, next) → (next ≤ at + 10) × (next ≤ length s)
  field_near e =
      let f = field_split e in
      let l = ap length f.text ∙ length-append (field n last) (drop next s) in
      let few = length_decimal_small n f.small in
      (omega (arith, f.end, length_field n last), omega (arith, l, f.end, length_field n last, length-drop at s, length-drop next s))

-- ---- what lies ten places on or further does not matter
number_of_take : (m at : ℕ) (ds : List ℕ) → 10 ≤ m → read_digits (take m ds) at ≡ read_digits ds at
number_of_take m at ds h = go (leb (length ds) m) refl
  where
    go : (t : Bool) → leb (length ds) m ≡ t → read_digits (take m ds) at ≡ read_digits ds at
    go true e = ap (λ (l : List ℕ). read_digits l at) (take_all m ds (leb-true (length ds) m e))
    go false e =
        let l = leb-false (length ds) m e in
        number_of_wrong (take m ds) at (long_form (take m ds) (omega (arith, length-take m ds))) ∙ sym (number_of_wrong ds at (long_form ds (omega arith)))

pub number_take : (k at : ℕ) (s : List ℕ) → at + 10 ≤ k → number_at (take k s) at ≡ number_at s at
number_take k at s h =
    ap (λ (l : List ℕ). read_digits l at) (ap digits_of (drop_take at k s) ∙ digits_take (k - at) (drop at s))
    ∙ number_of_take (k - at) at (digits_of (drop at s)) (omega arith)

pub field_take : (k at : ℕ) (last : Bool) (s : List ℕ) → at + 10 ≤ k → field_at (take k s) at last ≡ field_at s at last
unfolding field_at
field_take k at last s h = ap (closed (take k s) last) (number_take k at s h) ∙ go (number_at s at) refl
  where
    go : (r : Option (ℕ × ℕ)) → number_at s at ≡ r → closed (take k s) last r ≡ closed s last r
    go None e = refl
    go (Some (v, m)) e =
        let there = number_split v at m s e in
        let few = length_decimal_small v there.small in
        rw (begins_take (separator last ∷ []) s k m (omega (arith, there.end))) refl
