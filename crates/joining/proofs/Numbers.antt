-- The line `pairs`: a list that was written is read back, and what is read was written so; and the loop that reads it.
use Rattle.std.specs.Prelude.{Err, None, Ok, Option, Some}
use Prim.Native.Nat.{ℕ, zero, suc, ◌+◌, ◌-◌, ◌^◌, ◌≤◌, ◌<◌}
use native.Mathlib.Decide.{dec_lt}
use native.Mathlib.Omega.{arith}
use mathlib.Core.Path.{◌≡◌, refl, sym, ap, ◌∙◌}
use mathlib.Core.Bool.{Bool, true, false, cond}
use mathlib.Core.Logic.{◌⊎◌, inl, inr}
use mathlib.Core.List.{List, [], ◌∷◌, ◌++◌, append_assoc, append-nil}
use lib.ListN.{length, set, take, drop, length-append, length-take, length-drop, drop_of_length-le}
use lib.Seq.{take_all, take-append-le, set_out}
use lib.Dec.{leb, eqb}
use borrow.Author.Tests.{ne_eqb}
use Rattle.laws.specs.Each.{Each}
use Rattle.laws.specs.Slots.{pad_to, length_pad, pad_more}
use Rattle.laws.specs.Writing.{first_there, second_there, both_there, both_long}
use Rattle.reply.specs.declared.Refusal.{Refusal}
use Rattle.reply.specs.declared.Refusal.TheVariants.{Malformed}
use Rattle.text.specs.Key.{bytes, begins_with}
use Rattle.text.specs.Number.{digits_of, number_at, closed, field_at}
use Rattle.text.specs.Decimal.{field}
use Rattle.text.proofs.KeyLaws.{begins_text, begins_split}
use Rattle.text.proofs.NumberLaws.{length_field, field_text, field_split}
use Rattle.form.specs.Form.{Found, found, refused, and_then, alone}
use Rattle.form.specs.Line.{formed, items_text}
use Rattle.form.proofs.Found.{not_both, refused_same, found_value, found_place, then_found, then_refused, then_same, then_then}
use Rattle.form.proofs.Lines.{formed_value}
use Rattle.joining.specs.declared.Pairs.{Pairs}
use Rattle.joining.specs.Pairs.{last_or, numbers_at, numbers_text, numbers, pairs}
use Rattle.joining.specs.Code.{kept, pairs_read}

-- ---- a number at a position
-- one with a comma behind it does not end the line
pub comma_no_end : (s : List ℕ) (at : ℕ) {n next : ℕ} → field_at s at false ≡ Some (n, next) → field_at s at true ≡ None
unfolding field_at begins_with
comma_no_end s at {n} {next} = go (number_at s at)
  where
    behind : (v m : ℕ) (t : Bool) → begins_with (44 ∷ []) (drop m s) ≡ t → cond {A = Option (ℕ × ℕ)} t (Some (v, m + 1)) None ≡ Some (n, next)
        → closed s true (Some (v, m)) ≡ None
    behind v m true e q = rw (begins_split (44 ∷ []) s m e).0 refl
    behind v m false e q = let z : ◌≡◌ {A = ℕ} 0 1 = cc in absurd (omega arith)

    go : (r : Option (ℕ × ℕ)) → closed s false r ≡ Some (n, next) → closed s true r ≡ None
    go None e = refl
    go (Some (v, m)) e = behind v m (begins_with (44 ∷ []) (drop m s)) refl e

-- the word `none` is no number
none_no_number : (s : List ℕ) (at : ℕ) (last : Bool) → begins_with (bytes "none\n") (drop at s) ≡ true → field_at s at last ≡ None
unfolding digits_of field_at
none_no_number s at last t = rw (begins_split (bytes "none\n") s at t).0 refl

number_not_none : (s : List ℕ) (at : ℕ) (last : Bool) {n next : ℕ} → field_at s at last ≡ Some (n, next) → begins_with (bytes "none\n") (drop at s) ≡ false
number_not_none s at last e = go (begins_with (bytes "none\n") (drop at s)) refl
  where
    go : (t : Bool) → begins_with (bytes "none\n") (drop at s) ≡ t → t ≡ false
    go true t = let q = none_no_number s at last t in let z : ◌≡◌ {A = ℕ} 0 1 = cc in absurd (omega arith)
    go false t = refl

-- the place behind it is a later one
pub field_ahead : (s : List ℕ) (at : ℕ) (last : Bool) {n next : ℕ} → field_at s at last ≡ Some (n, next) → at < next
field_ahead s at last {n} {next} e = omega (arith, (field_split n at next last s e).end, length_field n last)

-- behind the end of the input there is none
none_behind : (s : List ℕ) (at : ℕ) (last : Bool) → length s ≤ at → field_at s at last ≡ None
unfolding digits_of field_at
none_behind s at last h = rw (drop_of_length-le s {i = at} h) refl

numbers_behind : (k : ℕ) (s : List ℕ) (at line : ℕ) → length s ≤ at → numbers_at k s at line ≡ refused (Malformed line)
unfolding numbers_at
numbers_behind zero s at line h = refl
numbers_behind (suc k) s at line h = rw (none_behind s at true h, none_behind s at false h) refl

-- ---- what was written is read back
-- a list has no more numbers than bytes
items_long : (ns : List ℕ) → length ns ≤ length (items_text ns)
unfolding items_text
items_long [] = omega arith
items_long (n ∷ ns) =
    let last = eqb (length ns) 0 in
    omega (arith, length-append (field n last) (items_text ns), length_field n last, items_long ns)

-- one number, and one in front of others
one_text : (n : ℕ) → items_text (n ∷ []) ≡ field n true
unfolding items_text
one_text n = append-nil (field n true)

more_text : (n : ℕ) (ns : List ℕ) → 1 ≤ length ns → items_text (n ∷ ns) ≡ field n false ++ items_text ns
unfolding items_text
more_text n ns h = rw (ne_eqb (length ns) 0 (λ z. omega arith)) refl

numbers_back : (k n : ℕ) (ns s rest : List ℕ) (at line : ℕ) → Each (λ m. m < 10 ^ 9) (n ∷ ns) → length ns < k → drop at s ≡ items_text (n ∷ ns) ++ rest
    → numbers_at k s at line ≡ found (n ∷ ns) (at + length (items_text (n ∷ ns)))
unfolding numbers_at
numbers_back zero n ns s rest at line small h e = absurd (omega arith)
numbers_back (suc k) n [] s rest at line small h e =
    rw (one_text n, field_text n at true s rest small.0 (rw (one_text n) at e)) refl
numbers_back (suc k) n (m ∷ ns) s rest at line small h e =
    let t = field n false in
    let u = items_text (m ∷ ns) in
    let both = more_text n (m ∷ ns) (omega arith) in
    let e' : drop at s ≡ t ++ u ++ rest = rw both at e in
    let e₁ = field_text n at false s (u ++ rest) small.0 (first_there s t u rest at e') in
    let e₂ = numbers_back k m ns s rest (at + length t) line small.1 (omega arith) (second_there s t u rest at e') in
    rw (comma_no_end s at e₁, e₁, e₂, both) (ap (found (n ∷ m ∷ ns)) (both_long t u at))

first_number : (n : ℕ) (ns s rest : List ℕ) (at : ℕ) → n < 10 ^ 9 → drop at s ≡ items_text (n ∷ ns) ++ rest
    → field_at s at (eqb (length ns) 0) ≡ Some (n, at + length (field n (eqb (length ns) 0)))
unfolding items_text
first_number n ns s rest at small e =
    let last = eqb (length ns) 0 in
    field_text n at last s (items_text ns ++ rest) small (first_there s (field n last) (items_text ns) rest at e)

list_back : (list s rest : List ℕ) (at line : ℕ) → Each (λ n. n < 10 ^ 9) list → drop at s ≡ numbers_text list ++ rest
    → numbers.read s at line ≡ found list (at + length (numbers_text list))
list_back [] s rest at line small e = rw (ap (begins_with (bytes "none\n")) e ∙ begins_text (bytes "none\n") rest) refl
list_back (n ∷ ns) s rest at line small e =
    let room = ap length e ∙ length-append (items_text (n ∷ ns)) rest in
    rw (number_not_none s at (eqb (length ns) 0) (first_number n ns s rest at small.0 e))
    (numbers_back (length s) n ns s rest at line small (omega (arith, room, items_long (n ∷ ns), length-drop at s)) e)

pub pairs_back : (list s rest : List ℕ) (at line : ℕ) → Each (λ n. n < 10 ^ 9) list → drop at s ≡ pairs.text list ++ rest
    → pairs.read s at line ≡ found list (at + length (pairs.text list))
pairs_back list s rest at line small e =
    let key = bytes "pairs=" in
    let t = numbers_text list in
    let there : begins_with key (drop at s) ≡ true = ap (begins_with key) (first_there s key t rest at e) ∙ begins_text key (t ++ rest) in
    rw there (list_back list s rest (at + length key) line small (second_there s key t rest at e) ∙ ap (found list) (both_long key t at))

-- ---- what is read was written so
-- a text stands at a position, next is the place behind it, and the numbers can be written
pub record NumbersThere (text list s : List ℕ) (at next : ℕ) : Type 0 where
  pub bytes : drop at s ≡ text ++ drop next s
  pub end : next ≡ at + length text
  pub small : Each (λ n. n < 10 ^ 9) list

there_same : (text : List ℕ → List ℕ) {ns ms s : List ℕ} {at next end : ℕ} → found ns next ≡ found ms end → NumbersThere (text ns) ns s at next
    → NumbersThere (text ms) ms s at end
there_same text e w = rw (← found_value e, ← found_place e) w

-- one number or more
abbrev Several : List ℕ → List ℕ → ℕ → ℕ → Type 0
Several ns s at next = (1 ≤ length ns) × NumbersThere (items_text ns) ns s at next

some_same : {ns ms s : List ℕ} {at next end : ℕ} → found ns next ≡ found ms end → Several ns s at next → Several ms s at end
some_same e w = rw (← found_value e, ← found_place e) w

one_there : (s : List ℕ) (at : ℕ) {n next : ℕ} → field_at s at true ≡ Some (n, next) → Several (n ∷ []) s at next
one_there s at {n} {next} e =
    let w = field_split n at next true s e in
    (omega arith, record { bytes = rw (one_text n) w.text; end = rw (one_text n) w.end; small = (w.small, tt) })

more_there : (s : List ℕ) (at next end : ℕ) {n : ℕ} {ns : List ℕ} → field_at s at false ≡ Some (n, next) → Several ns s next end → Several (n ∷ ns) s at end
more_there s at next end {n} {ns} e (some, w) =
    let v = field_split n at next false s e in
    let t = field n false in
    let both = more_text n ns some in (
      omega arith,
      record {
        bytes = rw both (both_there s t (items_text ns) at next end v.text w.bytes);
        end = rw both (omega (arith, v.end, w.end, both_long t (items_text ns) at));
        small = (v.small, w.small);
      },
    )

numbers_there : (k : ℕ) (s : List ℕ) (at line : ℕ) (ns : List ℕ) (next : ℕ) → numbers_at k s at line ≡ found ns next → Several ns s at next
unfolding numbers_at
numbers_there zero s at line ns next e = absurd (not_both e)
numbers_there (suc k) s at line ns next e = go (numbers_there k s) (field_at s at true) refl e
  where
    more : Found (List ℕ)
    more = and_then (formed line (field_at s at false)) (λ n to. and_then (numbers_at k s to line) (λ ms end. found (n ∷ ms) end))

    go : ((to line : ℕ) (ms : List ℕ) (end : ℕ) → numbers_at k s to line ≡ found ms end → Several ms s to end)
        → (r : Option (ℕ × ℕ)) → field_at s at true ≡ r → last_or r more ≡ found ns next
        → Several ns s at next
    go behind (Some (n, to)) p q = some_same q (one_there s at p)
    go behind None p q =
        let u = then_found (formed line (field_at s at false)) _ q in
        let x = then_found (numbers_at k s u.place line) _ u.then in
        some_same x.then
        (more_there s at u.place x.place (formed_value line (field_at s at false) u.first) (behind u.place line x.value x.place x.first))

some_text : (ns : List ℕ) → 1 ≤ length ns → items_text ns ≡ numbers_text ns
some_text [] h = absurd (omega arith)
some_text (n ∷ ns) h = refl

list_there : (s : List ℕ) (at line : ℕ) {list : List ℕ} {next : ℕ} → numbers.read s at line ≡ found list next
    → NumbersThere (numbers_text list) list s at next
list_there s at line {list} {next} e = go (begins_with (bytes "none\n") (drop at s)) refl e
  where
    go : (t : Bool) → begins_with (bytes "none\n") (drop at s) ≡ t
        → cond t (found [] (at + length (bytes "none\n"))) (numbers_at (length s) s at line) ≡ found list next
        → NumbersThere (numbers_text list) list s at next
    go true t q = there_same numbers_text q (record { bytes = (begins_split (bytes "none\n") s at t).0; end = refl; small = tt })
    go false t q = let (some, w) = numbers_there (length s) s at line list next q in rw (some_text list some) at w

pub pairs_there : (s : List ℕ) (at line : ℕ) {list : List ℕ} {next : ℕ} → pairs.read s at line ≡ found list next
    → NumbersThere (pairs.text list) list s at next
pairs_there s at line {list} {next} e = go (begins_with (bytes "pairs=") (drop at s)) refl e
  where
    go : (t : Bool) → begins_with (bytes "pairs=") (drop at s) ≡ t
        → cond t (numbers.read s (at + length (bytes "pairs=")) line) (refused (Malformed line)) ≡ found list next
        → NumbersThere (pairs.text list) list s at next
    go true t q =
        let w = list_there s (at + 6) line q in
        let u = numbers_text list in
        record {
          bytes = both_there s (bytes "pairs=") u at (at + 6) next (begins_split (bytes "pairs=") s at t).0 w.bytes;
          end = w.end ∙ both_long (bytes "pairs=") u at;
          small = w.small;
        }
    go false t q = absurd (not_both q)

-- ---- what is refused
numbers_refused : (k : ℕ) (s : List ℕ) (at line : ℕ) (r : Refusal) → numbers_at k s at line ≡ refused r → r ≡ Malformed line
unfolding numbers_at
numbers_refused zero s at line r e = sym (refused_same e)
numbers_refused (suc k) s at line r e = go (numbers_refused k s) (field_at s at true) e
  where
    more : Found (List ℕ)
    more = and_then (formed line (field_at s at false)) (λ n to. and_then (numbers_at k s to line) (λ ms end. found (n ∷ ms) end))

    unformed : (n : Option (ℕ × ℕ)) → formed line n ≡ refused r → r ≡ Malformed line
    unformed (Some (n, to)) q = absurd (not_both (sym q))
    unformed None q = sym (refused_same q)

    go : ((to line : ℕ) (q : Refusal) → numbers_at k s to line ≡ refused q → q ≡ Malformed line) → (n : Option (ℕ × ℕ)) → last_or n more ≡ refused r
        → r ≡ Malformed line
    go behind (Some (n, to)) q = absurd (not_both (sym q))
    go behind None q =
        then_refused (formed line (field_at s at false)) _ (unformed (field_at s at false)) (λ n to p.
        then_refused (numbers_at k s to line) _ (behind to line r) (λ ms end p' q'. absurd (not_both (sym q')))) q

pairs_unread : (s : List ℕ) (r : Refusal) → pairs.read s 0 1 ≡ refused r → r ≡ Malformed 1
pairs_unread s r = go (begins_with (bytes "pairs=") s) (begins_with (bytes "none\n") (drop 6 s))
  where
    go : (t u : Bool) → cond t (cond u (found [] 11) (numbers_at (length s) s 6 1)) (refused (Malformed 1)) ≡ refused r → r ≡ Malformed 1
    go true true e = absurd (not_both (sym e))
    go true false e = numbers_refused (length s) s 6 1 r e
    go false u e = sym (refused_same e)

-- the line itself, or what stands behind it
pub pairs_refused : (s : List ℕ) {r : Refusal} → alone pairs s ≡ refused r → (r ≡ Malformed 1) ⊎ (r ≡ Malformed 2)
pairs_refused s {r} = then_refused (pairs.read s 0 1) _ (λ e. inl (pairs_unread s r e)) (λ list next e. go list next (leb (length s) next))
  where
    go : (list : List ℕ) (next : ℕ) (t : Bool) → cond t (found list next) (refused (Malformed 2)) ≡ refused r → (r ≡ Malformed 1) ⊎ (r ≡ Malformed 2)
    go list next true e = absurd (not_both (sym e))
    go list next false e = inr (sym (refused_same e))

-- ---- the loop over the numbers
-- numbers were read from `at` up to `to`
pub record Numbering (s : List ℕ) (at : ℕ) (read : Pairs) (to : ℕ) : Type 0 where
  pub so_far : List ℕ
  pub held : read ≡ kept so_far
  pub few : length so_far ≤ to
  pub rest : numbers_at (length s) s at 1 ≡ and_then (numbers_at (length s - length so_far) s to 1) (λ ns end. found (so_far ++ ns) end)

-- one more number in the array, or behind it
held_more : (ns : List ℕ) (n : ℕ) → set (pad_to 32 0 (take 32 ns)) (length ns) n ≡ pad_to 32 0 (take 32 (ns ++ (n ∷ [])))
held_more ns n = go (dec_lt (length ns) 32)
  where
    go : Dec (length ns < 32) → set (pad_to 32 0 (take 32 ns)) (length ns) n ≡ pad_to 32 0 (take 32 (ns ++ (n ∷ [])))
    go (yes h) =
        rw (take_all 32 ns (omega arith), take_all 32 (ns ++ (n ∷ [])) (omega (arith, length-append ns (n ∷ [])))) (pad_more 32 0 ns n h)
    go (no h) =
        rw (take-append-le 32 ns (n ∷ []) (omega arith))
        (set_out (pad_to 32 0 (take 32 ns)) (length ns) n (omega (arith, length_pad 32 0 (take 32 ns) few, length-take 32 ns)))
      where
        few : length (take 32 ns) ≤ 32
        few = omega (arith, length-take 32 ns)

-- a list with one more number
abbrev pub more_of : Pairs → ℕ → Pairs
more_of read n = record { count = read.count + 1; list = set read.list read.count n }

more_kept : (ns : List ℕ) (n : ℕ) → more_of (kept ns) n ≡ kept (ns ++ (n ∷ []))
more_kept ns n = rw (held_more ns n, length-append ns (n ∷ [])) refl

module _ {s : List ℕ} {at : ℕ} {read : Pairs} {to : ℕ} (w : Numbering s at read to) where
  stored : (n : ℕ) → more_of read n ≡ kept (w.so_far ++ (n ∷ []))
  stored n = rw w.held (more_kept w.so_far n)

  module _ (l : to < length s) where
    -- what is read next
    abbrev left : ℕ
    left = length s - (length w.so_far + 1)

    next_read : numbers_at (length s - length w.so_far) s to 1
        ≡ last_or (field_at s to true)
        (and_then (formed 1 (field_at s to false)) (λ n next. and_then (numbers_at left s next 1) (λ ns end. found (n ∷ ns) end)))
    unfolding numbers_at
    next_read = let e : length s - length w.so_far ≡ suc left = omega (arith, w.few) in rw e refl

    -- the last number
    pub numbering_last : {n next : ℕ} → field_at s to true ≡ Some (n, next) → Ok (more_of read n, next) ≡ pairs_read (numbers_at (length s) s at 1)
    numbering_last {n} {next} e = rw (w.rest, next_read, e, stored n) refl

    -- a number with a comma behind it
    pub numbering_next : {n next : ℕ} → field_at s to false ≡ Some (n, next) → Numbering s at (more_of read n) next
    numbering_next {n} {next} e =
        let long = length-append w.so_far (n ∷ []) in
        record {
          so_far = w.so_far ++ (n ∷ []);
          held = stored n;
          few = omega (arith, long, field_ahead s to false e, w.few);
          rest =
              rw long
              (w.rest
              ∙ rw (next_read, comma_no_end s to e, e) (then_then (numbers_at left s next 1) _ _)
              ∙ then_same (numbers_at left s next 1) _ _ (λ ns end p. ap (λ (l : List ℕ). found l end) (sym (append_assoc w.so_far (n ∷ []) ns))));
        }

    -- no number
    pub numbering_none : field_at s to true ≡ None → field_at s to false ≡ None → Err (Malformed 1) ≡ pairs_read (numbers_at (length s) s at 1)
    numbering_none e e' = rw (w.rest, next_read, e, e') refl

  -- the end of the input
  pub numbering_end : length s ≤ to → Err (Malformed 1) ≡ pairs_read (numbers_at (length s) s at 1)
  numbering_end h = rw (w.rest, numbers_behind (length s - length w.so_far) s to 1 h) refl
