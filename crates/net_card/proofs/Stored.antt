-- A list of numbers that is stored while it is read: the state of the loop, which says the whole by what is left. That a number is too large is
-- remembered, and it is not stored; the line is then refused, so what the array holds does not matter.
use Rattle.reply.specs.Respond.{Passed}
use Rattle.std.specs.Prelude.{Err, None, Ok, Option, Some}
use Prim.Native.Nat.{ℕ, zero, suc, ◌+◌, ◌-◌, ◌*◌, ◌≤◌, ◌<◌, suc-le-suc}
use native.Mathlib.Nat.{mul-suc, mul-le-mul_left, min-eq_left, sub-zero, le_of_suc-le-suc, not-suc-le-zero}
use native.Mathlib.Numerals.{add-one}
use native.Mathlib.Omega.{arith}
use mathlib.Core.Bool.{Bool, true, false, cond, ◌&&◌, and-true}
use mathlib.Core.List.{List, [], ◌∷◌}
use mathlib.Core.Path.{◌≡◌, refl, sym, ◌∙◌}
use borrow.Author.Tests.{le-leb}
use lib.Dec.{eqb, leb}
use lib.ListN.{length, get_or, set, length-set}
use lib.Seq.{get_or-set_same, get_or-set_other}
use Rattle.laws.specs.Slots.{first_of, pad_to, first_pad, last_left}
use Rattle.reply.specs.declared.Refusal.TheVariants.{Malformed, OutOfRange}
use Rattle.text.specs.Number.{field_at}
use Rattle.form.specs.Form.{Found, found, refused, and_then, found_if}
use Rattle.form.specs.Line.{formed, items_at, all_ranged, items}
use Rattle.std.specs.Option.{ok_or}
use Rattle.reply.specs.declared.Refusal.{Refusal}
use Rattle.form.proofs.Found.{then_then, then_same}
use Rattle.form.proofs.Lines.{items_there}
use Rattle.net_card.specs.declared.counts.Slots.{Slots}
use Rattle.net_card.specs.Code.{spread, stored_in}

-- ---- numbers in their slots
next_slot : (slot step p : ℕ) → slot + step + step * p ≡ slot + step * suc p
next_slot slot step p = omega (arith, mul-suc step p)

slot_more : (slot step i : ℕ) → slot + step * i + step ≡ slot + step * (i + 1)
slot_more slot step i = rw add-one (omega (arith, mul-suc step i))

-- each of sixteen slots lies in the array where the last one does
pub slot_within : (slot step i : ℕ) → slot + step * 15 < 512 → i < 16 → slot + step * i < 512
slot_within slot step i h l = let few : i ≤ 15 = omega arith in omega (arith, mul-le-mul_left step few)

pub length_spread : (ns : List ℕ) (slot step : ℕ) (l : List ℕ) → length (spread ns slot step l) ≡ length l
unfolding spread
length_spread [] slot step l = refl
length_spread (n ∷ ns) slot step l = length_spread ns (slot + step) step (set l slot n) ∙ length-set l slot n

-- a slot that is none of theirs is as it was
pub spread_other : (ns : List ℕ) (slot step : ℕ) (l : List ℕ) (j : ℕ) → ((p : ℕ) → p < length ns → j ≡ slot + step * p → ⊥)
    → get_or (spread ns slot step l) j 0 ≡ get_or l j 0
unfolding spread
spread_other [] slot step l j h = refl
spread_other (n ∷ ns) slot step l j h =
    spread_other ns (slot + step) step (set l slot n) j (λ p b e. h (suc p) (suc-le-suc b) (e ∙ next_slot slot step p))
    ∙ get_or-set_other l slot j n 0 (λ e. h 0 (omega arith) (omega arith))

-- each of theirs holds its number
pub spread_at : (ns : List ℕ) (slot step : ℕ) (l : List ℕ) (p : ℕ) → 1 ≤ step → p < length ns → slot + step * p < length l
    → get_or (spread ns slot step l) (slot + step * p) 0 ≡ get_or ns p 0
unfolding spread
spread_at [] slot step l p one b h = absurd (not-suc-le-zero b)
spread_at (n ∷ ns) slot step l zero one b h =
    let e : slot + step * 0 ≡ slot = omega arith in
    rw e (spread_other ns (slot + step) step (set l slot n) slot (λ q c z. omega arith) ∙ get_or-set_same l slot n 0 (omega arith))
spread_at (n ∷ ns) slot step l (suc p) one b h =
    let e = next_slot slot step p in
    rw (← e) (spread_at ns (slot + step) step (set l slot n) p one (le_of_suc-le-suc b) (omega (arith, length-set l slot n)))

-- ---- numbers that are read
-- a number that is asked for, where it stands and where none does
pub missing : {m : Option (ℕ × ℕ)} {r : Refusal} (line : ℕ) → ok_or m (Malformed line) ≡ Err r → (m ≡ None) × (Malformed line ≡ r)
missing {m = None} line e = (refl, cc)
missing {m = Some v} line e = let z : ◌≡◌ {A = ℕ} 0 1 = cc in absurd (omega arith)

pub present : {m : Option (ℕ × ℕ)} {v : ℕ × ℕ} (line : ℕ) → ok_or m (Malformed line) ≡ Ok v → m ≡ Some v
present {m = None} line e = let z : ◌≡◌ {A = ℕ} 0 1 = cc in absurd (omega arith)
present {m = Some w} line e = cc

-- what is left of a list: k numbers, the first with this slot; `narrow` says that those before them fit a byte
abbrev left : Bool → ℕ → List ℕ → ℕ → ℕ → ℕ → ℕ → List ℕ → Found (List ℕ)
left narrow k s at line slot step l =
    and_then (items_at k s at line) (λ ns next. found_if (cond (narrow && all_ranged 0 255 ns) Passed (Err (OutOfRange line))) (spread ns slot step l) next)

-- of a list that stands from `at` on, i numbers are read, and the next one stands at `next`
pub record Storing (to : Slots) (s : List ℕ) (at line : ℕ) (old : List ℕ) (narrow : Bool) (l : List ℕ) (next i : ℕ) : Type 0 where
  pub within : i ≤ to.count
  pub rest : stored_in to old ((items to.count 16 0 255).read s at line) ≡ left narrow (to.count - i) s next line (to.first + to.step * i) to.step l

module _ (to : Slots) (s : List ℕ) (at line : ℕ) (old : List ℕ) where
  pub storing_start : Storing to s at line old true old at 0
  storing_start =
      record {
        within = omega arith;
        rest = let first : to.first + to.step * 0 ≡ to.first = omega arith in rw (min-eq_left to.few, sub-zero to.count, first) (then_then (items_at to.count s at line) _ _ ∙ then_same (items_at to.count s at line) _ _
            (λ ns next e'. go ns next (items_there to.count ns s at next line e').count (all_ranged 0 255 ns)));
      }
    where
      go : (ns : List ℕ) (next : ℕ) → length ns ≡ to.count → (b : Bool)
          → and_then (found_if (cond b Passed (Err (OutOfRange line))) (pad_to 16 0 ns) next)
          (λ w end. found (spread (first_of to.count 0 w) to.first to.step old) end)
          ≡ found_if (cond b Passed (Err (OutOfRange line))) (spread ns to.first to.step old) next
      go ns next e true = rw (first_pad to.count 16 0 ns e) refl
      go ns next e false = refl

module _ {to : Slots} {s old l : List ℕ} {at line next i : ℕ} {narrow : Bool} (w : Storing to s at line old narrow l next i) where
  -- the slot of the next number
  abbrev slot : ℕ
  slot = to.first + to.step * i

  -- the answer for the whole list
  abbrev answer : Found (List ℕ)
  answer = stored_in to old ((items to.count 16 0 255).read s at line)

  module _ (h : i < to.count) {last : Bool} (t : eqb (i + 1) to.count ≡ last) where
    -- the next number
    next_item : items_at (to.count - i) s next line
        ≡ and_then (formed line (field_at s next last)) (λ n after. and_then (items_at (to.count - (i + 1)) s after line) (λ ns end. found (n ∷ ns) end))
    unfolding items_at
    next_item =
        let one : to.count - i ≡ suc (to.count - (i + 1)) = omega arith in
        rw (one, ← t, last_left i to.count h) refl

    pub storing_missing : field_at s next last ≡ None → refused (Malformed line) ≡ answer
    storing_missing e = sym (w.rest ∙ rw (next_item, e) refl)

    pub storing_more : {n after : ℕ} → field_at s next last ≡ Some (n, after)
        → Storing to s at line old (narrow && leb n 255) (cond (leb n 255) (set l slot n) l) after (i + 1)
    unfolding spread all_ranged
    storing_more {n} {after} e =
        record {
          within = omega arith;
          rest = w.rest ∙ rw (next_item, e, ← slot_more to.first to.step i) (then_then (items_at (to.count - (i + 1)) s after line) _ _
              ∙ then_same (items_at (to.count - (i + 1)) s after line) _ _
              (λ ns end z. rw (le-leb 0 n (omega arith)) (go narrow (leb n 255) ns end)));
        }
      where
        go : (a b : Bool) (ns : List ℕ) (end : ℕ)
            → found_if (cond (a && (b && all_ranged 0 255 ns)) Passed (Err (OutOfRange line))) (spread ns (slot + to.step) to.step (set l slot n)) end
            ≡ found_if (cond ((a && b) && all_ranged 0 255 ns) Passed (Err (OutOfRange line)))
            (spread ns (slot + to.step) to.step (cond b (set l slot n) l)) end
        go true true ns end = refl
        go true false ns end = refl
        go false true ns end = refl
        go false false ns end = refl

  -- all numbers are read
  pub storing_end : to.count ≤ i → found_if (cond narrow Passed (Err (OutOfRange line))) l next ≡ answer
  unfolding items_at all_ranged spread
  storing_end h =
      let none : to.count - i ≡ 0 = omega arith in
      sym (w.rest ∙ rw (none, and-true narrow) refl)
