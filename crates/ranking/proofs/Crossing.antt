-- Two runs counted side by side: the products that decide, and how small they are.
use Rattle.reply.specs.Respond.{Passed}
use Prim.Native.Nat.{ℕ, zero, suc, ◌+◌, ◌-◌, ◌*◌, ◌^◌, ◌≤◌, ◌<◌, min}
use native.Mathlib.Nat.{lt_of_le_of_lt, mul-le-mul}
use native.Mathlib.Numerals.{add-one}
use native.Mathlib.Omega.{arith}
use native.Mathlib.Decide.{dec_lt, ℕ_discrete}
use mathlib.Core.Path.{◌≡◌, sym, ap, ◌∙◌}
use lib.ListN.{length, take, get_or, length-take}
use Rattle.std.proofs.lemmas.List.{get_or-take}
use lib.Dec.{lit<}
use lib.IntN.{pos, ◌-ℤ◌}
use Rattle.laws.specs.Each.{each_at}
use Rattle.run.specs.declared.Firing.{Firing}
use Rattle.run.specs.declared.Run.{Run}
use Rattle.run.specs.Run.{run_card, no_firing, firings_of, waits_of}
use Rattle.run.proofs.Ranges.{FiringFits, RunFits, run_in_ranges}
use Rattle.run.proofs.Firings.{length_firings, firing_at, wait_at}
use Rattle.timing.specs.Rounding.{last_instant, end_instant}
use Rattle.timing.proofs.Meet.{instants_zero}
use Rattle.timing.proofs.Instants.{instants_next}
use Rattle.operations.specs.Claims.{instants_of}
use Rattle.ranking.specs.Lead.{instant_of, lead_at, lead_from, lead_of}
use Rattle.ranking.specs.Claims.{SameInstant}
use Rattle.ranking.proofs.Ranks.{firing_instant, end_instant_lem, lead_next, lead_here, lead_last}

-- ---- one run that passes its check
abbrev Card : Run → Type 0
Card r = (s : ℕ) × (n : ℕ) × ((run_card s n).check r 1 ≡ Passed)

abbrev wait : Run → ℕ → ℕ
wait r i = (get_or r.firings i no_firing).wait

-- a sum that has come to the instant before firing i + 1, and one that has come to this firing's, or to the end's
pub record Counted (r : Run) (s i : ℕ) : Type 0 where
  pub instant : s ≡ instants_of r i
  pub soon : s ≤ i * 10000000

pub record Reached (r : Run) (t i : ℕ) : Type 0 where
  pub there : instant_of r i ≡ t
  pub small : t ≤ 650000000

counted_start : (r : Run) → Counted r 0 0
counted_start r = record { instant = sym (instants_zero (waits_of (firings_of r))); soon = omega arith }

module _ (r : Run) (card : Card r) where
  fits : RunFits card.0 card.1 r
  fits = (run_in_ranges card.0 card.1 r).0 card.2

  count_length : length (firings_of r) ≡ r.count
  count_length = omega (arith, length_firings r, fits.few)

  -- a number that has come to an instant, times the denominator
  product_small : {q : Run} {t i : ℕ} → Reached q t i → t * r.denominator < 2 ^ 40
  product_small h = lt_of_le_of_lt (mul-le-mul h.small fits.few_parts) (lit< tt)

  module _ {s i : ℕ} (h : Counted r s i) where
    module _ (l : i < r.count) where
      counts : i < min r.count 64
      counts = omega (arith, fits.few)

      wait_short : wait r i ≤ 10000000
      wait_short = rw (firing_at r i counts) at (each_at (FiringFits card.1) no_firing (firings_of r) fits.each i (omega (arith, count_length))).0

      counted_next : Counted r (s + wait r i) (suc i)
      counted_next =
          record {
            instant = omega (arith, instants_next (waits_of (firings_of r)) i, wait_at r i counts, h.instant);
            soon = omega (arith, wait_short, h.soon);
          }

      firing_reached : Reached r (s + wait r i) i
      firing_reached =
          record {
            there = firing_instant r i (omega (arith, count_length)) ∙ sym counted_next.instant;
            small = omega (arith, counted_next.soon, fits.few);
          }

    end_reached : i ≡ r.count → Reached r (s + r.rest) i
    unfolding end_instant last_instant
    end_reached e =
        let last : i ≡ length (firings_of r) = omega (arith, count_length) in
        record { there = rw (h.instant, last) (end_instant_lem r); small = omega (arith, h.soon, fits.few, fits.rest) }

-- ---- two such runs
-- sums of both that have come to one instant, and their products with the other's denominator
pub record Meeting (x y : Run) (a b i : ℕ) : Type 0 where
  pub first : Reached x a i
  pub second : Reached y b i
  pub first_small : a * y.denominator < 2 ^ 40
  pub second_small : b * x.denominator < 2 ^ 40

-- at a firing, and at the end
abbrev pub AtFiring : Run → Run → ℕ → ℕ → ℕ → Type 0
AtFiring x y sx sy i = Meeting x y (sx + wait x i) (sy + wait y i) i

abbrev pub AtEnd : Run → Run → ℕ → ℕ → ℕ → Type 0
AtEnd x y sx sy i = Meeting x y (sx + x.rest) (sy + y.rest) i

-- products whose difference is the lead
abbrev Crosses : Run → Run → ℕ → ℕ → Type 0
Crosses x y a b = (pos a -ℤ pos b ≡ lead_of x y) × (a < 2 ^ 40) × (b < 2 ^ 40)

crossed : {x y : Run} {a b i : ℕ} → Meeting x y a b i → lead_of x y ≡ lead_at x y i → Crosses x y (a * y.denominator) (b * x.denominator)
unfolding lead_at
crossed m e = (rw (← m.first.there, ← m.second.there) (sym e), m.first_small, m.second_small)

-- the i-th of the firings that count, one of each run
abbrev pub Turn : Run → Run → ℕ → Firing → Firing → Type 0
Turn x y i f g =
    let k = take x.count x.firings in
    let l = take y.count y.firings in
    (i < length k) × (i < length l) × ((d : Firing) → f ≡ get_or k i d) × ((d : Firing) → g ≡ get_or l i d)

-- the two side by side: all is equal before instant i
pub record Abreast (x y : Run) (sx sy i : ℕ) : Type 0 where
  pub brief : x.count ≤ 64
  pub within : i ≤ x.count
  pub first : Counted x sx i
  pub second : Counted y sy i
  pub same : lead_of x y ≡ lead_from x y i (suc (x.count - i))

module _ (x y : Run) (cards : Card x × Card y × (x.count ≡ y.count)) where
  meet : {a b i : ℕ} → Reached x a i → Reached y b i → Meeting x y a b i
  meet p q = record { first = p; second = q; first_small = product_small y cards.1 p; second_small = product_small x cards.0 q }

  pub abreast_start : Abreast x y 0 0 0
  unfolding lead_of
  abreast_start =
      let e : length (firings_of x) ≡ x.count - 0 = omega (arith, count_length x cards.0) in
      record {
        brief = (fits x cards.0).few;
        within = omega arith;
        first = counted_start x;
        second = counted_start y;
        same = ap (λ (n : ℕ). lead_from x y 0 (suc n)) e;
      }

  module _ {sx sy i : ℕ} (h : Abreast x y sx sy i) where
    module _ (l : i < x.count) where
      pub at_firing : AtFiring x y sx sy i
      at_firing = meet (firing_reached x cards.0 h.first l) (firing_reached y cards.1 h.second (omega (arith, cards.2)))

      abbrev Same : Type 0
      Same = (sx + wait x i) * y.denominator ≡ (sy + wait y i) * x.denominator

      -- products that differ decide, and equal ones lead on
      pub crossed_here : (Same → ⊥) → Crosses x y ((sx + wait x i) * y.denominator) ((sy + wait y i) * x.denominator)
      crossed_here other =
          crossed at_firing
          (h.same ∙ lead_here x y i (x.count - i) (λ e. other (rw (at_firing.first.there, at_firing.second.there) at e)))

      pub abreast_next : Same → Abreast x y (sx + wait x i) (sy + wait y i) (i + 1)
      abreast_next e =
          let one_less : x.count - i ≡ suc (x.count - suc i) = omega arith in
          let equal : SameInstant x y i = rw (at_firing.first.there, at_firing.second.there) e in
          rw add-one (record {
            brief = h.brief;
            within = l;
            first = counted_next x cards.0 h.first l;
            second = counted_next y cards.1 h.second (omega (arith, cards.2));
            same = h.same ∙ lead_next x y i (x.count - i) equal ∙ ap (lead_from x y (suc i)) one_less;
          })

    -- the same of the firings that a loop over both runs gives in turn
    module _ {f g : Firing} (t : Turn x y i f g) where
      turn : i < x.count
      turn = omega (arith, t.0, length-take x.count x.firings)

      first_now : f ≡ get_or x.firings i no_firing
      first_now = t.2 no_firing ∙ get_or-take x.count x.firings i no_firing turn

      second_now : g ≡ get_or y.firings i no_firing
      second_now = t.3 no_firing ∙ get_or-take y.count y.firings i no_firing (omega (arith, t.1, length-take y.count y.firings))

      abbrev Equal : Type 0
      Equal = (sx + f.wait) * y.denominator ≡ (sy + g.wait) * x.denominator

      pub crossed_turn : (Equal → ⊥) → Crosses x y ((sx + f.wait) * y.denominator) ((sy + g.wait) * x.denominator)
      crossed_turn other = rw (first_now, second_now) (crossed_here turn (λ e. other (rw (first_now, second_now) e)))

      pub abreast_turn : Equal → Abreast x y (sx + f.wait) (sy + g.wait) (i + 1)
      abreast_turn e = rw (first_now, second_now) (abreast_next turn (rw (first_now, second_now) at e))

    -- where none differ, the ends decide
    module _ (l : x.count ≤ i) where
      pub at_end : AtEnd x y sx sy i
      at_end =
          meet (end_reached x cards.0 h.first (omega (arith, h.within)))
          (end_reached y cards.1 h.second (omega (arith, h.within, cards.2)))

      pub crossed_end : Crosses x y ((sx + x.rest) * y.denominator) ((sy + y.rest) * x.denominator)
      crossed_end =
          let none : x.count - i ≡ 0 = omega arith in
          crossed at_end (h.same ∙ ap (λ (n : ℕ). lead_from x y i (suc n)) none ∙ lead_last x y i)

  -- so the lead is a difference of small numbers
  abbrev Small : Type 0
  Small = (a : ℕ) × (b : ℕ) × Crosses x y a b

  -- one turn: what is left of it, if the search goes on behind equal products
  small_here : {sx sy i : ℕ} (h : Abreast x y sx sy i) → (Abreast x y (sx + wait x i) (sy + wait y i) (i + 1) → Small) → Small
  small_here {sx} {sy} {i} h later = go (dec_lt i x.count)
    where
      at : (k : i < x.count) → Dec (Same h k) → Small
      at k (yes e) = later (abreast_next h k e)
      at k (no other) = (_, _, crossed_here h k other)

      go : Dec (i < x.count) → Small
      go (yes k) = at k (ℕ_discrete ((sx + wait x i) * y.denominator) ((sy + wait y i) * x.denominator))
      go (no k) = (_, _, crossed_end h (omega arith))

  small_from : (n : ℕ) {sx sy i : ℕ} → x.count ≤ i + n → Abreast x y sx sy i → Small
  small_from zero l h = (_, _, crossed_end h (omega arith))
  small_from (suc n) l h = small_here h (small_from n (omega arith))

  pub lead_small : Small
  lead_small = small_from x.count (omega arith) abreast_start
