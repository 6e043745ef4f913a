-- Two runs that end together have an interleaving: their firings by their instants, those of the first net first where two are at one. No wait in it is
-- longer than one of theirs, so that it is within the limits if these hold its firings.
use Prim.Native.Nat.{ℕ, ◌+◌, ◌-◌, ◌≤◌}
use native.Mathlib.Omega.{arith}
use mathlib.Core.Path.{◌≡◌, refl, sym, subst⁻¹, ◌∙◌}
use mathlib.Core.Logic.{⊎_elim}
use mathlib.Core.List.{List, [], ◌∷◌}
use lib.ListN.{length}
use Rattle.laws.specs.Each.{Each}
use Rattle.laws.specs.Slots.{pad_to}
use Rattle.laws.specs.Sums.{le_or_lt}
use Rattle.reply.specs.Respond.{Passed}
use Rattle.net.specs.declared.Net.{Net}
use Rattle.net.specs.Net.{net_card}
use Rattle.net.proofs.Card.{net_sheet}
use Rattle.run.specs.declared.Firing.{Firing}
use Rattle.run.specs.declared.Run.{Run}
use Rattle.run.specs.Run.{no_firing, firings_of, waits_of}
use Rattle.run.proofs.Firings.{length_firings}
use Rattle.run.proofs.Ranges.{FiringFits, run_in_ranges}
use Rattle.timing.specs.Windows.{instants}
use Rattle.timing.specs.Rounding.{end_instant}
use Rattle.cards.specs.Cards.{run_checked}
use Rattle.joining.specs.Interleaving.{timed, Merged, done, first, second, Interleaved}
use Rattle.joining.proofs.Merging.{last_of, merged_count}
use Rattle.joining.proofs.Sides.{held_firings, run_fits, end_of}

-- ---- firings of the two sides in one
-- what is waited for what comes next on a side: its next firing or, behind its last, its end
abbrev next_wait : ℕ → List Firing → ℕ
next_wait rest [] = rest
next_wait rest (f ∷ fs) = f.wait

-- T and U are the numbers of transitions, p and q the rests
module _ (T U p q : ℕ) where
  -- v and w parts of the waits for what comes next have passed, and from here both sides end together
  record Abreast (fs gs : List Firing) (v w : ℕ) : Type 0 where
    first_ahead : v ≤ next_wait p fs
    second_ahead : w ≤ next_wait q gs
    together : last_of fs + p + w ≡ last_of gs + q + v

  -- firings in which the two are merged from here, as short as theirs, and the rest behind them
  record MergedFrom (fs gs : List Firing) (v w : ℕ) : Type 0 where
    firings : List Firing
    rest : ℕ
    merged : (s s' n : ℕ) → s + v ≡ n → s' + w ≡ n → Merged T (timed s fs) (timed s' gs) (timed n firings)
    ends : v + last_of firings + rest ≡ last_of fs + p
    each : Each (FiringFits (T + U)) firings
    short : rest ≤ 10000000

  -- behind the last firings
  merge_end : {v w : ℕ} → p ≤ 10000000 → Abreast [] [] v w → MergedFrom [] [] v w
  unfolding timed instants waits_of
  merge_end {v} {w} small a =
      record {
        firings = [];
        rest = p - v;
        merged = λ s s' n e e'. done;
        ends = omega (arith, a.first_ahead);
        each = tt;
        short = omega arith;
      }

  -- a firing of the first net
  module _ {f : Firing} {fs gs : List Firing} {v w : ℕ} (a : Abreast (f ∷ fs) gs v w) where
    abreast_first : w + (f.wait - v) ≤ next_wait q gs → Abreast fs gs 0 (w + (f.wait - v))
    unfolding instants waits_of
    abreast_first l = record { first_ahead = omega arith; second_ahead = l; together = omega (arith, a.first_ahead, a.together) }

    merge_first : FiringFits T f → MergedFrom fs gs 0 (w + (f.wait - v)) → MergedFrom (f ∷ fs) gs v w
    unfolding timed instants waits_of
    merge_first fits h =
        let soon = f.wait - v in
        record {
          firings = record { wait = soon; fire = f.fire } ∷ h.firings;
          rest = h.rest;
          merged = λ s s' n e e'.
              let here : s + f.wait ≡ n + soon = omega (arith, a.first_ahead) in
              rw here (first (h.merged (n + soon) s' (n + soon) (omega arith) (omega arith)));
          ends = omega (arith, a.first_ahead, h.ends);
          each = ((omega (arith, fits.0), omega (arith, fits.1)), h.each);
          short = h.short;
        }

  -- and one of the second
  module _ {g : Firing} {fs gs : List Firing} {v w : ℕ} (a : Abreast fs (g ∷ gs) v w) where
    abreast_second : v + (g.wait - w) ≤ next_wait p fs → Abreast fs gs (v + (g.wait - w)) 0
    unfolding instants waits_of
    abreast_second l = record { first_ahead = l; second_ahead = omega arith; together = omega (arith, a.second_ahead, a.together) }

    merge_second : FiringFits U g → MergedFrom fs gs (v + (g.wait - w)) 0 → MergedFrom fs (g ∷ gs) v w
    unfolding timed instants waits_of
    merge_second fits h =
        let soon = g.wait - w in
        record {
          firings = record { wait = soon; fire = T + g.fire } ∷ h.firings;
          rest = h.rest;
          merged = λ s s' n e e'.
              let here : s' + g.wait ≡ n + soon = omega (arith, a.second_ahead) in
              rw here (second (h.merged s (n + soon) (n + soon) (omega arith) (omega arith)));
          ends = omega (arith, h.ends);
          each = ((omega (arith, fits.0), omega (arith, fits.1)), h.each);
          short = h.short;
        }

  -- firings of the first net can be merged with any of the second
  abbrev Merges : List Firing → Type 0
  Merges fs = (gs : List Firing) (v w : ℕ) → Each (FiringFits U) gs → Abreast fs gs v w → MergedFrom fs gs v w

  module _ (small : p ≤ 10000000) where
    -- none is left
    second_left : Merges []
    unfolding instants waits_of
    second_left [] v w h a = merge_end small a
    second_left (g ∷ gs) v w h a =
        merge_second a h.0 (second_left gs (v + (g.wait - w)) 0 h.1 (abreast_second a (omega (arith, a.second_ahead, a.together))))

    -- one is left, which comes next or behind those of the second net that are earlier
    first_left : (f : Firing) (fs : List Firing) → FiringFits T f → Merges fs → Merges (f ∷ fs)
    unfolding instants waits_of
    first_left f fs fits later [] v w h a =
        merge_first a fits (later [] 0 (w + (f.wait - v)) h (abreast_first a (omega (arith, a.first_ahead, a.together))))
    first_left f fs fits later (g ∷ gs) v w h a =
        ⊎_elim
        (λ l. merge_first a fits (later (g ∷ gs) 0 (w + (f.wait - v)) h (abreast_first a (omega (arith, a.second_ahead)))))
        (λ l. merge_second a h.0 (first_left f fs fits later gs (v + (g.wait - w)) 0 h.1 (abreast_second a (omega (arith, a.first_ahead)))))
        (le_or_lt (f.wait - v) (g.wait - w))

    merge : (fs : List Firing) → Each (FiringFits T) fs → Merges fs
    merge [] k = second_left
    merge (f ∷ fs) k = first_left f fs k.0 (merge fs k.1)

-- ---- the interleaving of two runs
module _ (a b j : Net) (x y : Run) (passed : net_card.check j 1 ≡ Passed) (size : j.transitions ≡ a.transitions + b.transitions)
    (within : run_checked a x ≡ Passed) (within' : run_checked b y ≡ Passed)
    (memory : x.memory ≡ y.memory) (denominator : x.denominator ≡ y.denominator) (ends : end_instant x ≡ end_instant y)
    (few : x.count + y.count ≤ 64) where
  both : MergedFrom a.transitions b.transitions x.rest y.rest (firings_of x) (firings_of y) 0 0
  both =
      let f = run_fits a x within in
      let g = run_fits b y within' in
      merge a.transitions b.transitions x.rest y.rest f.rest (firings_of x) f.each (firings_of y) 0 0 g.each
      (record { first_ahead = omega arith; second_ahead = omega arith; together = omega (arith, end_of x refl, end_of y refl) })

  abbrev interleaving : Run
  interleaving =
      record {
        sheet = j.sheet;
        memory = x.memory;
        denominator = x.denominator;
        count = length both.firings;
        firings = pad_to 64 no_firing both.firings;
        rest = both.rest;
      }

  interleaving_few : length both.firings ≤ 64
  interleaving_few =
      omega (
        arith,
        merged_count 0 0 0 (firings_of x) (firings_of y) both.firings (both.merged 0 0 0 refl refl),
        length_firings x,
        length_firings y,
      )

  interleaving_firings : firings_of interleaving ≡ both.firings
  interleaving_firings = held_firings interleaving both.firings refl interleaving_few refl

  interleaving_ends : end_instant x ≡ end_instant interleaving
  interleaving_ends = omega (arith, end_of x refl, end_of interleaving interleaving_firings, both.ends)

  interleaving_passed : run_checked j interleaving ≡ Passed
  interleaving_passed =
      let f = run_fits a x within in
      rw passed ((run_in_ranges j.sheet j.transitions interleaving).1 (record {
        own = refl;
        sheet_small = net_sheet j passed;
        some_parts = f.some_parts;
        few_parts = f.few_parts;
        few = interleaving_few;
        each = rw interleaving_firings (subst⁻¹ (λ (n : ℕ). Each (FiringFits n) both.firings) size both.each);
        rest = both.short;
      }))

  pub has_interleaving : (r : Run) × (run_checked j r ≡ Passed) × Interleaved a x y r
  has_interleaving = (
    interleaving,
    interleaving_passed,
    record {
      memory = (refl, sym memory);
      denominator = (refl, sym denominator);
      ends = (interleaving_ends, sym ends ∙ interleaving_ends);
      merged = rw interleaving_firings (both.merged 0 0 0 refl refl);
    },
  )
