-- The loops over the firings of a run that is rounded and of a timetable: the slots passed hold their firings. Since each wait is a number of 32 bits, the
-- sum of the waits stays far below 64 bits.
use Prim.Native.Nat.{ℕ, zero, suc, ◌+◌, ◌*◌, ◌-◌, ◌/◌, ◌≤◌, ◌<◌, min}
use native.Mathlib.Nat.{add-zero, zero-add, add_assoc, le_of_suc-le-suc, not-suc-le-zero, min-le_right}
use native.Mathlib.Numerals.{add-one}
use native.Mathlib.Omega.{arith}
use mathlib.Core.Path.{◌≡◌, refl, sym, ap, ◌∙◌}
use mathlib.Core.List.{List, [], ◌∷◌}
use lib.ListN.{length, get_or, set, take, replicate}
use lib.Seq.{take_all, length-take-le, get_or-take}
use Rattle.laws.specs.Arrays.{Filling, fill_done}
use Rattle.laws.specs.Slots.{pad_to, pad_next}
use Rattle.run.specs.declared.Firing.{Firing}
use Rattle.run.specs.declared.Run.{Run}
use Rattle.run.specs.declared.Order.{Order}
use Rattle.run.specs.Run.{no_firing, firings_of, order_of, waits_of}
use Rattle.run.proofs.Firings.{length_firings, wait_at, fire_at_lem}
use Rattle.timing.specs.Windows.{instants}
use Rattle.timing.specs.Schedule.{rounded_from, rounded_waits}
use Rattle.timing.specs.Rounding.{zip_firings, last_instant, rounded_run}
use Rattle.timing.proofs.Meet.{instants_zero, length_waits}
use Rattle.timing.proofs.Instants.{instants_next, length_rounded}
use Rattle.timing.proofs.Rounded.{zip_entry, rounded_sizes, count_rounded}
use Rattle.schedule.specs.Timetable.{timed_firing, timed_run}

-- the slots before n are those of the whole array
pub in_front : {A : Type 0} (n : ℕ) (l : List A) (d : A) (i : ℕ) → n ≤ length l → i < length (take n l) → (i < n) × (get_or (take n l) i d ≡ get_or l i d)
in_front n l d i h b = let c : i < n = omega (arith, length-take-le n l h) in (c, get_or-take n l i d c)

-- ---- entries
rounded_entry : (D s : ℕ) (ws : List ℕ) (i : ℕ) → i < length ws
    → get_or (rounded_from D s ws) i 0 ≡ (s + instants ws i + get_or ws i 0) / D - (s + instants ws i) / D
unfolding rounded_from instants
rounded_entry D s [] i l = absurd (not-suc-le-zero l)
rounded_entry D s (w ∷ ws) zero l = rw (add-zero s) refl
rounded_entry D s (w ∷ ws) (suc i) l = rounded_entry D (s + w) ws i (le_of_suc-le-suc l) ∙ rw (add_assoc s w (instants ws i)) refl

-- ---- the loop
module _ (r : Run) where
  abbrev D : ℕ
  D = r.denominator

  abbrev fs : List Firing
  fs = firings_of r

  -- the rounded firings
  abbrev gs : List Firing
  gs = zip_firings (rounded_waits D (waits_of fs)) (order_of fs)

  pub record Rounding (firings : List Firing) (s i : ℕ) : Type 0 where
    pub within : i ≤ min r.count 64
    pub instant : s ≡ instants (waits_of fs) i
    pub soon : s ≤ i * 4294967295
    pub stored : firings ≡ pad_to 64 no_firing (take i gs)

  pub rounding_start : Rounding (replicate 64 no_firing) 0 0
  rounding_start = record { within = omega arith; instant = sym (instants_zero (waits_of fs)); soon = omega arith; stored = refl }

  module _ {firings : List Firing} {s i : ℕ} (h : Rounding firings s i) where
    abbrev next : Firing
    next = get_or r.firings i no_firing

    module _ (l : i < min r.count 64) where
      rounded_at : get_or (rounded_waits D (waits_of fs)) i 0 ≡ (s + next.wait) / D - s / D
      unfolding rounded_waits
      rounded_at =
          rounded_entry D 0 (waits_of fs) i (omega (arith, length_waits fs, length_firings r))
          ∙ rw (zero-add (instants (waits_of fs) i), ← h.instant, wait_at r i l) refl

      entry_at : get_or gs i no_firing ≡ record { wait = (s + next.wait) / D - s / D; fire = next.fire }
      entry_at =
          zip_entry (rounded_waits D (waits_of fs)) (order_of fs) i (omega (arith, length_rounded D (waits_of fs), length_waits fs, length_firings r))
          (rounded_sizes r)
          ∙ rw (rounded_at, fire_at_lem r i l) refl

      pub rounding_more : {w : ℕ} → next.wait ≤ 4294967295 → w ≡ (s + next.wait) / D - s / D
          → Rounding (set firings i (record { wait = w; fire = next.fire })) (s + next.wait) (i + 1)
      rounding_more short e =
          record {
            within = omega arith;
            instant = rw add-one (omega (arith, instants_next (waits_of fs) i, wait_at r i l, h.instant));
            soon = omega (arith, h.soon);
            stored = rw (h.stored, e, ← entry_at) (pad_next 64 no_firing gs i (omega (arith, count_rounded r))
                (omega (arith, count_rounded r, min-le_right r.count 64)));
          }

    pub rounding_done : {n w : ℕ} → n ≡ min r.count 64 → n ≤ i → w ≡ (s + r.rest) / D - s / D
        → record { sheet = r.sheet; memory = r.memory; denominator = 1; count = n; firings = firings; rest = w } ≡ rounded_run r
    unfolding rounded_run last_instant
    rounding_done {n} {w} few l e =
        let last : s ≡ instants (waits_of fs) (length fs) = h.instant ∙ ap (instants (waits_of fs)) (omega (arith, h.within, length_firings r)) in
        let all : firings ≡ pad_to 64 no_firing gs = h.stored ∙ ap (pad_to 64 no_firing) (take_all i gs (omega (arith, count_rounded r))) in
        rw (few, e, last, all) refl

-- ---- the loop of a timetable
pub timing_done : (o : Order) (x : List ℕ) {n i : ℕ} {firings : List Firing} → Filling (timed_firing o x) n (replicate 64 no_firing) i firings
    → n ≡ min o.count 64 → n ≤ i
    → record { sheet = o.sheet; memory = o.memory; denominator = 1; count = n; firings = firings; rest = 0 } ≡ timed_run o x
unfolding timed_run
timing_done o x h e l = rw (fill_done h l, e) refl
