-- A run is an interleaving of its two sides, and of no other runs: what is fired when tells the runs, and their end their rest.
use Prim.Native.Nat.{ℕ, ◌+◌, ◌≤◌}
use native.Mathlib.Nat.{min-eq_left, min-le_right}
use native.Mathlib.Omega.{arith}
use mathlib.Core.Path.{◌≡◌, refl, sym, ap, ◌∙◌}
use mathlib.Core.List.{List}
use mathlib.Core.Option.{Option}
use lib.ListN.{length, get_or}
use Rattle.laws.specs.Each.{each_map}
use Rattle.laws.specs.Slots.{pad_to, first_pad}
use Rattle.reply.specs.Respond.{Passed}
use Rattle.form.proofs.Found.{also_second}
use Rattle.net.specs.declared.Net.{Net}
use Rattle.net.specs.Net.{net_card}
use Rattle.run.specs.declared.Firing.{Firing}
use Rattle.run.specs.declared.Run.{Run}
use Rattle.run.specs.Run.{no_firing, firings_of}
use Rattle.run.specs.Same.{SameRun}
use Rattle.run.proofs.Firings.{length_firings, firing_at}
use Rattle.run.proofs.Ranges.{RunFits, run_in_ranges}
use Rattle.timing.specs.Rounding.{last_instant, end_instant}
use Rattle.cards.specs.Cards.{run_checked}
use Rattle.joining.specs.Interleaving.{of_first, of_second, side_from, side_of, first_side, second_side, Interleaved}
use Rattle.joining.proofs.Merging.{side_count, side_last, sides_merged, merged_sides, last_of}

-- ---- runs by their firings
-- the firings of a run that holds them in its first slots
pub held_firings : (r : Run) (fs : List Firing) → length fs ≡ r.count → r.count ≤ 64 → r.firings ≡ pad_to 64 no_firing fs → firings_of r ≡ fs
unfolding firings_of
held_firings r fs e few held = rw (min-eq_left few, held) (first_pad r.count 64 no_firing fs e)

-- the numbers of a run of a net, if both are within the limits
pub run_fits : (net : Net) (r : Run) → run_checked net r ≡ Passed → RunFits net.sheet net.transitions r
run_fits net r p = (run_in_ranges net.sheet net.transitions r).0 (also_second (net_card.check net 1) _ p)

-- the end of a run is that of its firings, and the rest
pub end_of : (r : Run) {fs : List Firing} → firings_of r ≡ fs → end_instant r ≡ last_of fs + r.rest
unfolding end_instant last_instant
end_of r e = rw e refl

-- ---- the run of one side
module _ (own : ℕ → Option ℕ) (sheet : ℕ) (r : Run) where
  pub side_few : (side_of own sheet r).count ≤ 64
  unfolding side_of
  side_few = omega (arith, side_count own 0 (firings_of r), length_firings r, min-le_right r.count 64)

  pub side_firings : firings_of (side_of own sheet r) ≡ side_from own 0 (firings_of r)
  unfolding side_of
  side_firings = held_firings (side_of own sheet r) (side_from own 0 (firings_of r)) refl side_few refl

  -- it ends with the run
  pub side_ends : end_instant (side_of own sheet r) ≡ end_instant r
  unfolding side_of
  side_ends = omega (arith, end_of (side_of own sheet r) side_firings, side_last own 0 (firings_of r), end_of r refl)

  -- and a run with its firings that ends with the run is the same
  pub same_side : (x : Run) → x.count ≤ 64 → x.sheet ≡ sheet → x.memory ≡ r.memory → x.denominator ≡ r.denominator → end_instant x ≡ end_instant r
      → firings_of x ≡ side_from own 0 (firings_of r) → SameRun x (side_of own sheet r)
  unfolding side_of
  same_side x few on memory denominator ends same =
      let side = side_of own sheet r in
      let all = min-eq_left few in
      let all-on-side = min-eq_left side_few in
      let there : firings_of x ≡ firings_of side = same ∙ sym side_firings in
      record {
        sheet = on;
        memory = memory;
        denominator = denominator;
        count = omega (arith, length_firings x, ap length same);
        firings = λ i h.
            sym (firing_at x i (omega (arith, length_firings x, ap length same))) ∙ ap (λ (fs : List Firing). get_or fs i no_firing) there
            ∙ firing_at side i (omega arith);
        rest = omega (arith, end_of x there, end_of side refl, side_ends);
      }

-- ---- a run is an interleaving of its sides
pub sides_of : (a b : Net) (r : Run) → Interleaved a (first_side a r) (second_side a b r) r
unfolding side_of
sides_of a b r =
    let T = a.transitions in
    record {
      memory = (refl, refl);
      denominator = (refl, refl);
      ends = (side_ends (of_first T) a.sheet r, side_ends (of_second T) b.sheet r);
      merged =
          rw (side_firings (of_first T) a.sheet r, side_firings (of_second T) b.sheet r)
          (sides_merged T 0 0 0 0 0 refl refl (firings_of r));
    }

-- and of no other runs that are within the limits
pub no_other_sides : (a b : Net) (x y r : Run) → run_checked a x ≡ Passed → run_checked b y ≡ Passed → Interleaved a x y r
    → SameRun x (first_side a r) × SameRun y (second_side a b r)
no_other_sides a b x y r p q w =
    let T = a.transitions in
    let f = run_fits a x p in
    let g = run_fits b y q in
    let sides = merged_sides T 0 0 0 0 0 refl refl (firings_of x) (firings_of y) (firings_of r) w.merged (each_map (λ f h. h.1) (firings_of x) f.each) in (
      same_side (of_first T) a.sheet r x f.few f.own w.memory.0 w.denominator.0 w.ends.0 sides.0,
      same_side (of_second T) b.sheet r y g.few g.own w.memory.1 w.denominator.1 w.ends.1 sides.1,
    )
