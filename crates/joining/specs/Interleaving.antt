-- Document 02, "Sorter and changer on one drawing": interleavings in time of a run of each of two nets, by instants alone; and the two runs that a run of the
-- joined net is an interleaving of.
use Rattle.std.specs.Prelude.{ℕ, ◌+◌, ◌-◌, ◌≡◌, cond, List, [], ◌∷◌, length, ltb}
use Rattle.std.proofs.Math.Option.{Option, none, some}
use Rattle.laws.specs.Slots.{pad_to}
use Rattle.net.specs.declared.Net.{Net}
use Rattle.run.specs.declared.Firing.{Firing}
use Rattle.run.specs.declared.Run.{Run}
use Rattle.run.specs.Run.{no_firing, firings_of}
use Rattle.timing.specs.Rounding.{end_instant}

-- the firings from an instant on, each as its instant and its transition
unfoldable pub timed : ℕ → List Firing → List (ℕ × ℕ)
timed s [] = []
timed s (f ∷ fs) = (s + f.wait, f.fire) ∷ timed (s + f.wait) fs

-- two lists of firings in one, each in its own order and at its own instants; the second net's transitions stand behind T of the first
pub data Merged (T : ℕ) : List (ℕ × ℕ) → List (ℕ × ℕ) → List (ℕ × ℕ) → Type 0 where
  done : Merged T [] [] []
  first : {s t : ℕ} {xs ys zs : List (ℕ × ℕ)} → Merged T xs ys zs → Merged T ((s, t) ∷ xs) ys ((s, t) ∷ zs)
  second : {s t : ℕ} {xs ys zs : List (ℕ × ℕ)} → Merged T xs ys zs → Merged T xs ((s, t) ∷ ys) ((s, T + t) ∷ zs)

-- "an interleaving in time of a run of each under the same memory and denominator and with the same end instant": r is one of x, of the first net, and y
pub record Interleaved (a : Net) (x y r : Run) : Type 0 where
  pub memory : (x.memory ≡ r.memory) × (y.memory ≡ r.memory)
  pub denominator : (x.denominator ≡ r.denominator) × (y.denominator ≡ r.denominator)
  pub ends : (end_instant x ≡ end_instant r) × (end_instant y ≡ end_instant r)
  pub merged : Merged a.transitions (timed 0 (firings_of x)) (timed 0 (firings_of y)) (timed 0 (firings_of r))

-- ---- the runs of the two sides
-- a transition of the joined net as one of the first net, and as one of the second, whose transitions come behind T
abbrev pub of_first : ℕ → ℕ → Option ℕ
of_first T t = cond (ltb t T) (some t) none

abbrev pub of_second : ℕ → ℕ → Option ℕ
of_second T t = cond (ltb t T) none (some (t - T))

-- the firings of one side: `own` gives a transition's number there. Each comes after the waits since that side's last one; w parts have been waited so far
abbrev pub on_side : Option ℕ → ℕ → List Firing → List Firing → List Firing
on_side (some t) wait mine others = record { wait = wait; fire = t } ∷ mine
on_side none wait mine others = others

unfoldable pub side_from : (ℕ → Option ℕ) → ℕ → List Firing → List Firing
side_from own w [] = []
side_from own w (f ∷ fs) = on_side (own f.fire) (w + f.wait) (side_from own 0 fs) (side_from own (w + f.wait) fs)

-- what is waited behind the last firing of a side
abbrev pub rest_on : Option ℕ → ℕ → ℕ → ℕ
rest_on (some t) mine others = mine
rest_on none mine others = others

unfoldable pub waited_from : (ℕ → Option ℕ) → ℕ → List Firing → ℕ
waited_from own w [] = w
waited_from own w (f ∷ fs) = rest_on (own f.fire) (waited_from own 0 fs) (waited_from own (w + f.wait) fs)

-- the run of one side, on its sheet: the firings of r that are its own, at their instants, and the end of r
unfoldable pub side_of : (ℕ → Option ℕ) → ℕ → Run → Run
side_of own sheet r =
    let fs = side_from own 0 (firings_of r) in
    record {
      sheet = sheet;
      memory = r.memory;
      denominator = r.denominator;
      count = length fs;
      firings = pad_to 64 no_firing fs;
      rest = waited_from own 0 (firings_of r) + r.rest;
    }

abbrev pub first_side : Net → Run → Run
first_side a r = side_of (of_first a.transitions) a.sheet r

abbrev pub second_side : Net → Net → Run → Run
second_side a b r = side_of (of_second a.transitions) b.sheet r
