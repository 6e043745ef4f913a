-- Windows that are each counted from an earlier firing are windows as the search asks for them, and their verdict is that of the windows handed over.
use Prim.Native.Nat.{ℕ, ◌+◌, ◌≤◌, ◌<◌, min}
use native.Mathlib.Nat.{min-le_right}
use native.Mathlib.Omega.{arith}
use mathlib.Core.Path.{◌≡◌, refl, ap, ◌∙◌}
use mathlib.Core.List.{List}
use lib.ListN.{length, get_or, set, take, length-set}
use lib.Seq.{get_or-set_same, get_or-set_other, length-take-le, get_or-take}
use Rattle.std.proofs.Common.{below_more, le_refl}
use Rattle.timing.specs.declared.Window.{Window}
use Rattle.timing.specs.Timing.{Win, Wellformed}
use Rattle.timing.specs.Windows.{no_window, win_of, windows}
use Rattle.timing.specs.Solve.{solve_prefixes}
use Rattle.timing.specs.Claims.{Judges}
use Rattle.timing.proofs.Solved.{prefixes_right, judge_unique, judges_windows}
use Rattle.sweep.specs.Arrays.{Listed, Clipped, clipped_at}

-- the windows below i are clipped, and the others are what they were
pub record Clipping (ws : List Window) (i : ℕ) (vs : List Window) : Type 0 where
  pub size : length vs ≡ length ws
  pub same : (j : ℕ) → j < i → windows vs j ≡ clipped_at ws j
  pub ahead : (j : ℕ) → i ≤ j → get_or vs j no_window ≡ get_or ws j no_window

-- one more
pub clipping_more : {ws vs : List Window} {i o : ℕ} → Clipping ws i vs → i < length ws → o ≡ min (get_or vs i no_window).origin i
    → Clipping ws (i + 1) (set vs i (record { origin = o; interval = (get_or vs i no_window).interval }))
clipping_more {ws} {vs} {i} {o} c l e =
    let w : Window = record { origin = o; interval = (get_or vs i no_window).interval } in
    let there : get_or (set vs i w) i no_window ≡ w = get_or-set_same vs i w no_window (omega (arith, c.size)) in
    let others : (j : ℕ) → (j ≡ i → ⊥) → get_or (set vs i w) j no_window ≡ get_or vs j no_window = λ j n. get_or-set_other vs i j w no_window n in
    record {
      size = length-set vs i w ∙ c.size;
      same =
          below_more _ _
          (λ j h. ap win_of (others j (λ q. omega arith)) ∙ c.same j h)
          (ap win_of there ∙ rw (e, c.ahead i (le_refl i)) refl);
      ahead = λ j h. others j (λ q. omega arith) ∙ c.ahead j (omega arith);
    }

pub clipped_listed : {ws vs : List Window} → Clipped ws vs → length ws ≤ 64 → Listed vs
clipped_listed {ws} {vs} c few =
    record {
      few = omega (arith, c.size);
      earlier = λ i l.
          let e = ap (λ (w : Win). w.origin) (c.same i (omega (arith, c.size))) in
          omega (arith, e, min-le_right (get_or ws i no_window).origin i);
    }

-- the first n windows
module _ (ws : List Window) (n : ℕ) {vs : List Window} (c : Clipped (take n ws) vs) (few : n ≤ length ws) where
  long : length vs ≡ n
  long = c.size ∙ length-take-le n ws few

  same_window : (i : ℕ) → i < n → windows vs i ≡ clipped_at ws i
  same_window i l =
      c.same i (omega (arith, length-take-le n ws few)) ∙ rw (get_or-take n ws i no_window l) refl

  earlier : Wellformed (clipped_at ws) n
  earlier i l = min-le_right (get_or ws i no_window).origin i

  pub clipped_verdict : Wellformed (windows vs) (length vs) → solve_prefixes 1 (windows vs) (length vs) ≡ solve_prefixes 1 (clipped_at ws) n
  clipped_verdict wf =
      let W = windows vs in
      let right : Judges 1 W n (solve_prefixes 1 W n) = prefixes_right 1 W n (rw long at wf) in
      rw long
      (judge_unique 1 (clipped_at ws) n (solve_prefixes 1 W n) (solve_prefixes 1 (clipped_at ws) n)
      (judges_windows 1 n same_window (solve_prefixes 1 W n) right) (prefixes_right 1 (clipped_at ws) n earlier))
