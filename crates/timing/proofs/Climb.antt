-- Difference constraints: if there is a solution there is a least one, and each pass makes one more index final: n passes suffice.
use Prim.Native.Nat.{ℕ, zero, suc, ◌+◌, ◌-◌, ◌≤◌}
use mathlib.Core.Path.{◌≡◌}
use mathlib.Core.List.{List}
use mathlib.Core.Logic.{⊎_elim}
use lib.ListN.{length}
use native.Mathlib.Omega.{arith}
use Rattle.laws.specs.Each.{Each, each_zip}
use Rattle.laws.specs.Sums.{le_or_lt, sum, sum_le, sum_same, sum_term, sum_not_all, less, less_cases, less_le, less_none, none_less, less_anti}
use Rattle.timing.specs.Solve.{Edge, instant_at, pass}
use Rattle.timing.proofs.Pass.{Serves, Sat, Fits, pass_length, pass_up, pass_serves, pass_under}
use Rattle.timing.specs.Timing.{Under}

pub record Least (es : List Edge) (L : ℕ → ℕ) : Type 0 where
  pub sat : Sat es L
  pub under : (T : ℕ → ℕ) → Sat es T → Under L T

-- 0 at an index that is final, where S has come up to L, and 1 elsewhere
abbrev pub lag : (ℕ → ℕ) → (ℕ → ℕ) → ℕ → ℕ
lag L S i = less (S i) (L i)

module _ (n : ℕ) (es : List Edge) (fits : Each (Fits n) es) (L : ℕ → ℕ) (least : Least es L) where
  module _ (S S' : ℕ → ℕ) (u : Under S S') (v : Under S' L) (serves : Each (Serves S S') es)
      (none-new : (i : ℕ) → i ≤ n → lag L S' i ≡ lag L S i) where
    lower : ℕ → ℕ
    lower i = L i - lag L S i

    lower_serves : (e : Edge) → Fits n e → Serves S S' e → Serves L L e → Serves lower lower e
    unfolding lower
    lower_serves e f s h =
        let same = none-new e.to f.to_le in
        ⊎_elim
        (λ t. omega arith)
        (λ t.
        ⊎_elim
        (λ t'. omega arith)
        (λ t'. ⊎_elim (λ b. omega arith) (λ b. omega arith) (less_cases (S e.from) (L e.from)))
        (less_cases (S' e.to) (L e.to)))
        (less_cases (S e.to) (L e.to))

    all_final : (i : ℕ) → L i ≤ S i
    unfolding lower
    all_final i =
        let lowered = each_zip lower_serves es fits serves in
        let h = least.under lower (each_zip (λ e f l. f l) es lowered least.sat) i in
        ⊎_elim (λ c. omega arith) (λ c. omega arith) (less_cases (S i) (L i))

  -- a pass from S to S' that makes no index final finds all of them final
  progress : (S S' : ℕ → ℕ) → Under S S' → Under S' L → Each (Serves S S') es → sum (lag L S) n ≤ sum (lag L S') n → (i : ℕ) → L i ≤ S i
  progress S S' u v s h = all_final S S' u v s (sum_same (lag L S') (lag L S) n (λ i l. less_anti (S i) (L i) (S' i) (u i)) h)

module _ (n : ℕ) (es : List Edge) (fits : Each (Fits n) es) where
  -- instants that a pass leaves as they were are a solution
  rest_sat : (x : List ℕ) → length x ≡ suc n → sum (instant_at (pass es x)) n ≤ sum (instant_at x) n → Sat es (instant_at x)
  rest_sat x p h =
      let same = sum_same (instant_at x) (instant_at (pass es x)) n (λ i l. pass_up n es fits x p i) h in
      each_zip (λ e f s. omega (arith, same e.to f.to_le)) es fits (pass_serves n es fits x p)

  module _ (T : ℕ → ℕ) (t : Sat es T) where
    -- where there is a solution T, there is a least one: m bounds what is left between x and T
    reach : (m : ℕ) (x : List ℕ) → length x ≡ suc n → ((T' : ℕ → ℕ) → Sat es T' → Under (instant_at x) T')
        → sum T n ≤ sum (instant_at x) n + m → (y : List ℕ) × Least es (instant_at y)
    reach zero x p u h =
        let v = sum_le (instant_at (pass es x)) T n (λ i l. pass_under n es fits x T p t (u T t) i) in
        (x, record { sat = rest_sat x p (omega arith); under = u })
    reach (suc m) x p u h =
        ⊎_elim
        (λ l. (x, record { sat = rest_sat x p l; under = u }))
        (λ l. reach m (pass es x) (pass_length n es x p) (λ T' t'. pass_under n es fits x T' p t' (u T' t')) (omega arith))
        (le_or_lt (sum (instant_at (pass es x)) n) (sum (instant_at x) n))

-- ---- what a loop keeps, whatever its passes are

-- x lies below every solution
pub record Start (n : ℕ) (es : List Edge) (x : List ℕ) : Type 0 where
  pub size : length x ≡ suc n
  pub under : (S : ℕ → ℕ) → Sat es S → Under (instant_at x) S

-- at most m indices are not final
abbrev pub Near : ℕ → List Edge → ℕ → List ℕ → Type 0
Near n es m x = (L : ℕ → ℕ) → Least es L → L 0 ≡ 0 → sum (lag L (instant_at x)) n ≤ m

-- y comes from x by a pass: nothing is lowered, each constraint is served as it stood, and no solution is passed
pub record Step (n : ℕ) (es : List Edge) (x y : List ℕ) : Type 0 where
  pub size : length y ≡ suc n
  pub up : Under (instant_at x) (instant_at y)
  pub serves : Each (Serves (instant_at x) (instant_at y)) es
  pub under : (S : ℕ → ℕ) → Sat es S → Under (instant_at x) S → Under (instant_at y) S

-- the least solution, from 0
pub record Best (n : ℕ) (es : List Edge) (x : List ℕ) : Type 0 where
  pub size : length x ≡ suc n
  pub starts : instant_at x 0 ≡ 0
  pub least : Least es (instant_at x)

module _ (n : ℕ) (es : List Edge) where
  pub best : (x : List ℕ) → Start n es x → instant_at x 0 ≡ 0 → Sat es (instant_at x) → Best n es x
  best x s z t = record { size = s.size; starts = z; least = record { sat = t; under = s.under } }

  pub start_step : (x y : List ℕ) → Start n es x → Step n es x y → Start n es y
  start_step x y s p = record { size = p.size; under = λ S h. p.under S h (s.under S h) }

  -- wherever the passes start, 0 is final: n passes suffice
  pub near_start : (x : List ℕ) → Near n es n x
  near_start x L l z = sum_not_all (lag L (instant_at x)) n 0 (omega arith) (less_none (instant_at x 0) (L 0) (omega arith)) (λ i. less_le (instant_at x i) (L i))

  module _ (fits : Each (Fits n) es) where
    pub pass_step : (x : List ℕ) → length x ≡ suc n → Step n es x (pass es x)
    pass_step x p =
        record {
          size = pass_length n es x p;
          up = pass_up n es fits x p;
          serves = pass_serves n es fits x p;
          under = λ S s u. pass_under n es fits x S p s u;
        }

    -- what has come up to the least solution is a solution
    final_sat : (x : List ℕ) (L : ℕ → ℕ) → Start n es x → Least es L → ((i : ℕ) → i ≤ n → L i ≤ instant_at x i) → Sat es (instant_at x)
    final_sat x L s l h =
        let same : (i : ℕ) → i ≤ n → instant_at x i ≡ L i = λ i b. omega (arith, h i b, s.under L l.sat i) in
        each_zip (λ e f p. omega (arith, same e.to f.to_le, same e.from f.from_le)) es fits l.sat

    -- a pass from what is no solution makes one more index final
    pub nearer : (k : ℕ) (x y : List ℕ) → Start n es x → Near n es (suc k) x → (instant_at x 0 ≡ 0 → Sat es (instant_at x) → ⊥) → Step n es x y → Near n es k y
    nearer k x y s m r p L l z =
        ⊎_elim
        (λ h.
        let up = progress n es fits L l (instant_at x) (instant_at y) p.up (p.under L l.sat (s.under L l.sat)) p.serves h in
        absurd (r (omega (arith, s.under L l.sat 0)) (final_sat x L s l (λ i b. up i))))
        (λ h. omega (arith, m L l z))
        (le_or_lt (sum (lag L (instant_at x)) n) (sum (lag L (instant_at y)) n))

    -- all are final, and it is no solution: there is none
    pub exhausted : (x : List ℕ) → Start n es x → Near n es 0 x → (instant_at x 0 ≡ 0 → Sat es (instant_at x) → ⊥) → (S : ℕ → ℕ) → S 0 ≡ 0 → Sat es S → ⊥
    exhausted x s m r S z h =
        let (y, l) = reach n es fits S h (sum S n) x s.size s.under (omega arith) in
        let y0 : instant_at y 0 ≡ 0 = omega (arith, l.under S h 0) in
        r (omega (arith, s.under S h 0))
        (final_sat x (instant_at y) s l
        (λ i b. none_less (instant_at x i) (instant_at y i) (omega (arith, sum_term (lag (instant_at y) (instant_at x)) n i b, m (instant_at y) l y0))))
