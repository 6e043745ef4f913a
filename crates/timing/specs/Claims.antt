-- What an answer has to be, whatever finds it.
use Rattle.std.specs.Prelude.{ℕ, suc, ◌≤◌, ◌<◌, ◌≡◌, List, length, take}
use Rattle.std.proofs.Math.Option.{Option, none, some}
use Rattle.net.specs.declared.Net.{Net}
use Rattle.firing.specs.Semantics.{Restart}
use Rattle.timing.specs.Timing.{Win, Feasible}
use Rattle.timing.specs.Windows.{Timing, Timable}
use Rattle.timing.specs.Solve.{instant_at, Verdict, met_by, fails_at}

-- some instants, at D parts to the tick, meet the first n windows
abbrev pub Possible : ℕ → (ℕ → Win) → ℕ → Type 0
Possible D W n = (S : ℕ → ℕ) × Feasible D W n S

-- x holds the least instants that meet the first n windows, at D parts to the tick
pub record LeastInstants (D : ℕ) (W : ℕ → Win) (n : ℕ) (x : List ℕ) : Type 0 where
  pub size : length x ≡ suc n
  pub feasible : Feasible D W n (instant_at x)
  pub least : (S : ℕ → ℕ) → Feasible D W n S → (i : ℕ) → instant_at x i ≤ S i

abbrev pub Answers : ℕ → (ℕ → Win) → ℕ → Option (List ℕ) → Type 0
Answers D W n none = (S : ℕ → ℕ) → Feasible D W n S → ⊥
Answers D W n (some x) = LeastInstants D W n x

-- k is the smallest number of windows, of the first n, that cannot be met together
pub record FirstFail (D : ℕ) (W : ℕ → Win) (n k : ℕ) : Type 0 where
  pub reached : k ≤ n
  pub fails_at_lem : (S : ℕ → ℕ) → Feasible D W k S → ⊥
  pub met : (j : ℕ) → j < k → (x : List ℕ) × LeastInstants D W j x

abbrev pub Judges : ℕ → (ℕ → Win) → ℕ → Verdict → Type 0
Judges D W n (met_by x) = LeastInstants D W n x
Judges D W n (fails_at k) = FirstFail D W n k

-- Document 01, number 8: "the smallest n whose first n firings have no timing", at whatever denominator
pub record FirstUntimable (net : Net) (restarts : Restart) (order : List ℕ) (k : ℕ) : Type 0 where
  pub reached : k ≤ length order
  pub untimable : (D : ℕ) → 0 < D → (waits : List ℕ) → Timing net restarts D (take k order) waits → ⊥
  pub timable : (j : ℕ) → j < k → Timable net restarts 1 (take j order)
