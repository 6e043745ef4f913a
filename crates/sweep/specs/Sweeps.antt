-- What the sweeps do. An instant is raised only as far as a constraint asks, so it stays below whatever meets the constraints. A sweep backward takes
-- the firings from the last, so that it leaves every upper bound met; a sweep forward takes them from the first, so that it leaves order and every lower
-- bound met.
use Rattle.std.specs.Prelude.{ℕ, suc, ◌+◌, ◌*◌, ◌-◌, ◌≤◌, ◌<◌, ◌^◌, ◌≡◌, List, ◌⊎◌, get_or, length}
use Rattle.timing.specs.Timing.{Upper, at_most, below, unbounded, Win, Meets, Feasible, Under}
use Rattle.timing.specs.Solve.{instant_at}

-- the least instant of the origin with which a firing at t is within the bound
abbrev pub asked : Upper → ℕ → ℕ
asked (at_most b) t = t - b
asked (below b) t = suc t - b
asked unbounded t = 0

-- the firing after j is not before j, and not before its lower bound
abbrev pub Follows : (ℕ → Win) → (ℕ → ℕ) → ℕ → Type 0
Follows W S j = (S j ≤ S (suc j)) × (S (W j).origin + (W j).low ≤ S (suc j))

-- the firing after j is not past its upper bound
abbrev pub InTime : (ℕ → Win) → (ℕ → ℕ) → ℕ → Type 0
InTime W S j = asked (W j).high (S (suc j)) ≤ S (W j).origin

-- x is what x₀ became when the firings top, .., i + 1 raised their origins; `from` is the lowest index that rose, and top where none did
pub record Backward (W : ℕ → Win) (top : ℕ) (x₀ : List ℕ) (from i : ℕ) (x : List ℕ) : Type 0 where
  pub within : i ≤ top
  pub size : length x ≡ length x₀
  pub up : Under (instant_at x₀) (instant_at x)
  pub reaches : (j : ℕ) → i ≤ j → j < top → InTime W (instant_at x) j
  pub under : (S : ℕ → ℕ) → ((j : ℕ) → j < top → InTime W S j) → Under (instant_at x₀) S → Under (instant_at x) S
  pub low : from ≤ top
  pub kept : (j : ℕ) → (j < from) ⊎ (top ≤ j) → instant_at x j ≡ instant_at x₀ j
  pub rose : from < top → instant_at x₀ from < instant_at x from

-- the firings behind the windows until, .., k - 1 are not too early
pub record Ahead (W : ℕ → Win) (k until : ℕ) (x : List ℕ) : Type 0 where
  pub within : until ≤ k
  pub follows : (j : ℕ) → until ≤ j → j < k → Follows W (instant_at x) j

-- x is what x₀ became when the firings from + 1, .., i were raised to their lower bounds; `to` is the highest index that rose, and 0 where none did
pub record Forward (W : ℕ → Win) (from k : ℕ) (x₀ : List ℕ) (to i : ℕ) (x : List ℕ) : Type 0 where
  pub after : from ≤ i
  pub within : i ≤ k
  pub size : length x ≡ length x₀
  pub up : Under (instant_at x₀) (instant_at x)
  pub follows : (j : ℕ) → j < i → Follows W (instant_at x) j
  pub under : (S : ℕ → ℕ) → ((j : ℕ) → j < k → Follows W S j) → Under (instant_at x₀) S → Under (instant_at x) S
  pub high : to ≤ i
  pub kept : (j : ℕ) → (to < j) ⊎ (j ≤ from) → instant_at x j ≡ instant_at x₀ j
  pub rose : 0 < to → instant_at x₀ to < instant_at x to
  pub small : (j : ℕ) → j ≤ k → instant_at x j ≤ (64 + i) * 2 ^ 32

-- each of the first n windows is below the numbers of the firing right before it and of its origin, and no number is over n
pub record Reaching (W : ℕ → Win) (n : ℕ) (reach : List ℕ) : Type 0 where
  pub past : (j : ℕ) → j < n → (j < get_or reach j 0) × (j < get_or reach (W j).origin 0)
  pub within : (o : ℕ) → get_or reach o 0 ≤ n

-- x starts with the least instants that meet the first k windows
pub record Solved (W : ℕ → Win) (k : ℕ) (x : List ℕ) : Type 0 where
  pub size : length x ≡ 65
  pub feasible : Feasible 1 W k (instant_at x)
  pub under : (S : ℕ → ℕ) → ((j : ℕ) → j < k → Meets 1 S j (W j)) → Under (instant_at x) S

-- x has an instant for the firing k: all that the first k windows ask is met, but perhaps its upper bound
pub record Entered (W : ℕ → Win) (k : ℕ) (x : List ℕ) : Type 0 where
  pub some : 0 < k
  pub size : length x ≡ 65
  pub starts : instant_at x 0 ≡ 0
  pub follows : (j : ℕ) → j < k → Follows W (instant_at x) j
  pub reaches : (j : ℕ) → suc j < k → InTime W (instant_at x) j
  pub under : (S : ℕ → ℕ) → ((j : ℕ) → j < k → Meets 1 S j (W j)) → Under (instant_at x) S
  pub small : instant_at x k ≤ 64 * 2 ^ 32

-- no instants meet the first k windows
abbrev pub Unmet : (ℕ → Win) → ℕ → Type 0
Unmet W k = (S : ℕ → ℕ) → Feasible 1 W k S → ⊥
