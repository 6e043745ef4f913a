-- Document 02, "Ranking two answers": the order of runs, by their instants alone.
use Rattle.std.specs.Prelude.{ℕ, ◌*◌, ◌≤◌, ◌<◌, ◌≡◌, length}
use Rattle.run.specs.declared.Run.{Run}
use Rattle.run.specs.Run.{firings_of, order_of}
use Rattle.ranking.specs.Lead.{instant_of}

-- one memory word, and one order of firings
abbrev pub OfOneOrder : Run → Run → Type 0
OfOneOrder x y = (x.memory ≡ y.memory) × (order_of (firings_of x) ≡ order_of (firings_of y))

-- instant i of both is one, and that of X is earlier: as parts of ticks of different denominators are compared
abbrev pub SameInstant : Run → Run → ℕ → Type 0
SameInstant x y i = instant_of x i * y.denominator ≡ instant_of y i * x.denominator

abbrev pub EarlierInstant : Run → Run → ℕ → Type 0
EarlierInstant x y i = instant_of x i * y.denominator < instant_of y i * x.denominator

-- "Run X stands before run Y if, at the first firing with different instants, X is earlier. Equal instants throughout, then the end instants decide": the end
-- is the instant behind those of the firings
pub record Before (x y : Run) : Type 0 where
  pub at : ℕ
  pub within : at ≤ length (firings_of x)
  pub same : (k : ℕ) → k < at → SameInstant x y k
  pub earlier : EarlierInstant x y at

-- a tie: equal instants throughout, the end included
abbrev pub Level : Run → Run → Type 0
Level x y = (i : ℕ) → i ≤ length (firings_of x) → SameInstant x y i
