-- What is raised to t is at most whatever is t or more there. An upper bound is met exactly when the origin is not before what the bound asks.
use Rattle.std.specs.Prelude.{Option, Some}
use Prim.Native.Nat.{ℕ, ◌-◌, ◌≤◌, ◌<◌}
use mathlib.Core.Path.{◌≡◌, refl, subst⁻¹}
use mathlib.Core.List.{List}
use mathlib.Core.Logic.{◌↔◌}
use lib.ListN.{length, set}
use lib.Seq.{get_or-set_same, get_or-set_other}
use native.Mathlib.Decide.{ℕ_discrete}
use native.Mathlib.Omega.{arith}
use Rattle.timing.specs.Timing.{Upper, at_most, below, unbounded, Within, Under}
use Rattle.timing.specs.Windows.{upper_of}
use Rattle.timing.specs.Solve.{instant_at}
use Rattle.sweep.specs.Sweeps.{asked}

-- what holds of each index but `at`, and of `at`, holds of each
pub each_index : (at : ℕ) (P : ℕ → Type 0) → P at → ((j : ℕ) → (j ≡ at → ⊥) → P j) → (j : ℕ) → P j
each_index at P p q j = elim (ℕ_discrete j at) [ yes e ↦ subst⁻¹ P e p | no n ↦ q j n ]

-- the instant `at`, raised to t
module _ (x : List ℕ) (at t : ℕ) (l : at < length x) (h : instant_at x at < t) where
  pub raised_there : instant_at (set x at t) at ≡ t
  raised_there = get_or-set_same x at t 0 l

  pub raised_kept : (j : ℕ) → (j ≡ at → ⊥) → instant_at (set x at t) j ≡ instant_at x j
  raised_kept j n = get_or-set_other x at j t 0 n

  pub raised_up : Under (instant_at x) (instant_at (set x at t))
  raised_up = each_index at (λ j. instant_at x j ≤ instant_at (set x at t) j) (omega (arith, raised_there)) (λ j n. omega (arith, raised_kept j n))

  pub raised_under : (S : ℕ → ℕ) → t ≤ S at → Under (instant_at x) S → Under (instant_at (set x at t)) S
  raised_under S s u = each_index at (λ j. instant_at (set x at t) j ≤ S j) (omega (arith, raised_there)) (λ j n. omega (arith, raised_kept j n, u j))

-- ---- what an upper bound asks

pub asked_within : (b : Upper) (s t : ℕ) → (asked b t ≤ s) ↔ Within 1 b s t
asked_within (at_most b) s t = (λ h. omega arith, λ h. omega arith)
asked_within (below b) s t = (λ h. omega arith, λ h. omega arith)
asked_within unbounded s t = (λ h. tt, λ h. omega arith)

pub asked_mono : (b : Upper) (s t : ℕ) → s ≤ t → asked b s ≤ asked b t
asked_mono (at_most b) s t h = omega arith
asked_mono (below b) s t h = omega arith
asked_mono unbounded s t h = omega arith

pub asks_past : {l : Option ℕ} {b : ℕ} → l ≡ Some b → (t : ℕ) → t - b ≡ asked (upper_of l) t
asks_past e t = rw e refl
