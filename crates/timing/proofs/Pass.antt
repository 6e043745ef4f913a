-- What one pass does: it lowers nothing, it serves every constraint as it stood, and it stays below every solution.
use Prim.Native.Nat.{ℕ, suc, ◌+◌, ◌-◌, ◌≤◌, ◌<◌, max}
use mathlib.Core.Path.{◌≡◌, ◌∙◌, ap}
use mathlib.Core.List.{List, [], ◌∷◌}
use mathlib.Core.Logic.{◌⊎◌, inl, inr, ⊎_elim}
use lib.ListN.{length, length-set}
use lib.Seq.{get_or-set_same, get_or-set_other}
use native.Mathlib.Nat.{le_refl, le_trans}
use native.Mathlib.Decide.{ℕ_discrete}
use native.Mathlib.Omega.{arith}
use Rattle.laws.specs.Each.{Each, each_map}
use Rattle.timing.specs.Timing.{Under}
use Rattle.timing.specs.Solve.{Edge, instant_at, raise, pass}

-- S asks of the target, T gives it: `Serves S S e` is that S meets e
abbrev pub Serves : (ℕ → ℕ) → (ℕ → ℕ) → Edge → Type 0
Serves S T e = S e.from + e.add ≤ T e.to + e.slack

abbrev pub Sat : List Edge → (ℕ → ℕ) → Type 0
Sat es S = Each (Serves S S) es

-- both ends are among 0..n
pub record Fits (n : ℕ) (e : Edge) : Type 0 where
  pub from_le : e.from ≤ n
  pub to_le : e.to ≤ n

module _ (e : Edge) (x : List ℕ) (l : e.to < length x) where
  -- an instant after the raising: the target's, or as it was
  raised : (i : ℕ)
      → ((i ≡ e.to) × (instant_at (raise e x) i ≡ max (instant_at x i) (instant_at x e.from + e.add - e.slack))) ⊎ (instant_at (raise e x) i ≡ instant_at x i)
  raised i = go (ℕ_discrete i e.to)
    where
      go : Dec (i ≡ e.to)
          → ((i ≡ e.to) × (instant_at (raise e x) i ≡ max (instant_at x i) (instant_at x e.from + e.add - e.slack))) ⊎
          (instant_at (raise e x) i ≡ instant_at x i)
      go (yes p) = inl (p, rw p (get_or-set_same x e.to _ 0 l))
      go (no n) = inr (get_or-set_other x e.to i _ 0 n)

  raise_up : Under (instant_at x) (instant_at (raise e x))
  raise_up i = ⊎_elim (λ c. omega arith) (λ c. omega arith) (raised i)

  raise_serves : Serves (instant_at x) (instant_at (raise e x)) e
  raise_serves = omega (arith, get_or-set_same x e.to (max (instant_at x e.to) (instant_at x e.from + e.add - e.slack)) 0 l)

  raise_under : (T : ℕ → ℕ) → Serves T T e → Under (instant_at x) T → Under (instant_at (raise e x)) T
  raise_under T s u i =
      ⊎_elim
      (λ (c : (i ≡ e.to) × (instant_at (raise e x) i ≡ max (instant_at x i) (instant_at x e.from + e.add - e.slack))). omega
      (arith, u i, u e.from, ap T c.0))
      (λ c. omega (arith, u i))
      (raised i)

module _ (n : ℕ) where
  pub pass_length : (es : List Edge) (x : List ℕ) → length x ≡ suc n → length (pass es x) ≡ suc n
  pass_length [] x p = p
  pass_length (e ∷ es) x p = pass_length es (raise e x) (length-set x e.to _ ∙ p)

  pub pass_up : (es : List Edge) → Each (Fits n) es → (x : List ℕ) → length x ≡ suc n → Under (instant_at x) (instant_at (pass es x))
  pass_up [] f x p i = le_refl _
  pass_up (e ∷ es) f x p i =
      let l : e.to < length x = omega arith in
      le_trans (raise_up e x l i) (pass_up es f.1 (raise e x) (length-set x e.to _ ∙ p) i)

  pub pass_serves : (es : List Edge) → Each (Fits n) es → (x : List ℕ) → length x ≡ suc n → Each (Serves (instant_at x) (instant_at (pass es x))) es
  pass_serves [] f x p = tt
  pass_serves (e ∷ es) f x p =
      let l : e.to < length x = omega arith in
      let q : length (raise e x) ≡ suc n = length-set x e.to _ ∙ p in
      let s = raise_serves e x l in (
        omega (arith, pass_up es f.1 (raise e x) q e.to),
        each_map (λ c h. omega (arith, h, raise_up e x l c.from)) es (pass_serves es f.1 (raise e x) q),
      )

  pub pass_under : (es : List Edge) → Each (Fits n) es → (x : List ℕ) (T : ℕ → ℕ) → length x ≡ suc n → Sat es T → Under (instant_at x) T
      → Under (instant_at (pass es x)) T
  pass_under [] f x T p s u = u
  pass_under (e ∷ es) f x T p s u =
      let l : e.to < length x = omega arith in
      pass_under es f.1 (raise e x) T (length-set x e.to _ ∙ p) s.1 (raise_under e x l T s.0 u)
