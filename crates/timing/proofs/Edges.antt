-- The constraints of the windows say what `Feasible` says: each firing's order, lower and upper bound is one constraint.
use Prim.Native.Nat.{ℕ, zero, suc, ◌+◌, ◌*◌, ◌≤◌, ◌<◌}
use mathlib.Core.Path.{◌≡◌, subst⁻¹}
use mathlib.Core.List.{List, []}
use mathlib.Core.Logic.{⊎_elim}
use native.Mathlib.Omega.{arith}
use Rattle.laws.specs.Each.{Each}
use Rattle.laws.specs.Sums.{le_or_lt}
use Rattle.timing.specs.Timing.{Upper, at_most, below, unbounded, Win, Within, Meets, Wellformed}
use Rattle.timing.specs.Solve.{Edge, upper_edge, window_edges, edges}
use Rattle.timing.proofs.Pass.{Serves, Sat, Fits}

-- what the firing `suc i` asks of the instants S, T give it: where T is S, the firing meets its window
pub record Served (D : ℕ) (S T : ℕ → ℕ) (i : ℕ) (w : Win) : Type 0 where
  pub ordered : S i ≤ T (suc i)
  pub early : S w.origin + D * w.low ≤ T (suc i)
  pub late : Within D w.high (T w.origin) (S (suc i))

upper_fits : (N D : ℕ) (u : Upper) (o k : ℕ) (es : List Edge) → o ≤ N → k ≤ N → Each (Fits N) es → Each (Fits N) (upper_edge D u o k es)
upper_fits N D (at_most b) o k es h l a = (record { from_le = l; to_le = h }, a)
upper_fits N D (below b) o k es h l a = (record { from_le = l; to_le = h }, a)
upper_fits N D unbounded o k es h l a = a

upper_serves : (D : ℕ) (S T : ℕ → ℕ) (u : Upper) (o k : ℕ) (es : List Edge) → Within D u (T o) (S k) → Each (Serves S T) es
    → Each (Serves S T) (upper_edge D u o k es)
upper_serves D S T (at_most b) o k es h a = (omega arith, a)
upper_serves D S T (below b) o k es h a = (omega arith, a)
upper_serves D S T unbounded o k es h a = a

upper_back : (D : ℕ) (S : ℕ → ℕ) (u : Upper) (o k : ℕ) (es : List Edge) → Sat (upper_edge D u o k es) S → Within D u (S o) (S k) × Sat es S
upper_back D S (at_most b) o k es a = (omega arith, a.1)
upper_back D S (below b) o k es a = (omega arith, a.1)
upper_back D S unbounded o k es a = (tt, a)

module _ (D : ℕ) (W : ℕ → Win) where
  fits_in : (N n : ℕ) → n ≤ N → Wellformed W n → (es : List Edge) → Each (Fits N) es → Each (Fits N) (edges D W n es)
  fits_in N zero l wf es a = a
  fits_in N (suc i) l wf es a =
      let o = wf i (omega arith) in
      fits_in N i (omega arith) (λ k b. wf k (omega arith)) (window_edges D i (W i) es) (
        record { from_le = omega arith; to_le = l },
        (
          record { from_le = omega arith; to_le = l },
          upper_fits N D (W i).high (W i).origin (suc i) es
              (omega arith) l a,
        ),
      )

  pub edges_fit : (n : ℕ) → Wellformed W n → Each (Fits n) (edges D W n [])
  edges_fit n wf = fits_in n n (omega arith) wf [] tt

  module _ (S T : ℕ → ℕ) where
    serves_in : (n : ℕ) → ((i : ℕ) → i < n → Served D S T i (W i)) → (es : List Edge) → Each (Serves S T) es → Each (Serves S T) (edges D W n es)
    serves_in zero m es a = a
    serves_in (suc i) m es a =
        let w = m i (omega arith) in
        serves_in i (λ k b. m k (omega arith)) (window_edges D i (W i) es)
        (omega arith, (omega arith, upper_serves D S T (W i).high (W i).origin (suc i) es w.late a))

    pub serves_of : (n : ℕ) → ((i : ℕ) → i < n → Served D S T i (W i)) → Each (Serves S T) (edges D W n [])
    serves_of n m = serves_in n m [] tt

  module _ (S : ℕ → ℕ) where
    pub sat_of : (n : ℕ) → ((i : ℕ) → i < n → Meets D S i (W i)) → Sat (edges D W n []) S
    sat_of n m = serves_of S S n (λ i l. let w = m i l in record { ordered = w.ordered; early = w.early; late = w.late })

    back_in : (n : ℕ) (es : List Edge) → Sat (edges D W n es) S → ((i : ℕ) → i < n → Meets D S i (W i)) × Sat es S
    back_in zero es a = (λ i l. absurd (omega arith), a)
    back_in (suc i) es a =
        let b = back_in i (window_edges D i (W i) es) a in
        let c = b.1 in
        let u = upper_back D S (W i).high (W i).origin (suc i) es c.1.1 in (
          λ k l.
              ⊎_elim
              (λ h. b.0 k h)
              (λ h. let e : k ≡ i = omega arith in subst⁻¹ (λ (j : ℕ). Meets D S j (W j)) e
              (record { ordered = omega arith; early = omega arith; late = u.0 }))
              (le_or_lt (suc k) i),
          u.1,
        )

    pub meets_of : (n : ℕ) → Sat (edges D W n []) S → (i : ℕ) → i < n → Meets D S i (W i)
    meets_of n a = (back_in n [] a).0
