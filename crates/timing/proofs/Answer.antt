-- What `climb` answers: the test decides whether the constraints hold, so a list that it passes is the least solution, and where passes are used up
-- there is none.
use Prim.Native.Nat.{ℕ, zero, suc}
use mathlib.Core.Path.{◌≡◌, refl}
use mathlib.Core.Bool.{Bool, true, false, cond, and-eq-true_iff, true≢false}
use mathlib.Core.Logic.{◌↔◌}
use mathlib.Core.List.{List, [], ◌∷◌}
use mathlib.Core.Option.{Option, none, some}
use lib.Dec.{eqb}
use borrow.Author.Tests.{leb-true, le-leb, eqb-true, eq-eqb}
use Rattle.laws.specs.Each.{Each}
use Rattle.timing.specs.Solve.{Edge, instant_at, pass, holds, all_hold, settled, climb}
use Rattle.timing.proofs.Pass.{Sat, Fits}
use Rattle.timing.proofs.Climb.{Start, Near, Best, best, start_step, pass_step, nearer, exhausted}

all_hold_lem : (es : List Edge) (x : List ℕ) → (all_hold es x ≡ true) ↔ Sat es (instant_at x)
all_hold_lem [] x = (λ e. tt, λ s. refl)
all_hold_lem (e ∷ es) x =
    let parts = and-eq-true_iff (holds e x) (all_hold es x) in
    let ih = all_hold_lem es x in (
      λ t. let h = parts.0 t in (leb-true _ _ h.0, ih.0 h.1),
      λ s. parts.1 (le-leb _ _ s.0, ih.1 s.1),
    )

is_settled : (es : List Edge) (x : List ℕ) → (settled es x ≡ true) ↔ ((instant_at x 0 ≡ 0) × Sat es (instant_at x))
is_settled es x =
    let parts = and-eq-true_iff (eqb (instant_at x 0) 0) (all_hold es x) in (
      λ t. let h = parts.0 t in (eqb-true _ _ h.0, (all_hold_lem es x).0 h.1),
      λ s. parts.1 (eq-eqb _ _ s.0, (all_hold_lem es x).1 s.1),
    )

not_settled : (es : List Edge) (x : List ℕ) → settled es x ≡ false → instant_at x 0 ≡ 0 → Sat es (instant_at x) → ⊥
not_settled es x e z s = true≢false (rw ((is_settled es x).1 (z, s)) at e)

abbrev pub Right : ℕ → List Edge → Option (List ℕ) → Type 0
Right n es none = (S : ℕ → ℕ) → S 0 ≡ 0 → Sat es S → ⊥
Right n es (some x) = Best n es x

module _ (n : ℕ) (es : List Edge) (fits : Each (Fits n) es) where
  -- either the list is settled, or what comes next is right
  either_right : (x : List ℕ) (next : Option (List ℕ)) → Start n es x → (settled es x ≡ false → Right n es next)
      → Right n es (cond (settled es x) (some x) next)
  either_right x next s h = go (settled es x) refl
    where
      go : (b : Bool) → settled es x ≡ b → Right n es (cond b (some x) next)
      go true e = let k = (is_settled es x).0 e in best n es x s k.0 k.1
      go false e = h e

  pub climb_right : (m : ℕ) (x : List ℕ) → Start n es x → Near n es m x → Right n es (climb m es x)
  climb_right zero x s m = either_right x none s (λ e. exhausted n es fits x s m (not_settled es x e))
  climb_right (suc k) x s m =
      either_right x (climb k es (pass es x)) s
      (λ e.
      let p = pass_step n es fits x s.size in
      climb_right k (pass es x) (start_step n es x (pass es x) s p) (nearer n es fits k x (pass es x) s m (not_settled es x e) p))
