-- What the rules of the memory words restart: `carry` exactly what was not enabled before the firing, and each of them at least that.
use Prim.Native.Nat.{ℕ}
use mathlib.Core.Path.{◌≡◌, refl, sym, ◌∙◌}
use mathlib.Core.Bool.{Bool, true, false, not, false≢true, ◌&&◌, ◌||◌}
use mathlib.Core.Logic.{◌↔◌}
use mathlib.Core.List.{List}
use lib.Dec.{eqb}
use Rattle.net.specs.declared.Net.{Net}
use Rattle.run.specs.declared.Memory.{Memory}
use Rattle.run.specs.declared.Memory.TheVariants.{Intermediate, Atomic, Carry}
use Rattle.firing.specs.Semantics.{Arcs, arcs_of, Timed, enabled, taken, after, looked_at, rule_of, Fires}
use Rattle.firing.specs.Claims.{Restarting}
use Rattle.firing.proofs.Clocks.{taken_enabled}

-- ---- `carry`
-- in truth values: after the firing, before it, and whether u is t, which is of no matter
restarts_exactly : (later before same : Bool) → ((later && (not before || (false && same))) ≡ true) ↔ ((later ≡ true) × (before ≡ false))
restarts_exactly true true same = (λ e. absurd (false≢true e), λ h. absurd (false≢true (sym h.1)))
restarts_exactly true false same = (λ e. (refl, refl), λ h. refl)
restarts_exactly false before same = (λ e. absurd (false≢true e), λ h. h.0)

module _ (a : Arcs) (m : List ℕ) (t : ℕ) where
  -- it restarts exactly what is enabled after the firing and was not before it
  pub carry_exactly : (u : ℕ) → (rule_of a Carry m t u ≡ true) ↔ ((enabled a (after a m t) u ≡ true) × (enabled a m u ≡ false))
  unfolding rule_of
  carry_exactly u = restarts_exactly (enabled a (after a m t) u) (enabled a m u) (eqb u t)

  -- so not the fired transition, which was enabled
  pub carry_keeps : enabled a m t ≡ true → rule_of a Carry m t t ≡ false
  carry_keeps e = go (rule_of a Carry m t t) refl
    where
      go : (b : Bool) → rule_of a Carry m t t ≡ b → b ≡ false
      go true p = sym e ∙ ((carry_exactly t).0 p).1
      go false p = refl

-- if it is still enabled it keeps its clock
pub carry_clock : (net : Net) (D : ℕ) (S S' : Timed) (t : ℕ) → Fires net (rule_of (arcs_of net) Carry) D S t S'
    → enabled (arcs_of net) S'.marking t ≡ true → S'.clock t ≡ S.clock t
carry_clock net D S S' t f e = f.clocks t e ∙ rw (carry_keeps (arcs_of net) S.marking t f.is_enabled) refl

-- ---- every memory word restarts what was not enabled before
module _ (net : Net) where
  -- what is not enabled before the firing is not enabled where a word looks
  looked_not : (memory : Memory) (m : List ℕ) (t u : ℕ) → enabled (arcs_of net) m u ≡ false
      → enabled (arcs_of net) (looked_at memory m (taken (arcs_of net) m t)) u ≡ false
  looked_not Carry m t u n = n
  looked_not Atomic m t u n = n
  looked_not Intermediate m t u n = go (enabled (arcs_of net) (taken (arcs_of net) m t) u) refl
    where
      go : (b : Bool) → enabled (arcs_of net) (taken (arcs_of net) m t) u ≡ b → b ≡ false
      go true p = sym (taken_enabled (arcs_of net) m t u p) ∙ n
      go false p = refl

  pub rule_restarting : (memory : Memory) → Restarting net (rule_of (arcs_of net) memory)
  unfolding Restarting rule_of
  rule_restarting memory m t u e n = rw (e, looked_not memory m t u n) refl
