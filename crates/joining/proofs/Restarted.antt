-- Restarts in an embedded net are its own, and a firing of another net restarts nothing in it; under every memory word.
use Prim.Native.Nat.{ℕ, ◌+◌, ◌≤◌, ◌<◌}
use native.Mathlib.Omega.{arith}
use mathlib.Core.Path.{◌≡◌, refl, ◌∙◌}
use mathlib.Core.Bool.{Bool, true, false, not, ◌&&◌, ◌||◌, and-false}
use mathlib.Core.Logic.{◌⊎◌, inl, inr, ⊎_elim}
use mathlib.Core.List.{List}
use lib.ListN.{length}
use lib.Dec.{eqb}
use borrow.Author.Tests.{ne_eqb}
use Rattle.laws.specs.Tests.{eqb_shift}
use Rattle.net.specs.declared.Net.{Net}
use Rattle.run.specs.declared.Memory.{Memory}
use Rattle.run.specs.declared.Memory.TheVariants.{Intermediate, Atomic, Carry}
use Rattle.firing.specs.Semantics.{arcs_of, enabled, taken, after, looked_at, restarts_fired, rule_of}
use Rattle.joining.proofs.Embedded.{Outside, Embeds, SameTokens, taken_else, after_else, enabled_same, taken_same, after_same}

-- ---- a firing of the net itself
module _ {c j : Net} {P T : ℕ} (em : Embeds c j P T) (t : ℕ) (l : t < c.transitions) (m m' : List ℕ) (same : SameTokens c P m m')
    (full : length m ≡ 16) (full' : length m' ≡ 16) where
  looked_same : (memory : Memory) → SameTokens c P (looked_at memory m (taken (arcs_of j) m (T + t))) (looked_at memory m' (taken (arcs_of c) m' t))
  looked_same Intermediate = taken_same em t l m m' same full full'
  looked_same Atomic = same
  looked_same Carry = same

  pub restarts_same : (memory : Memory) (u : ℕ) → u < c.transitions → rule_of (arcs_of j) memory m (T + t) (T + u) ≡ rule_of (arcs_of c) memory m' t u
  unfolding rule_of
  restarts_same memory u k =
      let later = enabled_same em u k (after (arcs_of j) m (T + t)) (after (arcs_of c) m' t) (after_same em t l m m' same full full') in
      let looked = looked_at memory m (taken (arcs_of j) m (T + t)) in
      let looked' = looked_at memory m' (taken (arcs_of c) m' t) in
      rw (later, enabled_same em u k looked looked' (looked_same memory), eqb_shift T u t) refl

-- ---- a firing of another net
-- the one range lies wholly before the other
abbrev pub Separate : ℕ → ℕ → ℕ → ℕ → Type 0
Separate P n P' n' = (P + n ≤ P') ⊎ (P' + n' ≤ P)

-- two embedded nets that share no place and no transition
pub record Disjoint (c d j : Net) (P T P' T' : ℕ) : Type 0 where
  pub mine : Embeds c j P T
  pub others : Embeds d j P' T'
  pub places : Separate P c.places P' d.places
  pub transitions : Separate T c.transitions T' d.transitions

module _ {c d j : Net} {P T P' T' : ℕ} (two : Disjoint c d j P T P' T') (t : ℕ) (l : t < c.transitions) (m m' : List ℕ)
    (same : SameTokens d P' m m') (full : length m ≡ 16) where
  outside : (p : ℕ) → p < d.places → Outside c P (P' + p)
  outside p b = ⊎_elim (λ a. inr (omega arith)) (λ a. inl (omega arith)) two.places

  looked_other : (memory : Memory) → SameTokens d P' (looked_at memory m (taken (arcs_of j) m (T + t))) m'
  looked_other Intermediate = λ p b. taken_else two.mine t l m full (P' + p) (omega arith) (outside p b) ∙ same p b
  looked_other Atomic = same
  looked_other Carry = same

  pub after_other : SameTokens d P' (after (arcs_of j) m (T + t)) m'
  after_other p b = after_else two.mine t l m full (P' + p) (omega arith) (outside p b) ∙ same p b

  never : (e fired : Bool) → (e && (not e || (fired && false))) ≡ false
  never true fired = and-false fired
  never false fired = refl

  pub restarts_not : (memory : Memory) (u : ℕ) → u < d.transitions → rule_of (arcs_of j) memory m (T + t) (T' + u) ≡ false
  unfolding rule_of
  restarts_not memory u k =
      let another : eqb (T' + u) (T + t) ≡ false = ne_eqb (T' + u) (T + t) (λ q. ⊎_elim (λ a. omega arith) (λ a. omega arith) two.transitions) in
      let later = enabled_same two.others u k (after (arcs_of j) m (T + t)) m' after_other in
      let looked = looked_at memory m (taken (arcs_of j) m (T + t)) in
      rw (later, enabled_same two.others u k looked m' (looked_other memory), another) (never (enabled (arcs_of d) m' u) (restarts_fired memory))
