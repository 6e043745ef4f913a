-- Document 003, definitions 1 and 2: the weak semantics of time Petri nets, with clocks in parts of a tick, D parts to the tick.
-- Two points are document 01's: no place may hold more than 255 tokens, and the formula for the clocks reads I(u) where the paper's last line misprints I'(u).
use Rattle.std.specs.Prelude.{None, Option, Some}
use Rattle.std.specs.Prelude.{ℕ, ◌+◌, ◌-◌, ◌*◌, ◌≤◌, ◌<◌, min, ◌≡◌, Bool, true, false, not, cond, ◌&&◌, ◌||◌, List, [], ◌∷◌, get_or, replicate, leb, ltb, eqb}
use Rattle.laws.specs.Tests.{all_below}
use Rattle.laws.specs.Arrays.{filled}
use Rattle.net.specs.declared.Transition.{Transition}
use Rattle.net.specs.declared.Net.{Net}
use Rattle.net.specs.Net.{no_transition, takes_in, gives_in}
use Rattle.run.specs.declared.Firing.{Firing}
use Rattle.run.specs.declared.Memory.{Memory}
use Rattle.run.specs.declared.Memory.TheVariants.{Intermediate, Atomic, Carry}

-- (P, T, •(.), (.)•): the places, the transitions and the weights
pub record Arcs : Type 0 where
  pub places : ℕ
  pub transitions : ℕ
  pub take : List ℕ
  pub give : List ℕ

-- those of a net value, which holds 16 places and 32 transitions at most
abbrev pub arcs_of : Net → Arcs
arcs_of net = record { places = min net.places 16; transitions = min net.transitions 32; take = net.take; give = net.give }

-- •t(p) and t•(p): the tokens that t takes from and gives to place p
abbrev pub takes : Arcs → ℕ → ℕ → ℕ
takes a t p = takes_in a.take t p

abbrev pub gives : Arcs → ℕ → ℕ → ℕ
gives a t p = gives_in a.give t p

-- the static interval of transition t of a net
abbrev pub transition_at : Net → ℕ → Transition
transition_at net t = get_or net.table t no_transition

-- a marking M lists the tokens of each place; it has 16 slots, of which those past the places are of no meaning and stay as they are. This is M₀
unfoldable pub start_marking : Net → List ℕ
start_marking net = filled (λ p. get_or net.start p 0) (min net.places 16) (replicate 16 0)

-- no place has fewer tokens than t takes
unfoldable pub enough : List ℕ → ℕ → List ℕ → ℕ → Bool
enough take places m t = all_below (λ p. leb (takes_in take t p) (get_or m p 0)) places

-- t ∈ En(M): t is a transition, and no place has fewer tokens than it takes
abbrev pub enabled : Arcs → List ℕ → ℕ → Bool
enabled a m t = ltb t a.transitions && enough a.take a.places m t

-- M − •t
unfoldable pub taken : Arcs → List ℕ → ℕ → List ℕ
taken a m t = filled (λ p. get_or m p 0 - takes a t p) a.places m

-- M − •t + t•
unfoldable pub after : Arcs → List ℕ → ℕ → List ℕ
after a m t = filled (λ p. get_or m p 0 - takes a t p + gives a t p) a.places m

-- ↑enabled(u, M, t): whether the clock of u restarts when t fires at M. A memory policy is such a rule.
abbrev pub Restart : Type 0
Restart = List ℕ → ℕ → ℕ → Bool

-- the marking that a memory word looks at: under the intermediate policy the one after the taking, under the atomic policy and under `carry` the one before
-- the firing
abbrev pub looked_at : Memory → List ℕ → List ℕ → List ℕ
looked_at Intermediate before middle = middle
looked_at Atomic before middle = before
looked_at Carry before middle = before

-- whether the fired transition restarts as such; under `carry` (document 02, Q-1, after the opening of document 000) it keeps its clock like any other
abbrev pub restarts_fired : Memory → Bool
restarts_fired Intermediate = true
restarts_fired Atomic = true
restarts_fired Carry = false

-- the rule of a memory word: u is enabled after the firing, and it was not at the marking looked at, or u is t and t restarts as such
unfoldable pub rule_of : Arcs → Memory → Restart
rule_of a memory m t u = enabled a (after a m t) u && (not (enabled a (looked_at memory m (taken a m t)) u) || (restarts_fired memory && eqb u t))

-- a state (M, I); I is of meaning for enabled transitions only
pub record Timed : Type 0 where
  pub marking : List ℕ
  pub clock : ℕ → ℕ

-- c ≤ Lft, in parts
abbrev pub NotAfter : ℕ → Option ℕ → ℕ → Type 0
NotAfter D None c = Unit {0}
NotAfter D (Some b) c = c ≤ D * b

module _ (net : Net) where
  -- the initial state: M₀, and every clock at 0
  pub record Initial (S : Timed) : Type 0 where
    pub marked : S.marking ≡ start_marking net
    pub zero_clocks : (u : ℕ) → enabled (arcs_of net) S.marking u ≡ true → S.clock u ≡ 0

  -- w parts elapse from S to S'
  pub record Elapses (S : Timed) (w : ℕ) (S' : Timed) : Type 0 where
    pub marked : S'.marking ≡ S.marking
    pub clocks : (u : ℕ) → enabled (arcs_of net) S.marking u ≡ true → S'.clock u ≡ S.clock u + w

  -- the token limit
  abbrev pub Bounded : Timed → Type 0
  Bounded S = (p : ℕ) → p < (arcs_of net).places → get_or S.marking p 0 ≤ 255

  module _ (restarts : Restart) (D : ℕ) where
    -- the firing of t leads from S to S'
    pub record Fires (S : Timed) (t : ℕ) (S' : Timed) : Type 0 where
      pub is_enabled : enabled (arcs_of net) S.marking t ≡ true
      pub marked : S'.marking ≡ after (arcs_of net) S.marking t
      pub not_before : D * (transition_at net t).earliest ≤ S.clock t
      pub not_after : NotAfter D (transition_at net t).latest (S.clock t)
      pub clocks : (u : ℕ) → enabled (arcs_of net) S'.marking u ≡ true → S'.clock u ≡ cond (restarts S.marking t u) 0 (S.clock u)

    -- waits and firings in turn lead from S to S', each firing within the token limit
    pub data Steps : Timed → List Firing → Timed → Type 0 where
      none : {S : Timed} → Steps S [] S
      one : {S S₁ S₂ S' : Timed} {f : Firing} {fs : List Firing}
          → Elapses S f.wait S₁ → Fires S₁ f.fire S₂ → Bounded S₂ → Steps S₂ fs S' → Steps S (f ∷ fs) S'

    -- a run: from the initial state, and at last the rest elapses
    pub record Allowed (fs : List Firing) (rest : ℕ) (end : Timed) : Type 0 where
      pub first : Timed
      pub last : Timed
      pub initial : Initial first
      pub steps : Steps first fs last
      pub rests : Elapses last rest end
