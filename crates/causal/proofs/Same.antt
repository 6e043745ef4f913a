-- Document 01, "The caller": slots past a value's counts are no part of it. Nets that agree in all that counts have the same process of an order that
-- the tokens allow.
use Rattle.reply.specs.Respond.{Passed}
use Prim.Native.Nat.{ℕ, ◌<◌}
use native.Mathlib.Omega.{arith}
use mathlib.Core.Path.{◌≡◌, refl}
use mathlib.Core.List.{List, [], ◌∷◌}
use Rattle.laws.specs.Each.{Each}
use Rattle.net.specs.declared.Net.{Net}
use Rattle.net.specs.Same.{SameNet}
use Rattle.firing.specs.Semantics.{arcs_of, start_marking}
use Rattle.firing.specs.Tokens.{tokens}
use Rattle.firing.proofs.Same.{same_takes, same_gives}
use Rattle.timing.proofs.Order.{tokens_listed}
use Rattle.causal.specs.Process.{Queues, start_queues, taken_by, queues_after, items_of, events_from, queues_behind, events, left}
use Rattle.causal.specs.Print.{process_text}
use Rattle.causal.proofs.Events.{Agree, items_same}

module _ {a b : Net} (same : SameNet a b) where
  -- a firing takes the same tokens of the places, and leaves the same
  taken_by_lem : (t : ℕ) → t < (arcs_of a).transitions → (f g : Queues) → Agree (arcs_of b).places f g → Agree (arcs_of b).places (taken_by a f t) (taken_by b g t)
  taken_by_lem t l f g h p c = rw (same_takes same t l p c, h p c) refl

  queues_after_lem : (t : ℕ) → t < (arcs_of a).transitions → (f g : Queues) → Agree (arcs_of b).places f g
      → Agree (arcs_of b).places (queues_after a f t) (queues_after b g t)
  queues_after_lem t l f g h p c = rw (same_takes same t l p c, same_gives same t l p c, h p c) refl

  items_of_lem : (f g : Queues) → Agree (arcs_of b).places f g → items_of f (arcs_of a).places ≡ items_of g (arcs_of b).places
  items_of_lem f g h = rw same.places (items_same f g (arcs_of b).places h)

  events_from_lem : (order : List ℕ) (f g : Queues) → Each (λ t. t < (arcs_of a).transitions) order → Agree (arcs_of b).places f g
      → events_from a order f ≡ events_from b order g
  unfolding events_from
  events_from_lem [] f g h s = refl
  events_from_lem (t ∷ order) f g h s =
      let now = items_of_lem (taken_by a f t) (taken_by b g t) (taken_by_lem t h.0 f g s) in
      let later = events_from_lem order (queues_after a f t) (queues_after b g t) h.1 (queues_after_lem t h.0 f g s) in
      λ i. record { fire = t; from = now i } ∷ later i

  queues_behind_lem : (order : List ℕ) (f g : Queues) → Each (λ t. t < (arcs_of a).transitions) order → Agree (arcs_of b).places f g
      → Agree (arcs_of b).places (queues_behind a order f) (queues_behind b order g)
  unfolding queues_behind
  queues_behind_lem [] f g h s = s
  queues_behind_lem (t ∷ order) f g h s = queues_behind_lem order (queues_after a f t) (queues_after b g t) h.1 (queues_after_lem t h.0 f g s)

  start_queues_lem : Agree (arcs_of b).places (start_queues a) (start_queues b)
  start_queues_lem p c = rw (same.start p (omega arith)) refl

  module _ (order : List ℕ) (allowed : tokens a order (start_marking a) 0 ≡ Passed) where
    pub same_events : events a order ≡ events b order
    unfolding events
    same_events = events_from_lem order (start_queues a) (start_queues b) (tokens_listed a order (start_marking a) 0 allowed) start_queues_lem

    pub same_left : left a order ≡ left b order
    unfolding left
    same_left =
        items_of_lem (queues_behind a order (start_queues a)) (queues_behind b order (start_queues b))
        (queues_behind_lem order (start_queues a) (start_queues b) (tokens_listed a order (start_marking a) 0 allowed) start_queues_lem)

    pub same_process : process_text a order ≡ process_text b order
    unfolding process_text
    same_process = rw (same_events, same_left) refl
