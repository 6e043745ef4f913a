-- Each place is given its weight, place after place: its queue is longer by one producer.
use Prim.Native.Nat.{ℕ, ◌+◌, ◌≤◌, ◌<◌}
use native.Mathlib.Nat.{not-suc-le-zero, eq-or-lt_of_le, le_of_suc-le-suc, le_refl}
use native.Mathlib.Numerals.{add-one}
use native.Mathlib.Omega.{arith}
use mathlib.Core.Path.{◌≡◌, refl, ap, ◌∙◌}
use mathlib.Core.Logic.{⊎_elim}
use mathlib.Core.List.{List, [], ◌∷◌, ◌++◌}
use lib.ListN.{length, get_or, set, length-set}
use lib.Seq.{get_or-set_same, get_or-set_other}
use Rattle.engine.specs.Counts.{queue_of, Gave}

module _ (queues₀ : List (List ℕ)) (weights : List ℕ) where
  -- the state of a loop that has given the weights of the first p places
  pub record Giving (queues : List (List ℕ)) (p : ℕ) : Type 0 where
    pub size : length queues ≡ length queues₀
    pub given : (q : ℕ) → q < p → queue_of queues q ≡ queue_of queues₀ q ++ (get_or weights q 0 ∷ [])
    pub small : (q : ℕ) → q < p → get_or weights q 0 ≤ 255
    pub ahead : (q : ℕ) → p ≤ q → queue_of queues q ≡ queue_of queues₀ q

  pub giving_start : Giving queues₀ 0
  giving_start =
      record { size = refl; given = λ q l. absurd (not-suc-le-zero l); small = λ q l. absurd (not-suc-le-zero l); ahead = λ q l. refl }

  module _ {queues : List (List ℕ)} {p : ℕ} (s : Giving queues p) where
    pub giving_more : p < length queues → get_or weights p 0 ≤ 255 → {after : List ℕ} → after ≡ queue_of queues p ++ (get_or weights p 0 ∷ [])
        → Giving (set queues p after) (p + 1)
    giving_more l byte {after} e =
        record {
          size = length-set queues p after ∙ s.size;
          given = λ q b.
              ⊎_elim
              (λ (h : q ≡ p).
              rw h (get_or-set_same queues p after [] l ∙ e ∙ ap (λ (x : List ℕ). x ++ (get_or weights p 0 ∷ [])) (s.ahead p (le_refl p))))
              (λ (h : q < p). get_or-set_other queues p q after [] (λ z. omega arith) ∙ s.given q h)
              (eq-or-lt_of_le (le_of_suc-le-suc (rw add-one at b)));
          small = λ q b. ⊎_elim (λ (h : q ≡ p). rw h byte) (λ (h : q < p). s.small q h) (eq-or-lt_of_le (le_of_suc-le-suc (rw add-one at b)));
          ahead = λ q b. get_or-set_other queues p q after [] (λ z. omega arith) ∙ s.ahead q (omega arith);
        }

    pub giving_done : length queues ≤ p → Gave queues₀ weights queues
    giving_done l =
        record {
          size = s.size;
          longer = λ q b. s.given q (omega (arith, s.size));
          small = λ q b. s.small q (omega (arith, s.size));
        }
