-- A transition of an embedded net does in the larger net what it does in its own, and touches nothing else.
use Prim.Native.Nat.{ℕ, suc, ◌+◌, ◌-◌, ◌≤◌, ◌<◌}
use native.Mathlib.Omega.{arith}
use mathlib.Core.Path.{◌≡◌, refl, sym, ◌∙◌}
use mathlib.Core.Bool.{true, and-eq-true_iff}
use mathlib.Core.Logic.{◌↔◌, ◌⊎◌, inl, inr, ⊎_elim}
use mathlib.Core.List.{List}
use lib.ListN.{length, get_or}
use lib.Dec.{leb, ltb}
use borrow.Author.Tests.{leb-true, le-leb, lt-ltb}
use Rattle.laws.specs.Tests.{same_bool, all_at, all_each}
use Rattle.laws.specs.Sums.{le_or_lt}
use Rattle.laws.specs.Arrays.{filled_at}
use Rattle.net.specs.declared.Net.{Net}
use Rattle.firing.specs.Semantics.{arcs_of, transition_at, takes, gives, enough, enabled, taken, after}
use Rattle.firing.specs.Replay.{limited}
use Rattle.firing.proofs.Clocks.{tokens_on, after_at, limited_true}

-- a place is outside those of c, which lie from P on
abbrev pub Outside : Net → ℕ → ℕ → Type 0
Outside c P p = (p < P) ⊎ (P + c.places ≤ p)

-- the places of c lie in j from P on and its transitions from T on, and these touch no other place; j is within the arrays
pub record Embeds (c j : Net) (P T : ℕ) : Type 0 where
  pub few_places : j.places ≤ 16
  pub few_transitions : j.transitions ≤ 32
  pub places : P + c.places ≤ j.places
  pub transitions : T + c.transitions ≤ j.transitions
  pub take : (t p : ℕ) → t < c.transitions → p < c.places → takes (arcs_of j) (T + t) (P + p) ≡ takes (arcs_of c) t p
  pub give : (t p : ℕ) → t < c.transitions → p < c.places → gives (arcs_of j) (T + t) (P + p) ≡ gives (arcs_of c) t p
  pub take_else : (t p : ℕ) → t < c.transitions → p < j.places → Outside c P p → takes (arcs_of j) (T + t) p ≡ 0
  pub give_else : (t p : ℕ) → t < c.transitions → p < j.places → Outside c P p → gives (arcs_of j) (T + t) p ≡ 0
  pub interval : (t : ℕ) → t < c.transitions → transition_at j (T + t) ≡ transition_at c t

-- the tokens of c in a marking m of j are those of m'
abbrev pub SameTokens : Net → ℕ → List ℕ → List ℕ → Type 0
SameTokens c P m m' = (p : ℕ) → p < c.places → get_or m (P + p) 0 ≡ get_or m' p 0

module _ {c j : Net} {P T : ℕ} (em : Embeds c j P T) where
  -- a place of j is outside those of c, or it is one of them
  pub where_is : (p : ℕ) → Outside c P p ⊎ ((k : ℕ) × (k < c.places) × (p ≡ P + k))
  where_is p =
      ⊎_elim
      (λ l. inl (inl l))
      (λ l. ⊎_elim (λ k. inl (inr k)) (λ k. inr (p - P, omega arith, omega arith)) (le_or_lt (P + c.places) p))
      (le_or_lt (suc p) P)

  module _ (t : ℕ) (l : t < c.transitions) where
    -- ---- what it takes and gives at a place outside
    module _ (m : List ℕ) (full : length m ≡ 16) (p : ℕ) (b : p < j.places) where
      taken_at : get_or (taken (arcs_of j) m (T + t)) p 0 ≡ get_or m p 0 - takes (arcs_of j) (T + t) p
      unfolding taken
      taken_at = filled_at (λ q. get_or m q 0 - takes (arcs_of j) (T + t) q) m 0 (arcs_of j).places p (omega arith) (omega arith)

      after_tokens : get_or (after (arcs_of j) m (T + t)) p 0 ≡ tokens_on (arcs_of j) m (T + t) p
      after_tokens = after_at (arcs_of j) m (T + t) p (omega arith) (omega arith)

      pub taken_else : Outside c P p → get_or (taken (arcs_of j) m (T + t)) p 0 ≡ get_or m p 0
      taken_else o = rw (taken_at, em.take_else t p l b o) (omega arith)

      pub after_else : Outside c P p → get_or (after (arcs_of j) m (T + t)) p 0 ≡ get_or m p 0
      after_else o = rw (after_tokens, em.take_else t p l b o, em.give_else t p l b o) (omega arith)

    -- ---- what it does at its own places
    module _ (m m' : List ℕ) (same : SameTokens c P m m') where
      pub enabled_same : enabled (arcs_of j) m (T + t) ≡ enabled (arcs_of c) m' t
      unfolding enough
      enabled_same = same_bool (enabled (arcs_of j) m (T + t)) (enabled (arcs_of c) m' t) to back
        where
          to : enabled (arcs_of j) m (T + t) ≡ true → enabled (arcs_of c) m' t ≡ true
          to e =
              let h = ((and-eq-true_iff (ltb (T + t) (arcs_of j).transitions) _).0 e).1 in
              (and-eq-true_iff (ltb t (arcs_of c).transitions) _).1 (
                lt-ltb t (arcs_of c).transitions (omega arith),
                all_each (λ p. leb (takes (arcs_of c) t p) (get_or m' p 0)) (arcs_of c).places (λ p b.
                    let k : p < c.places = omega arith in
                    let there : takes (arcs_of j) (T + t) (P + p) ≤ get_or m (P + p) 0 =
                    leb-true _ _ (all_at (λ q. leb (takes (arcs_of j) (T + t) q) (get_or m q 0)) (P + p) (arcs_of j).places h (omega arith)) in
                    le-leb (takes (arcs_of c) t p) (get_or m' p 0) (omega (arith, em.take t p l k, same p k))),
              )

          back : enabled (arcs_of c) m' t ≡ true → enabled (arcs_of j) m (T + t) ≡ true
          back e =
              let h = ((and-eq-true_iff (ltb t (arcs_of c).transitions) _).0 e).1 in
              (and-eq-true_iff (ltb (T + t) (arcs_of j).transitions) _).1 (
                lt-ltb (T + t) (arcs_of j).transitions (omega arith),
                all_each (λ p. leb (takes (arcs_of j) (T + t) p) (get_or m p 0)) (arcs_of j).places (λ p b. le-leb (takes (arcs_of j) (T + t) p) (get_or m p 0)
                    (⊎_elim
                    (λ o. omega (arith, em.take_else t p l (omega arith) o))
                    (λ (k : (k : ℕ) × (k < c.places) × (p ≡ P + k)).
                    let there : takes (arcs_of c) t k.0 ≤ get_or m' k.0 0 =
                    leb-true _ _ (all_at (λ q. leb (takes (arcs_of c) t q) (get_or m' q 0)) k.0 (arcs_of c).places h (omega arith)) in
                    rw k.2 (omega (arith, em.take t k.0 l k.1, same k.0 k.1)))
                    (where_is p))),
              )

      module _ (full : length m ≡ 16) (full' : length m' ≡ 16) where
        pub taken_same : SameTokens c P (taken (arcs_of j) m (T + t)) (taken (arcs_of c) m' t)
        unfolding taken
        taken_same p b =
            taken_at m full (P + p) (omega arith)
            ∙ rw (em.take t p l b, same p b) refl
            ∙ sym (filled_at (λ q. get_or m' q 0 - takes (arcs_of c) t q) m' 0 (arcs_of c).places p (omega arith) (omega arith))

        pub after_same : SameTokens c P (after (arcs_of j) m (T + t)) (after (arcs_of c) m' t)
        after_same p b =
            after_tokens m full (P + p) (omega arith)
            ∙ rw (em.take t p l b, em.give t p l b, same p b) refl
            ∙ sym (after_at (arcs_of c) m' t p (omega arith) (omega arith))

        -- if no place has too many before it, none has too many after it
        pub limited_same : ((p : ℕ) → p < (arcs_of j).places → get_or m p 0 ≤ 255) → (limited (arcs_of j) m (T + t) ≡ true) ↔ (limited (arcs_of c) m' t ≡ true)
        limited_same few =
            let whole = limited_true (arcs_of j) m (T + t) (omega arith) in
            let part = limited_true (arcs_of c) m' t (omega arith) in (
              λ e. part.1 (λ p b. let k : p < c.places = omega arith in rw (← after_same p k) (whole.0 e (P + p) (omega arith))),
              λ e. whole.1 (λ p b. ⊎_elim
                  (λ o. rw (after_else m full p (omega arith) o) (few p b))
                  (λ (k : (k : ℕ) × (k < c.places) × (p ≡ P + k)). rw (k.2, after_same k.0 k.1) (part.0 e k.0 (omega arith)))
                  (where_is p)),
            )
