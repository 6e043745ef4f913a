-- The restarts of a firing are found from the places that it gives to. Where nothing is given, the marking after the firing is at most the one that the
-- memory word looks at. So a transition that is enabled after the firing and was not where the word looks was short there at a place that is given to, and
-- the other way round.
use Rattle.std.proofs.Common.{◌≡◌, ℕ, zero, suc, ◌+◌, ◌-◌, ◌<◌, ◌≤◌, Bool, true, false, cond, not, ◌&&◌, ◌||◌, eqb, ltb, leb, List, [], ◌∷◌, length, get_or, set, replicate, sym, refl, ap, ◌∙◌, arith, le-ltb, lt-ltb, eq-eqb, ne_eqb, eqb-true, le-leb, leb-false, leb-true}
use Rattle.std.specs.List.{list_any}
use mathlib.Core.Bool.{beq, or-true, or-false, and-false, and_comm, and-eq-true_iff}
use lib.ListN.{get_or-replicate}
use Rattle.laws.specs.Tests.{all_same, any_below, any_start, any_more}
use Rattle.laws.specs.Arrays.{filled, length_filled, filled_at, filled_same, filled_idle, filled_set, filled_most, filled_least}
use Rattle.run.specs.declared.Memory.{Memory}
use Rattle.run.specs.declared.Memory.TheVariants.{Intermediate, Atomic, Carry}
use Rattle.firing.specs.Semantics.{Arcs, takes, gives, enough, taken, after, looked_at, restarts_fired, rule_of}
use Rattle.firing.specs.Replay.{renewed}
use Rattle.steps.specs.Code.{short_at, short, restarted, renewed_by}
use Rattle.steps.proofs.Places.{has_enough, enough_at}

-- ---- marks: each of the places passed has marked those that it is short of
pub record Marked (a : Arcs) (looked : List ℕ) (t : ℕ) (p : ℕ) (new : List Bool) : Type 0 where
  pub within : p ≤ a.places
  pub long : length new ≡ 32
  pub marks : (u : ℕ) → u < a.transitions → get_or new u false ≡ any_below (short_at a looked t u) p

module _ (a : Arcs) (few : a.transitions ≤ 32) (looked : List ℕ) (t : ℕ) where
  pub marked_start : Marked a looked t 0 (replicate 32 false)
  marked_start =
      record {
        within = omega arith;
        long = refl;
        marks = λ u l. get_or-replicate {A = Bool} 32 u false false (omega arith) ∙ sym (any_start (short_at a looked t u));
      }

  module _ {p : ℕ} {new : List Bool} (s : Marked a looked t p new) (l : p < a.places) where
    -- a flag behind place p
    abbrev joins : ℕ → Bool
    joins u = get_or new u false || ltb (get_or looked p 0) (takes a u p)

    -- a place that is given to
    pub marked_given : {next : List Bool} → (gives a t p ≡ 0 → ⊥) → next ≡ filled joins 32 new → Marked a looked t (p + 1) next
    marked_given {next} n e =
        record {
          within = omega arith;
          long = ap length e ∙ length_filled joins new 32 ∙ s.long;
          marks = λ u b.
              ap (λ (x : List Bool). get_or x u false) e
              ∙ filled_at joins new false 32 u (omega arith) (omega (arith, s.long))
              ∙ rw (s.marks u b, any_more (short_at a looked t u) p, ne_eqb (gives a t p) 0 n) refl;
        }

    -- a place that is not
    pub marked_none : gives a t p ≡ 0 → Marked a looked t (p + 1) new
    marked_none z =
        record {
          within = omega arith;
          long = s.long;
          marks = λ u b.
              s.marks u b
              ∙ rw (any_more (short_at a looked t u) p, eq-eqb (gives a t p) 0 z) (sym (or-false (any_below (short_at a looked t u) p)));
        }

  pub marked_done : {p : ℕ} {new : List Bool} → Marked a looked t p new → a.places ≤ p
      → (u : ℕ) → u < a.transitions → get_or new u false ≡ short a looked t u
  unfolding short
  marked_done {p} s l u b = let e : p ≡ a.places = omega (arith, s.within) in rw e at (s.marks u b)

-- ---- the marked and t
-- where none is marked, no slot is
none_true : (marks : List Bool) → list_any (λ b. beq b true) marks ≡ false → (k : ℕ) → get_or marks k false ≡ false
none_true [] e k = refl
none_true (true ∷ l) e k = cc
none_true (false ∷ l) e zero = refl
none_true (false ∷ l) e (suc k) = none_true l e k

module _ (a : Arcs) (later : List ℕ) (instant : ℕ) (since : List ℕ) where
  -- where none is marked, none restarts
  pub restarted_none : (marks : List Bool) → list_any (λ b. beq b true) marks ≡ false → since ≡ restarted a later marks instant since
  unfolding restarted
  restarted_none marks e =
      sym (filled_idle (λ u. cond (get_or marks u false && enough a.take a.places later u) instant (get_or since u 0)) since 0 a.transitions
      (λ k b. rw (none_true marks e k) refl))

  module _ (again : Bool) (looked : List ℕ) (t : ℕ) (inside : t < a.transitions) (marks : List Bool)
      (told : (u : ℕ) → u < a.transitions → get_or marks u false ≡ short a looked t u) {next : List ℕ} (e : next ≡ restarted a later marks instant since) where
    -- the instant of a transition when the marked have restarted, and what is wanted
    abbrev by_marks : ℕ → ℕ
    by_marks u = cond (get_or marks u false && enough a.take a.places later u) instant (get_or since u 0)

    abbrev wanted : ℕ → ℕ
    wanted u = cond (enough a.take a.places later u && (short a looked t u || (again && eqb u t))) instant (get_or since u 0)

    -- they agree at every transition that is not t, and at t if it does not restart as such
    other : (u : ℕ) → u < a.transitions → (again && eqb u t) ≡ false → by_marks u ≡ wanted u
    other u l n =
        rw (told u l, n, or-false (short a looked t u))
        (ap (λ (b : Bool). cond b instant (get_or since u 0)) (and_comm (short a looked t u) (enough a.take a.places later u)))

    -- t restarts as such, and it is enabled after the firing
    pub renewed_set : (again && enough a.take a.places later t) ≡ true → set next t instant ≡ renewed_by a again looked later t instant since
    unfolding restarted renewed_by
    renewed_set h =
        let both = (and-eq-true_iff again (enough a.take a.places later t)).0 h in
        let w : instant ≡ wanted t = rw (both.0, both.1, eq-eqb t t refl, or-true (short a looked t t)) refl in
        rw e
        (ap (set (filled by_marks a.transitions since) t) w
        ∙ filled_set by_marks wanted since 0 a.transitions t inside (λ u l n. other u l (rw (ne_eqb u t n) (and-false again))))

    -- it does not, or it is not
    pub renewed_kept : (again && enough a.take a.places later t) ≡ false → next ≡ renewed_by a again looked later t instant since
    unfolding restarted renewed_by
    renewed_kept h = e ∙ filled_same by_marks wanted since a.transitions (λ u l. go u l (again && eqb u t) refl)
      where
        go : (u : ℕ) → u < a.transitions → (b : Bool) → (again && eqb u t) ≡ b → by_marks u ≡ wanted u
        go u l true q =
            let both = (and-eq-true_iff again (eqb u t)).0 q in
            let z = eqb-true u t both.1 in
            let off : enough a.take a.places later t ≡ false = rw both.0 at h in
            rw (z, off, and-false (get_or marks t false)) refl
        go u l false q = other u l q

    -- so in either case
    pub renewed_by_lem : (b : Bool) → (again && enough a.take a.places later t) ≡ b
        → cond b (set next t instant) next ≡ renewed_by a again looked later t instant since
    renewed_by_lem true h = renewed_set h
    renewed_by_lem false h = renewed_kept h

-- ---- the marks are the restarts
-- what is not below is at least as large
not_lt : (a b : ℕ) → not (ltb a b) ≡ leb b a
not_lt a b = go (leb b a) refl
  where
    go : (t : Bool) → leb b a ≡ t → not (ltb a b) ≡ t
    go true e = rw (le-ltb a b (leb-true b a e)) refl
    go false e = rw (lt-ltb a b (leb-false b a e)) refl

module _ (a : Arcs) (t : ℕ) where
  -- where later is at most looked but for what is given
  short_same : (looked later : List ℕ) (u : ℕ) → ((p : ℕ) → p < a.places → get_or later p 0 ≤ get_or looked p 0 + gives a t p)
      → enough a.take a.places later u ≡ true → short a looked t u ≡ not (enough a.take a.places looked u)
  unfolding short enough
  short_same looked later u h e =
      ap not (all_same (λ p. not (short_at a looked t u p)) (has_enough a.take looked u) a.places (λ p b. go p b (eqb (gives a t p) 0) refl))
    where
      go : (p : ℕ) → p < a.places → (z : Bool) → eqb (gives a t p) 0 ≡ z
          → not (not z && ltb (get_or looked p 0) (takes a u p)) ≡ leb (takes a u p) (get_or looked p 0)
      go p b true z =
          let none = eqb-true (gives a t p) 0 z in
          sym (le-leb (takes a u p) (get_or looked p 0) (omega (arith, h p b, enough_at a.take a.places later u p e b)))
      go p b false z = not_lt (get_or looked p 0) (takes a u p)

module _ (a : Arcs) (memory : Memory) (m : List ℕ) (t : ℕ) where
  -- where the word looks, and whether a transition has enough after the firing
  abbrev looked : List ℕ
  looked = looked_at memory m (taken a m t)

  abbrev stands : ℕ → Bool
  stands u = enough a.take a.places (after a m t) u

  -- whether u restarts as the fired transition
  abbrev again : ℕ → Bool
  again u = restarts_fired memory && eqb u t

  left_below : (w : Memory) (p : ℕ) → p < a.places → get_or m p 0 - takes a t p ≤ get_or (looked_at w m (taken a m t)) p 0
  unfolding taken
  left_below Intermediate p l = filled_least (λ k. get_or m k 0 - takes a t k) m a.places p l (omega arith)
  left_below Atomic p l = omega arith
  left_below Carry p l = omega arith

  after_below : (p : ℕ) → p < a.places → get_or (after a m t) p 0 ≤ get_or looked p 0 + gives a t p
  unfolding after
  after_below p l = omega (arith, filled_most (λ k. get_or m k 0 - takes a t k + gives a t k) m a.places p l, left_below memory p l)

  restart_is : (u : ℕ) → u < a.transitions → (stands u && (short a looked t u || again u)) ≡ rule_of a memory m t u
  unfolding rule_of
  restart_is u l = rw (lt-ltb u a.transitions l) (go (stands u) refl)
    where
      go : (b : Bool) → stands u ≡ b
          → (b && (short a looked t u || again u)) ≡ (b && (not (enough a.take a.places looked u) || again u))
      go false e = refl
      go true e = rw (short_same a t looked (after a m t) u after_below e) refl

  -- so the code's restarts are those of the word's rule
  pub renewed_is : (since : List ℕ) (instant : ℕ)
      → renewed_by a (restarts_fired memory) looked (after a m t) t instant since ≡ renewed a (rule_of a memory) m since t instant
  unfolding renewed_by renewed
  renewed_is since instant =
      filled_same (λ u. cond (stands u && (short a looked t u || again u)) instant (get_or since u 0))
      (λ u. cond (rule_of a memory m t u) instant (get_or since u 0)) since a.transitions
      (λ u l. ap (λ (b : Bool). cond b instant (get_or since u 0)) (restart_is u l))
