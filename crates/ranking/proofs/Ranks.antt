-- Document 02, "Ranking two answers": the lead of a run over another is that at the first instant at which the two differ, and its sign says which stands
-- before; of any two runs one stands before, or the two are level; and runs in parts of a tick are so ordered.
use Prim.Native.Nat.{ℕ, zero, suc, ◌+◌, ◌-◌, ◌*◌, ◌≤◌, ◌<◌, suc-le-suc}
use native.Mathlib.Nat.{zero-add, le_refl, le_trans, le_antisymm, lt_of_not-le, le_of_suc-le-suc, not-suc-le-zero, eq-or-lt_of_le}
use native.Mathlib.Nat.{mul-le-mul_right, mul_right_comm, le_of_mul-le-mul_right}
use native.Mathlib.Omega.{arith}
use native.Mathlib.Decide.{dec_le, dec_lt}
use mathlib.Core.Path.{◌≡◌, refl, sym, ap, subst, subst⁻¹, ◌∙◌}
use mathlib.Core.Logic.{◌↔◌, ◌⊎◌, inl, inr, ⊎_elim}
use mathlib.Core.List.{List}
use lib.ListN.{length}
use lib.IntN.{ℤ, pos, negsuc, neg_ℤ, pos-ne-negsuc}
use borrow.Author.Tests.{lt-ltb, le-ltb}
use Rattle.laws.specs.Differences.{same_exactly, less_exactly, more_exactly, difference_negated}
use Rattle.run.specs.declared.Run.{Run}
use Rattle.run.specs.Run.{firings_of, order_of}
use Rattle.timing.specs.Rounding.{end_instant}
use Rattle.timing.proofs.Meet.{length_order}
use Rattle.operations.specs.Claims.{instants_of}
use Rattle.ranking.specs.Lead.{instant_of, lead_at, unless_level, lead_from, lead_of, sign_of}
use Rattle.ranking.specs.Claims.{OfOneOrder, SameInstant, EarlierInstant, Before, Level}
use Rattle.ranking.proofs.Leads.{sign_negated}

-- a run has as many firings as its order, and so have runs of one order
pub order_length : (r : Run) (order : List ℕ) → order_of (firings_of r) ≡ order → length (firings_of r) ≡ length order
order_length r order e = sym (length_order (firings_of r)) ∙ ap length e

pub one_length : (x y : Run) → OfOneOrder x y → length (firings_of x) ≡ length (firings_of y)
one_length x y h = order_length x (order_of (firings_of y)) h.1 ∙ length_order (firings_of y)

-- ---- the instants of a run: those of its firings, then the end
module _ (r : Run) where
  pub firing_instant : (i : ℕ) → i < length (firings_of r) → instant_of r i ≡ instants_of r (suc i)
  unfolding instant_of
  firing_instant i l = rw (lt-ltb i (length (firings_of r)) l) refl

  pub end_instant_lem : instant_of r (length (firings_of r)) ≡ end_instant r
  unfolding instant_of
  end_instant_lem = rw (le-ltb (length (firings_of r)) (length (firings_of r)) (omega arith)) refl

-- ---- the first lead that is not 0
-- a lead that is not 0 is it; the last lead is it, whatever it is; and negated leads have it negated
unless_here : (z later : ℤ) → (z ≡ pos 0 → ⊥) → unless_level z later ≡ z
unless_here (pos zero) later h = absurd (h refl)
unless_here (pos (suc n)) later h = refl
unless_here (negsuc n) later h = refl

unless_last : (z : ℤ) → unless_level z (pos 0) ≡ z
unless_last (pos zero) = refl
unless_last (pos (suc n)) = refl
unless_last (negsuc n) = refl

unless_negated : (z later : ℤ) → unless_level (neg_ℤ z) (neg_ℤ later) ≡ neg_ℤ (unless_level z later)
unless_negated (pos zero) later = refl
unless_negated (pos (suc n)) later = refl
unless_negated (negsuc n) later = refl

-- all is equal before instant k
abbrev SameBelow : Run → Run → ℕ → Type 0
SameBelow x y k = (i : ℕ) → i < k → SameInstant x y i

module _ (x y : Run) where
  -- the lead at an instant is 0 exactly if the instants are one
  at_same : (i : ℕ) → (lead_at x y i ≡ pos 0) ↔ SameInstant x y i
  unfolding lead_at
  at_same i = same_exactly (instant_of x i * y.denominator) (instant_of y i * x.denominator)

  -- the other way round each lead is negated, and so is the first that is not 0
  at_negated : (i : ℕ) → lead_at y x i ≡ neg_ℤ (lead_at x y i)
  unfolding lead_at
  at_negated i = sym (difference_negated (instant_of x i * y.denominator) (instant_of y i * x.denominator))

  from_negated : (i n : ℕ) → lead_from y x i n ≡ neg_ℤ (lead_from x y i n)
  unfolding lead_from
  from_negated i zero = refl
  from_negated i (suc n) = rw (at_negated i, from_negated (suc i) n) (unless_negated (lead_at x y i) (lead_from x y (suc i) n))

  -- one turn of a search for it: the next, if the instants are one; this, if they are not; and this, if it is the last
  module _ (i n : ℕ) where
    pub lead_next : SameInstant x y i → lead_from x y i (suc n) ≡ lead_from x y (suc i) n
    unfolding lead_from
    lead_next s = rw ((at_same i).1 s) refl

    pub lead_here : (SameInstant x y i → ⊥) → lead_from x y i (suc n) ≡ lead_at x y i
    unfolding lead_from
    lead_here h = unless_here (lead_at x y i) (lead_from x y (suc i) n) (λ e. h ((at_same i).0 e))

  pub lead_last : (i : ℕ) → lead_from x y i 1 ≡ lead_at x y i
  unfolding lead_from
  lead_last i = unless_last (lead_at x y i)

  -- equal instants are passed over; the first that differs decides, and without one the lead is 0
  lead_passed : (k n : ℕ) → SameBelow x y k → lead_from x y 0 (k + n) ≡ lead_from x y k n
  lead_passed zero n same = ap (lead_from x y 0) (zero-add n)
  lead_passed (suc k) n same =
      let e : suc k + n ≡ k + suc n = omega arith in
      ap (lead_from x y 0) e ∙ lead_passed k (suc n) (λ i l. same i (omega arith)) ∙ lead_next k n (same k (omega arith))

  lead_first : (at : ℕ) → at ≤ length (firings_of x) → SameBelow x y at → (SameInstant x y at → ⊥) → lead_of x y ≡ lead_at x y at
  unfolding lead_of
  lead_first at within same other =
      let rest = length (firings_of x) - at in
      let e : suc (length (firings_of x)) ≡ at + suc rest = omega arith in
      ap (lead_from x y 0) e ∙ lead_passed at (suc rest) same ∙ lead_here at rest other

  lead_none : Level x y → lead_of x y ≡ pos 0
  unfolding lead_of lead_from
  lead_none level =
      let n = suc (length (firings_of x)) in
      let e : n ≡ n + 0 = omega arith in
      ap (lead_from x y 0) e ∙ lead_passed n 0 (λ i l. level i (omega arith))

  -- ---- two runs with as many firings
  module _ (n : length (firings_of x) ≡ length (firings_of y)) where
    -- the lead is that at the deciding instant
    pub lead_deciding : (b : Before x y) → lead_of x y ≡ lead_at x y b.at
    lead_deciding b = lead_first b.at b.within b.same (λ e. omega (arith, b.earlier))

    pub lead_deciding_after : (b : Before y x) → lead_of x y ≡ lead_at x y b.at
    lead_deciding_after b = lead_first b.at (omega (arith, b.within)) (λ k l. sym (b.same k l)) (λ e. omega (arith, b.earlier))

    -- one stands before the other, or they are level: as far as one looks, all is equal or an instant decides
    settled : (k : ℕ) → k ≤ length (firings_of x) → SameBelow x y k → SameBelow x y (suc k) ⊎ (Before x y ⊎ Before y x)
    settled k l same =
        let a = instant_of x k * y.denominator in
        let b = instant_of y k * x.denominator in
        go (dec_lt a b) (dec_lt b a)
      where
        go : Dec (EarlierInstant x y k) → Dec (EarlierInstant y x k) → SameBelow x y (suc k) ⊎ (Before x y ⊎ Before y x)
        go (yes p) q = inr (inl (record { at = k; within = l; same = same; earlier = p }))
        go (no p) (yes q) = inr (inr (record { at = k; within = omega arith; same = λ i b. sym (same i b); earlier = q }))
        go (no p) (no q) = inl (λ i b. ⊎_elim (λ e. rw e (omega arith)) (same i) (eq-or-lt_of_le (le_of_suc-le-suc b)))

    searched : (k : ℕ) → k ≤ suc (length (firings_of x)) → SameBelow x y k ⊎ (Before x y ⊎ Before y x)
    searched zero l = inl (λ i b. absurd (not-suc-le-zero b))
    searched (suc k) l = ⊎_elim (settled k (le_of_suc-le-suc l)) (λ b. inr b) (searched k (omega arith))

    pub total : Before x y ⊎ Level x y ⊎ Before y x
    total =
        let size = suc (length (firings_of x)) in
        ⊎_elim (λ same. inr (inl (λ i l. same i (suc-le-suc l)))) (⊎_elim (λ b. inl b) (λ b. inr (inr b))) (searched size (le_refl size))

    -- the sign says which
    sign_before : Before x y → sign_of (lead_of x y) ≡ negsuc 0
    unfolding lead_at
    sign_before b = ap sign_of (lead_deciding b ∙ ((less_exactly _ _).1 b.earlier).1)

    sign_after : Before y x → sign_of (lead_of x y) ≡ pos 1
    unfolding lead_at
    sign_after b = ap sign_of (lead_deciding_after b ∙ ((more_exactly _ _).1 b.earlier).1)

    -- what a sign says of the two runs
    abbrev Says : ℤ → Type 0
    Says (pos zero) = Level x y
    Says (pos (suc k)) = Before y x
    Says (negsuc k) = Before x y

    says : Says (sign_of (lead_of x y))
    says =
        ⊎_elim (λ b. subst⁻¹ Says (sign_before b) b)
        (⊎_elim (λ level. subst⁻¹ Says (ap sign_of (lead_none level)) level) (λ b. subst⁻¹ Says (sign_after b) b)) total

    pub rank_exactly : (sign_of (lead_of x y) ≡ negsuc 0 ↔ Before x y) × (sign_of (lead_of x y) ≡ pos 0 ↔ Level x y) × (sign_of (lead_of x y) ≡ pos 1 ↔ Before y x)
    rank_exactly = (
      (λ e. subst Says e says, sign_before),
      (λ e. subst Says e says, λ level. ap sign_of (lead_none level)),
      (λ e. subst Says e says, sign_after),
    )

    -- the lead is 0 only for level runs
    pub lead_level : (lead_of x y ≡ pos 0) ↔ Level x y
    lead_level = (λ e. rank_exactly.1.0 (ap sign_of e), lead_none)

    -- and only one of the three is so
    pub before_not_after : Before x y → Before y x → ⊥
    before_not_after b c = pos-ne-negsuc 1 0 (sym (sign_after c) ∙ sign_before b)

    pub before_not_level : Before x y → Level x y → ⊥
    before_not_level b level = pos-ne-negsuc 0 0 (sym (ap sign_of (lead_none level)) ∙ sign_before b)

    -- the other way round the lead is the negated
    pub lead_antisymmetric : lead_of y x ≡ neg_ℤ (lead_of x y)
    unfolding lead_of
    lead_antisymmetric = rw n (from_negated 0 (suc (length (firings_of y))))

    pub rank_antisymmetric : sign_of (lead_of y x) ≡ neg_ℤ (sign_of (lead_of x y))
    rank_antisymmetric = ap sign_of lead_antisymmetric ∙ sign_negated (lead_of x y)

-- ---- three runs
-- instant i of X is not later than that of Y
abbrev NotLater : Run → Run → ℕ → Type 0
NotLater x y i = instant_of x i * y.denominator ≤ instant_of y i * x.denominator

-- a run that stands before another is not later up to the deciding instant
before_until : {x y : Run} (b : Before x y) (i : ℕ) → i ≤ b.at → NotLater x y i
before_until b i l = ⊎_elim (λ e. rw e (omega (arith, b.earlier))) (λ h. omega (arith, b.same i h)) (eq-or-lt_of_le l)

-- parts of three denominators: a of D, b of E, c of F
ordered : (a b c D E F : ℕ) → 0 < E → a * E ≤ b * D → b * F ≤ c * E → a * F ≤ c * D
ordered a b c D E F e p q =
    let low : a * F * E ≤ b * D * F = rw mul_right_comm (mul-le-mul_right F p) in
    let high : b * D * F ≤ c * D * E = rw (mul_right_comm b D F, mul_right_comm c D E) (mul-le-mul_right D q) in
    le_of_mul-le-mul_right (le_trans low high) e

-- instants in parts of ticks: not later, and one, carry over; an earlier one stays earlier
module _ (x y z : Run) (i : ℕ) where
  not_later : 0 < y.denominator → NotLater x y i → NotLater y z i → NotLater x z i
  not_later = ordered (instant_of x i) (instant_of y i) (instant_of z i) x.denominator y.denominator z.denominator

module _ (x y z : Run) (m : length (firings_of x) ≡ length (firings_of y)) (n : length (firings_of y) ≡ length (firings_of z))
    (d : 0 < x.denominator) (e : 0 < y.denominator) (f : 0 < z.denominator) where
  same_same : (i : ℕ) → SameInstant x y i → SameInstant y z i → SameInstant x z i
  same_same i p q = le_antisymm (not_later x y z i e (omega arith) (omega arith)) (not_later z y x i e (omega arith) (omega arith))

  -- an instant that is earlier, then not later; and not later, then earlier
  earlier_first : (i : ℕ) → EarlierInstant x y i → NotLater y z i → EarlierInstant x z i
  earlier_first i p q = lt_of_not-le (λ h. omega (arith, not_later y z x i f q h))

  earlier_second : (i : ℕ) → NotLater x y i → EarlierInstant y z i → EarlierInstant x z i
  earlier_second i p q = lt_of_not-le (λ h. omega (arith, not_later z x y i d h p))

  -- X before Y decides, if Y and Z agree so far; or Y before Z, if X and Y do
  first_decides : (b : Before x y) → SameBelow y z b.at → NotLater y z b.at → Before x z
  first_decides b same l =
      record { at = b.at; within = b.within; same = λ k h. same_same k (b.same k h) (same k h); earlier = earlier_first b.at b.earlier l }

  second_decides : (b : Before y z) → SameBelow x y b.at → NotLater x y b.at → Before x z
  second_decides b same l =
      record {
        at = b.at;
        within = omega (arith, b.within);
        same = λ k h. same_same k (same k h) (b.same k h);
        earlier = earlier_second b.at l b.earlier;
      }

  -- the order carries over
  pub before_before : Before x y → Before y z → Before x z
  before_before b c = go (dec_le b.at c.at)
    where
      go : Dec (b.at ≤ c.at) → Before x z
      go (yes l) = first_decides b (λ k h. c.same k (omega arith)) (before_until c b.at l)
      go (no l) = second_decides c (λ k h. b.same k (omega arith)) (before_until b c.at (omega arith))

  pub before_level : Before x y → Level y z → Before x z
  before_level b level = first_decides b (λ k h. level k (omega (arith, b.within))) (omega (arith, level b.at (omega (arith, b.within))))

  pub level_before : Level x y → Before y z → Before x z
  level_before level b = second_decides b (λ k h. level k (omega (arith, b.within))) (omega (arith, level b.at (omega (arith, b.within))))

  pub level_level : Level x y → Level y z → Level x z
  level_level p q i l = same_same i (p i l) (q i (omega arith))

module _ (x y z : Run) (m : length (firings_of x) ≡ length (firings_of y)) (n : length (firings_of y) ≡ length (firings_of z))
    (d : 0 < x.denominator) (e : 0 < y.denominator) (f : 0 < z.denominator) where
  -- "not after" carries over
  pub not_after_transitive : (Before y x → ⊥) → (Before z y → ⊥) → Before z x → ⊥
  not_after_transitive p q b =
      let k = sym (m ∙ n) in
      ⊎_elim (λ c. q (before_before z x y k m f d e b c)) (⊎_elim (λ level. q (before_level z x y k m f d e b level)) p) (total x y m)
