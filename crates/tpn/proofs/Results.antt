-- A result tells the whole reply: an answer's length is not negative, and below 0 number and place are two digits to the base 65,536, of which a place is
-- one. The replies of an operation with bounds are narrow.
use Rattle.std.specs.Prelude.{Err, Ok}
use Prim.Native.Nat.{ℕ, suc, ◌+◌, ◌-◌, ◌*◌, ◌^◌, ◌≤◌, ◌<◌}
use native.Mathlib.Nat.{lt_trans, lt_of_le_of_lt}
use native.Mathlib.Omega.{arith}
use mathlib.Core.Path.{◌≡◌, refl, sym, ap, ◌∙◌}
use mathlib.Core.Bool.{true}
use mathlib.Core.List.{List, [], ◌∷◌}
use lib.ListN.{get_or}
use lib.Arith.{digits_div, digits_mod}
use lib.Dec.{lit<}
use lib.IntN.{ℤ, pos, negsuc, nat_abs, pos-ne-negsuc, ◌-ℤ◌}
use lib.Signed.{non_neg}
use mir.Syntax.{w64}
use mir.Val.{SFits, to_z, of_z}
use mir.Facts.{to_z-of_z, to_z_pos}
use Rattle.laws.specs.Differences.{difference_less, difference_small}
use Rattle.reply.specs.declared.Refusal.{Refusal}
use Rattle.reply.specs.declared.Refusal.TheVariants.{Malformed, OutOfRange, LatestBelowEarliest, NoSuchTransition, NotEnabled, TooManyTokens, OutsideInterval}
use Rattle.reply.specs.declared.Refusal.TheVariants.{Untimable, OutputTooShort, OtherOrder, AnotherSheet, BadPairs, UnequalStarts, TooLarge, ClosedRun}
use Rattle.reply.specs.Refusal.{number_of, position_of}
use Rattle.reply.specs.Respond.{Outcome, reply_to, Responded, Reply}
use Rattle.reply.proofs.Bounds.{Bounds, written_short, refused_placed}
use Rattle.tpn.specs.Result.{code_of, result_of, number_in, place_in, Narrow, Returned}

-- ---- a refusal
pub number_small : (r : Refusal) → (1 ≤ number_of r) × (number_of r ≤ 20)
number_small (Malformed line) = (omega arith, omega arith)
number_small (OutOfRange line) = (omega arith, omega arith)
number_small (LatestBelowEarliest line) = (omega arith, omega arith)
number_small (NoSuchTransition line) = (omega arith, omega arith)
number_small (NotEnabled firing) = (omega arith, omega arith)
number_small (TooManyTokens firing) = (omega arith, omega arith)
number_small (OutsideInterval firing) = (omega arith, omega arith)
number_small (Untimable firing) = (omega arith, omega arith)
number_small OutputTooShort = (omega arith, omega arith)
number_small OtherOrder = (omega arith, omega arith)
number_small (AnotherSheet line) = (omega arith, omega arith)
number_small BadPairs = (omega arith, omega arith)
number_small UnequalStarts = (omega arith, omega arith)
number_small TooLarge = (omega arith, omega arith)
number_small ClosedRun = (omega arith, omega arith)

pub code_small : (r : Refusal) → position_of r < 65536 → code_of r < 21 * 65536
code_small r h = omega (arith, (number_small r).1)

-- a refusal is below 0
pub refusal_negative : (r : Refusal) → (n : ℕ) × (result_of (Err r) ≡ negsuc n) × (suc n ≡ code_of r)
refusal_negative r =
    let some : 0 < code_of r = omega (arith, (number_small r).0) in
    (code_of r - 1, difference_less 0 (code_of r) some, omega arith)

-- number and place are read back
pub number_read_back : (r : Refusal) → position_of r < 65536 → number_in (result_of (Err r)) ≡ number_of r
number_read_back r h = let (n, e, k) = refusal_negative r in rw (e, k) (digits_div (number_of r) h)

pub place_read_back : (r : Refusal) → position_of r < 65536 → place_in (result_of (Err r)) ≡ position_of r
place_read_back r h = let (n, e, k) = refusal_negative r in rw (e, k) (digits_mod (number_of r) h)

-- number and place tell the refusal
abbrev refusal_at : ℕ → ℕ → Refusal
refusal_at number place =
    get_or
    (OutputTooShort
    ∷ Malformed place
    ∷ OutOfRange place
    ∷ LatestBelowEarliest place
    ∷ NoSuchTransition place
    ∷ NotEnabled place
    ∷ TooManyTokens place
    ∷ OutsideInterval place
    ∷ Untimable place
    ∷ OutputTooShort
    ∷ OtherOrder
    ∷ AnotherSheet place
    ∷ BadPairs
    ∷ UnequalStarts
    ∷ TooLarge
    ∷ ClosedRun
    ∷ []) number OutputTooShort

refusal_back : (r : Refusal) → refusal_at (number_of r) (position_of r) ≡ r
refusal_back (Malformed line) = refl
refusal_back (OutOfRange line) = refl
refusal_back (LatestBelowEarliest line) = refl
refusal_back (NoSuchTransition line) = refl
refusal_back (NotEnabled firing) = refl
refusal_back (TooManyTokens firing) = refl
refusal_back (OutsideInterval firing) = refl
refusal_back (Untimable firing) = refl
refusal_back OutputTooShort = refl
refusal_back OtherOrder = refl
refusal_back (AnotherSheet line) = refl
refusal_back BadPairs = refl
refusal_back UnequalStarts = refl
refusal_back TooLarge = refl
refusal_back ClosedRun = refl

-- ---- an answer
pub answer_not_negative : (n : ℕ) → non_neg (result_of (Ok n)) ≡ true
answer_not_negative n = refl

pub length_read_back : (n : ℕ) → nat_abs (result_of (Ok n)) ≡ n
length_read_back n = refl

pub answer_unrefused : (n : ℕ) → (number_in (result_of (Ok n)) ≡ 0) × (place_in (result_of (Ok n)) ≡ 0)
answer_unrefused n = (refl, refl)

-- ---- a result tells the reply
apart : (n : ℕ) (r : Refusal) → result_of (Ok n) ≡ result_of (Err r) → ⊥
apart n r e = let (m, q, k) = refusal_negative r in pos-ne-negsuc n m (e ∙ q)

pub same_reply : (x y : Reply) → Narrow x → Narrow y → result_of x ≡ result_of y → x ≡ y
same_reply (Ok m) (Ok n) h h' e = ap Ok (ap nat_abs e)
same_reply (Ok m) (Err r) h h' e = absurd (apart m r e)
same_reply (Err q) (Ok n) h h' e = absurd (apart n q (sym e))
same_reply (Err q) (Err r) h h' e =
    let number : number_of q ≡ number_of r = sym (number_read_back q h) ∙ ap number_in e ∙ number_read_back r h' in
    let place : position_of q ≡ position_of r = sym (place_read_back q h) ∙ ap place_in e ∙ place_read_back r h' in
    ap Err (sym (refusal_back q) ∙ rw (number, place) (refusal_back r))

-- ---- a result has 64 bits
negative_fits : (k : ℕ) → k < 2 ^ 63 → SFits w64 (pos 0 -ℤ pos k)
negative_fits k h = record { sfits = difference_small 0 k (2 ^ 63) (lit< tt) h }

result_fits : (x : Reply) → Narrow x → SFits w64 (result_of x)
result_fits (Ok n) h = record { sfits = lt_trans h (lit< tt) }
result_fits (Err r) h = negative_fits (code_of r) (lt_trans (code_small r h) (lit< tt))

-- x is the reply that is told
module _ {x : Reply} (h : Narrow x) where
  module _ {n : ℕ} (e : x ≡ Ok n) where
    pub length_fits : n < 2 ^ 63
    length_fits = lt_trans (rw e at h) (lit< tt)

    pub length_told : to_z w64 n ≡ result_of x
    length_told = to_z_pos w64 length_fits ∙ rw e refl

  module _ {r : Refusal} (e : x ≡ Err r) {number place : ℕ} (m : number ≡ number_of r) (p : place ≡ position_of r) where
    pub code_fits : number * 65536 + place < 2 ^ 63
    code_fits = rw (m, p) (lt_trans (code_small r (rw e at h)) (lit< tt))

    pub refusal_fits : SFits w64 (pos 0 -ℤ to_z w64 (number * 65536 + place))
    refusal_fits = rw (to_z_pos w64 code_fits) (negative_fits (number * 65536 + place) code_fits)

    pub refusal_told : to_z w64 (of_z w64 (pos 0 -ℤ to_z w64 (number * 65536 + place))) ≡ result_of x
    refusal_told = to_z-of_z refusal_fits ∙ rw (to_z_pos w64 code_fits, e, m, p) refl

-- ---- the replies of an operation with bounds
module _ {o : Outcome} {longest last : ℕ} (b : Bounds o longest last) (l : longest < 2 ^ 32) (p : last < 65536) {out exit : List ℕ} {x : Reply}
    (v : Responded o out x exit) where
  pub reply_narrow : Narrow x
  reply_narrow = go x (sym v.reply)
    where
      go : (y : Reply) → reply_to o out ≡ y → Narrow y
      go (Ok n) e = lt_of_le_of_lt (written_short o b out n e) l
      go (Err r) e = lt_of_le_of_lt (refused_placed o b out r e) p

  -- the result of such a reply is the operation's
  pub returned : {z : ℤ} → z ≡ result_of x → Returned o out (to_z w64 (of_z w64 z)) exit
  returned {z} e =
      let fits : SFits w64 z = rw e (result_fits x reply_narrow) in
      record { result = to_z-of_z fits ∙ e ∙ ap result_of v.reply; output = v.output }
