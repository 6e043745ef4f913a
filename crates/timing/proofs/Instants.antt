-- Waits and instants say the same: the waits between ascending instants from 0 sum up to these instants again, and rounded waits to the instants
-- rounded down.
use Prim.Native.Nat.{ℕ, zero, suc, ◌+◌, ◌-◌, ◌/◌, ◌≤◌, ◌<◌, suc-le-suc}
use native.Mathlib.Nat.{le_of_suc-le-suc, not-suc-le-zero, zero-add, zero-div, add_assoc, add-zero, sub_self, sub-zero}
use native.Mathlib.Omega.{arith}
use mathlib.Core.Path.{◌≡◌, refl, ap, ◌∙◌}
use mathlib.Core.List.{List, [], ◌∷◌}
use lib.ListN.{length, get_or}
use Rattle.laws.specs.Division.{div_le}
use Rattle.laws.specs.Tables.{tabled, tabled_at, length_tabled}
use Rattle.timing.specs.Solve.{instant_at}
use Rattle.timing.specs.Windows.{instants}
use Rattle.timing.specs.Schedule.{waits_from, waits_between, rounded_from, rounded_waits}
use Rattle.timing.proofs.Meet.{instants_zero}

-- ---- the waits between instants
length_from : (s : ℕ) (xs : List ℕ) → length (waits_from s xs) ≡ length xs
unfolding waits_from
length_from s [] = refl
length_from s (t ∷ ts) = ap suc (length_from t ts)

pub length_between : (x : List ℕ) (n : ℕ) → length x ≡ suc n → length (waits_between x) ≡ n
unfolding waits_between
length_between [] n e = absurd (omega arith)
length_between (s ∷ xs) n e = omega (arith, length_from s xs)

instants_from : (s : ℕ) (xs : List ℕ) → ((i : ℕ) → i < length xs → instant_at (s ∷ xs) i ≤ instant_at (s ∷ xs) (suc i))
    → (i : ℕ) → i ≤ length xs → s + instants (waits_from s xs) i ≡ instant_at (s ∷ xs) i
unfolding waits_from instants
instants_from s [] up zero l = add-zero s
instants_from s [] up (suc i) l = absurd (not-suc-le-zero l)
instants_from s (t ∷ ts) up zero l = add-zero s
instants_from s (t ∷ ts) up (suc i) l =
    let h : s ≤ t = up 0 (omega arith) in
    omega (arith, instants_from t ts (λ k b. up (suc k) (suc-le-suc b)) i (le_of_suc-le-suc l))

pub instants_list : (x : List ℕ) → instant_at x 0 ≡ 0 → ((i : ℕ) → suc i < length x → instant_at x i ≤ instant_at x (suc i))
    → (i : ℕ) → i < length x → instants (waits_between x) i ≡ instant_at x i
unfolding waits_between
instants_list [] z up i l = absurd (not-suc-le-zero l)
instants_list (s ∷ xs) z up i l = omega (arith, instants_from s xs (λ k b. up k (suc-le-suc b)) i (le_of_suc-le-suc l))

-- each wait lies between an instant and the next
from_entry : (s : ℕ) (xs : List ℕ) (i : ℕ) → i < length xs → get_or (waits_from s xs) i 0 ≡ instant_at (s ∷ xs) (suc i) - instant_at (s ∷ xs) i
unfolding waits_from
from_entry s [] i l = absurd (not-suc-le-zero l)
from_entry s (t ∷ ts) zero l = refl
from_entry s (t ∷ ts) (suc i) l = from_entry t ts i (le_of_suc-le-suc l)

pub between_entry : (x : List ℕ) (i : ℕ) → suc i < length x → get_or (waits_between x) i 0 ≡ instant_at x (suc i) - instant_at x i
unfolding waits_between
between_entry [] i l = absurd (not-suc-le-zero l)
between_entry (s ∷ xs) i l = from_entry s xs i (le_of_suc-le-suc l)

-- of a function that ascends from 0 the waits give the function again, as far as it is listed
pub instants_between : (S : ℕ → ℕ) (n : ℕ) → S 0 ≡ 0 → ((i : ℕ) → i < n → S i ≤ S (suc i))
    → (i : ℕ) → i ≤ n → instants (waits_between (tabled S 0 (suc n))) i ≡ S i
instants_between S n z up i l =
    let x = tabled S 0 (suc n) in
    let size = length_tabled S 0 (suc n) in
    instants_list x z
    (λ k b. let c : suc k < suc n = omega arith in omega (arith, tabled_at S (suc n) k (omega arith), tabled_at S (suc n) (suc k) c, up k (le_of_suc-le-suc c)))
    i (omega arith)
    ∙ tabled_at S (suc n) i (suc-le-suc l)

-- ---- a wait, and the instants behind the last
pub instants_next : (ws : List ℕ) (i : ℕ) → instants ws (suc i) ≡ instants ws i + get_or ws i 0
unfolding instants
instants_next [] i = refl
instants_next (w ∷ ws) zero = omega (arith, instants_zero ws)
instants_next (w ∷ ws) (suc i) = omega (arith, instants_next ws i)

pub wait_le : (ws : List ℕ) (i : ℕ) → get_or ws i 0 ≤ instants ws (suc i)
wait_le ws i = omega (arith, instants_next ws i)

pub instants_past : (ws : List ℕ) (i : ℕ) → length ws ≤ i → instants ws i ≡ instants ws (length ws)
unfolding instants
instants_past [] i l = refl
instants_past (w ∷ ws) zero l = absurd (not-suc-le-zero l)
instants_past (w ∷ ws) (suc i) l = ap (λ (k : ℕ). w + k) (instants_past ws i (le_of_suc-le-suc l))

-- ---- rounding
rounded_length : (D s : ℕ) (ws : List ℕ) → length (rounded_from D s ws) ≡ length ws
unfolding rounded_from
rounded_length D s [] = refl
rounded_length D s (w ∷ ws) = ap suc (rounded_length D (s + w) ws)

pub length_rounded : (D : ℕ) (ws : List ℕ) → length (rounded_waits D ws) ≡ length ws
unfolding rounded_waits
length_rounded D ws = rounded_length D 0 ws

module _ (D : ℕ) (d : 0 < D) where
  nothing_more : (s : ℕ) → 0 ≡ (s + 0) / D - s / D
  nothing_more s = rw (add-zero s, sub_self (s / D)) refl

  rounded_from_lem : (s : ℕ) (ws : List ℕ) (i : ℕ) → instants (rounded_from D s ws) i ≡ (s + instants ws i) / D - s / D
  unfolding rounded_from instants
  rounded_from_lem s [] i = nothing_more s
  rounded_from_lem s (w ∷ ws) zero = nothing_more s
  rounded_from_lem s (w ∷ ws) (suc i) =
      let ih = rounded_from_lem (s + w) ws i in
      let a : s / D ≤ (s + w) / D = div_le D d (omega arith) in
      let b : (s + w) / D ≤ (s + w + instants ws i) / D = div_le D d (omega arith) in
      rw (← add_assoc s w (instants ws i)) (omega arith)

  -- each instant of the rounded waits is the instant rounded down
  pub rounded_instants : (waits : List ℕ) (i : ℕ) → instants (rounded_waits D waits) i ≡ instants waits i / D
  unfolding rounded_waits
  rounded_instants waits i = rounded_from_lem 0 waits i ∙ rw (zero-add (instants waits i), zero-div D, sub-zero (instants waits i / D)) refl
