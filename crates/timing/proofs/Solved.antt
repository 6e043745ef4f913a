-- What `solve` and `solve_prefixes` answer: the least instants where there are any, and otherwise rightly that there are none. Two right answers are
-- the same, so whatever program answers rightly answers what these compute.
use Prim.Native.Nat.{ℕ, zero, suc, ◌*◌, ◌≤◌, ◌<◌}
use mathlib.Core.Path.{◌≡◌, refl, sym, ap, ◌∙◌, subst}
use mathlib.Core.List.{List, [], ◌∷◌, ◌++◌}
use mathlib.Core.Option.{Option, none, some}
use mathlib.Core.Logic.{⊎_elim}
use lib.ListN.{replicate, length-replicate, length-append}
use lib.Seq.{ext_get_or}
use native.Mathlib.Nat.{le_refl, le_trans, le_antisymm}
use native.Mathlib.Omega.{arith}
use Rattle.laws.specs.Slots.{get_d_padded}
use Rattle.laws.specs.Sums.{le_or_lt}
use Rattle.timing.specs.Timing.{Win, Wellformed, LowsLe, capped}
use Rattle.timing.specs.Solve.{edges, instant_at, climb, solve, Verdict, met_by, fails_at, verdict_at, next_prefix, solve_prefixes}
use Rattle.timing.specs.Claims.{Possible, LeastInstants, Answers, FirstFail, Judges}
use Rattle.timing.proofs.Feasible.{restrict, feasible_windows}
use Rattle.timing.proofs.Cap.{cap, capped_le}
use Rattle.timing.proofs.Answer.{Right, climb_right}
use Rattle.timing.proofs.Climb.{Best, Start, near_start}
use Rattle.timing.proofs.Edges.{edges_fit, sat_of, meets_of}

module _ (D : ℕ) (W : ℕ → Win) where
  best_least : (n : ℕ) (x : List ℕ) → Best n (edges D W n []) x → LeastInstants D W n x
  best_least n x b =
      record {
        size = b.size;
        feasible = record { starts = b.starts; each = meets_of D W (instant_at x) n b.least.sat };
        least = λ S f. b.least.under S (sat_of D W S n f.each);
      }

  answer_of : (n : ℕ) (a : Option (List ℕ)) → Right n (edges D W n []) a → Answers D W n a
  answer_of n none r = λ S f. r S f.starts (sat_of D W S n f.each)
  answer_of n (some x) r = best_least n x r

  start_zeros : (n : ℕ) → Start n (edges D W n []) (replicate (suc n) 0)
  start_zeros n = record { size = length-replicate (suc n) 0; under = λ S s i. omega (arith, get_d_padded {A = ℕ} [] (suc n) 0 i) }

  -- `solve` answers the least instants, or rightly that there are none
  pub solve_right : (n : ℕ) → Wellformed W n → Answers D W n (solve D W n)
  solve_right n wf =
      let fits = edges_fit D W n wf in
      answer_of n (solve D W n) (climb_right n (edges D W n []) fits n (replicate (suc n) 0) (start_zeros n)
      (near_start n (edges D W n []) (replicate (suc n) 0)))

  pub least_unique : (n : ℕ) (x y : List ℕ) → LeastInstants D W n x → LeastInstants D W n y → x ≡ y
  least_unique n x y p q =
      ext_get_or 0 x y (p.size ∙ sym q.size) (λ i l. le_antisymm (p.least (instant_at y) q.feasible i) (q.least (instant_at x) p.feasible i))

  -- the least instants are small: no instant i is over K·i
  pub least_small : (n : ℕ) → Wellformed W n → (K : ℕ) → LowsLe K D W n → (x : List ℕ) → LeastInstants D W n x → (i : ℕ) → instant_at x i ≤ K * i
  least_small n wf K le x l i =
      le_trans (l.least (capped K (instant_at x)) (cap K (instant_at x) D W n wf le l.feasible) i) (capped_le K (instant_at x) i)

  -- ---- prefix by prefix

  -- as Judges, with what the next prefix needs of the constraints
  Judged : ℕ → Verdict → Type 0
  Judged n (met_by x) = Best n (edges D W n []) x × ((j : ℕ) → j < suc n → (y : List ℕ) × LeastInstants D W j y)
  Judged n (fails_at k) = FirstFail D W n k

  start_pad : (n : ℕ) (x : List ℕ) → Best n (edges D W n []) x → Start (suc n) (edges D W (suc n) []) (x ++ (0 ∷ []))
  start_pad n x b =
      record {
        size = omega (arith, length-append x (0 ∷ []), b.size);
        under = λ S s i. rw (get_d_padded x 1 0 i) (b.least.under S (sat_of D W S n (λ k l. meets_of D W S (suc n) s k (omega arith))) i);
      }

  verdict_right : (n : ℕ) (a : Option (List ℕ)) → Right (suc n) (edges D W (suc n) []) a → ((j : ℕ) → j < suc n → (y : List ℕ) × LeastInstants D W j y)
      → Judged (suc n) (verdict_at (suc n) a)
  unfolding Judged
  verdict_right n none r m = record { reached = le_refl (suc n); fails_at_lem = answer_of (suc n) none r; met = m }
  verdict_right n (some x) r m = (
    r,
    λ j l.
        ⊎_elim
        (λ h. m j h)
        (λ h. let e : suc n ≡ j = omega arith in (x, subst (λ (k : ℕ). LeastInstants D W k x) e (best_least (suc n) x r)))
        (le_or_lt (suc j) (suc n)),
  )

  next_right : (n : ℕ) → Wellformed W (suc n) → (v : Verdict) → Judged n v → Judged (suc n) (next_prefix D W n v)
  unfolding Judged
  next_right n wf (met_by x) p =
      let es = edges D W (suc n) [] in
      let fits = edges_fit D W (suc n) wf in
      let y = x ++ (0 ∷ []) in
      verdict_right n (climb (suc n) es y) (climb_right (suc n) es fits (suc n) y (start_pad n x p.0) (near_start (suc n) es y)) p.1
  next_right n wf (fails_at k) p = record { reached = omega arith; fails_at_lem = p.fails_at_lem; met = p.met }

  prefixes_judged : (n : ℕ) → Wellformed W n → Judged n (solve_prefixes D W n)
  unfolding Judged
  prefixes_judged zero wf =
      let b : Best 0 [] (0 ∷ []) =
      record { size = refl; starts = refl; least = record { sat = tt; under = λ S s i. omega (arith, get_d_padded {A = ℕ} [] 1 0 i) } } in
      (b, λ j l. let e : 0 ≡ j = omega arith in (0 ∷ [], subst (λ (k : ℕ). LeastInstants D W k (0 ∷ [])) e (best_least 0 (0 ∷ []) b)))
  prefixes_judged (suc n) wf = next_right n wf (solve_prefixes D W n) (prefixes_judged n (λ i l. wf i (omega arith)))

  judges : (n : ℕ) (v : Verdict) → Judged n v → Judges D W n v
  unfolding Judged
  judges n (met_by x) p = best_least n x p.0
  judges n (fails_at k) p = p

  -- `solve_prefixes` answers the least instants, or the smallest k whose first k windows cannot be met together
  pub prefixes_right : (n : ℕ) → Wellformed W n → Judges D W n (solve_prefixes D W n)
  prefixes_right n wf = judges n (solve_prefixes D W n) (prefixes_judged n wf)

  first_le : (n k j : ℕ) → FirstFail D W n k → FirstFail D W n j → k ≤ j
  first_le n k j p q = ⊎_elim (λ l. l) (λ l. let (x, t) = p.met j l in absurd (q.fails_at_lem (instant_at x) t.feasible)) (le_or_lt k j)

  pub judge_unique : (n : ℕ) (v u : Verdict) → Judges D W n v → Judges D W n u → v ≡ u
  judge_unique n (met_by x) (met_by y) p q = ap met_by (least_unique n x y p q)
  judge_unique n (met_by x) (fails_at k) p q = absurd (q.fails_at_lem (instant_at x) (restrict k q.reached p.feasible))
  judge_unique n (fails_at k) (met_by y) p q = absurd (p.fails_at_lem (instant_at y) (restrict k p.reached q.feasible))
  judge_unique n (fails_at k) (fails_at j) p q = ap fails_at (le_antisymm (first_le n k j p q) (first_le n j k q p))

-- ---- the same windows

module _ (D : ℕ) {W V' : ℕ → Win} where
  least_windows : {n : ℕ} {x : List ℕ} → ((i : ℕ) → i < n → W i ≡ V' i) → LeastInstants D W n x → LeastInstants D V' n x
  least_windows {n} e p =
      record { size = p.size; feasible = feasible_windows D n e p.feasible; least = λ S f. p.least S (feasible_windows D n (λ i l. sym (e i l)) f) }

  -- a verdict depends on the first n windows only
  pub judges_windows : (n : ℕ) → ((i : ℕ) → i < n → W i ≡ V' i) → (v : Verdict) → Judges D W n v → Judges D V' n v
  judges_windows n e (met_by x) p = least_windows e p
  judges_windows n e (fails_at k) p =
      record {
        reached = p.reached;
        fails_at_lem = λ S f. p.fails_at_lem S (feasible_windows D k (λ i l. sym (e i (le_trans l p.reached))) f);
        met = λ j l. let (x, t) = p.met j l in (x, least_windows (λ i h. e i (omega (arith, p.reached))) t);
      }

-- instants that meet the first n windows, made least
pub possible_least : (W : ℕ → Win) (n : ℕ) → Wellformed W n → Possible 1 W n → (x : List ℕ) × LeastInstants 1 W n x
possible_least W n wf p = go (solve 1 W n) (solve_right 1 W n wf)
  where
    go : (a : Option (List ℕ)) → Answers 1 W n a → (x : List ℕ) × LeastInstants 1 W n x
    go none h = absurd (h p.0 p.1)
    go (some x) h = (x, h)
