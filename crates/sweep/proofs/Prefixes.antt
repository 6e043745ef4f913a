-- One window more: the new firing is put where order and its lower bound ask, which nothing that meets the windows is below; if its upper bound allows that,
-- all windows are met. The windows taken one after the other give the least instants, or the first window that cannot be met with those before it.
use Prim.Native.Nat.{ℕ, suc, ◌+◌, ◌*◌, ◌-◌, ◌≤◌, ◌<◌, ◌^◌, max}
use mathlib.Core.Path.{◌≡◌, refl, sym, ap, ◌∙◌, subst, subst⁻¹}
use mathlib.Core.List.{List, []}
use mathlib.Core.Logic.{⊎_elim}
use lib.ListN.{length, get_or, set, take, replicate, length-set, length-append, length-replicate, get_or-eq_default}
use lib.Seq.{get_or-set_same, get_or-set_other, length-take-le, get_or-take, ext_get_or}
use native.Mathlib.Nat.{le_refl, le_trans, mul-le-mul_left}
use native.Mathlib.Numerals.{add-one}
use native.Mathlib.Omega.{arith}
use Rattle.std.proofs.Common.{below_more}
use Rattle.laws.specs.Slots.{pad_to, get_d_padded}
use Rattle.laws.specs.Sums.{le_or_lt}
use Rattle.timing.specs.Timing.{Win, Meets, Wellformed, capped, Under}
use Rattle.timing.specs.Solve.{instant_at, met_by, fails_at, solve_prefixes}
use Rattle.timing.specs.Claims.{LeastInstants, Judges}
use Rattle.timing.proofs.Feasible.{restrict, feasible_same}
use Rattle.timing.proofs.Cap.{cap, capped_le}
use Rattle.timing.proofs.Solved.{prefixes_right, judge_unique, possible_least}
use Rattle.std.specs.Prelude.{Ok, Err, Bool, true, false, cond}
use Rattle.timing.specs.declared.Window.{Window}
use Rattle.timing.specs.Windows.{no_window, win_of, windows}
use Rattle.sweep.specs.Arrays.{Listed, Short, earliest_by}
use Rattle.sweep.specs.Sweeps.{asked, Follows, InTime, Reaching, Solved, Entered, Unmet}
use Rattle.sweep.proofs.Raising.{each_index}
use Rattle.sweep.proofs.Rounds.{meets_parts, meets_follows, meets_reaches}

-- ---- how far the windows of a firing stand

-- a slot is set to what no slot is over
module _ (reach : List ℕ) (at t : ℕ) (inside : at < length reach) (most : (n : ℕ) → get_or reach n 0 ≤ t) where
  slot_there : get_or (set reach at t) at 0 ≡ t
  slot_there = get_or-set_same reach at t 0 inside

  slot_up : (n : ℕ) → get_or reach n 0 ≤ get_or (set reach at t) n 0
  slot_up = each_index at (λ n. get_or reach n 0 ≤ get_or (set reach at t) n 0) (omega (arith, slot_there, most at))
      (λ n d. omega (arith, get_or-set_other reach at n t 0 d))

  slot_most : (n : ℕ) → get_or (set reach at t) n 0 ≤ t
  slot_most = each_index at (λ n. get_or (set reach at t) n 0 ≤ t) (omega (arith, slot_there)) (λ n d. omega (arith, get_or-set_other reach at n t 0 d, most n))

-- the window i is right behind the firing i, and counts from its origin
pub reaching_more : {W : ℕ → Win} {i : ℕ} {reach : List ℕ} → Reaching W i reach → i < length reach → (W i).origin < length reach
    → Reaching W (i + 1) (set (set reach i (i + 1)) (W i).origin (i + 1))
reaching_more {W} {i} {reach} r here there =
    let o = (W i).origin in
    let mid = set reach i (i + 1) in
    let most : (n : ℕ) → get_or reach n 0 ≤ i + 1 = λ n. omega (arith, r.within n) in
    let inside : o < length mid = omega (arith, length-set reach i (i + 1)) in
    let few = slot_most reach i (i + 1) here most in
    let up : (n : ℕ) → get_or reach n 0 ≤ get_or (set mid o (i + 1)) n 0 =
    λ n. le_trans (slot_up reach i (i + 1) here most n) (slot_up mid o (i + 1) inside few n) in
    record {
      past = λ j l.
          ⊎_elim
          (λ h. let p = r.past j h in (omega (arith, p.0, up j), omega (arith, p.1, up (W j).origin)))
          (λ h.
          let q : j ≡ i = omega arith in
          subst⁻¹ (λ (n : ℕ). (n < get_or (set mid o (i + 1)) n 0) × (n < get_or (set mid o (i + 1)) (W n).origin 0)) q
          (omega (arith, slot_there reach i (i + 1) here most, slot_up mid o (i + 1) inside few i), omega (arith, slot_there mid o (i + 1) inside few)))
          (le_or_lt (suc j) i);
      within = slot_most mid o (i + 1) inside few;
    }

module _ (W : ℕ → Win) where
  pub solved_zero : Solved W 0 (replicate 65 0)
  solved_zero =
      record {
        size = length-replicate {A = ℕ} 65 0;
        feasible = record { starts = refl; each = λ i l. absurd (omega arith) };
        under = λ S m j. omega (arith, get_d_padded {A = ℕ} [] 65 0 j);
      }

  -- the last upper bound is met too
  pub entered_solved : (i : ℕ) (x : List ℕ) → Entered W (suc i) x → InTime W (instant_at x) i → Solved W (suc i) x
  entered_solved i x e r =
      record {
        size = e.size;
        feasible =
            record {
              starts = e.starts;
              each = λ j l.
                  meets_parts W (instant_at x) j (e.follows j l)
                  (⊎_elim
                  (λ h. e.reaches j h)
                  (λ h. let q : j ≡ i = omega arith in subst⁻¹ (InTime W (instant_at x)) q r)
                  (le_or_lt (suc (suc j)) (suc i)));
            };
        under = e.under;
      }

  module _ (i : ℕ) (x : List ℕ) (wf : Wellformed W (suc i)) (lows : (j : ℕ) → j < suc i → (W j).low < 2 ^ 32) (s : Solved W i x) where
    -- no instant is over 2 ^ 32 for each firing
    pub solved_small : (j : ℕ) → instant_at x j ≤ 2 ^ 32 * j
    solved_small j =
        let f = cap (2 ^ 32) (instant_at x) 1 W i (λ n l. wf n (omega arith)) (λ n l. omega (arith, lows n (omega arith))) s.feasible in
        le_trans (s.under (capped (2 ^ 32) (instant_at x)) f.each j) (capped_le (2 ^ 32) (instant_at x) j)

    module _ (few : suc i ≤ 64) where
      -- where the new firing is put
      abbrev pub first : ℕ
      first = max (instant_at x i) (instant_at x (W i).origin + (W i).low)

      abbrev y : List ℕ
      y = set x (suc i) first

      pub first_small : first ≤ 64 * 2 ^ 32
      first_small = omega (arith, solved_small i, solved_small (W i).origin, lows i (le_refl _), mul-le-mul_left (2 ^ 32) (wf i (le_refl _)))

      there : instant_at y (suc i) ≡ first
      there = get_or-set_same x (suc i) first 0 (omega (arith, s.size))

      others : (j : ℕ) → (j ≡ suc i → ⊥) → instant_at y j ≡ instant_at x j
      others j n = get_or-set_other x (suc i) j first 0 n

      before : (j : ℕ) → j ≤ i → instant_at y j ≡ instant_at x j
      before j h = others j (λ e. omega arith)

      follows : (j : ℕ) → j < suc i → Follows W (instant_at y) j
      follows j l =
          let o = before (W j).origin (omega (arith, wf j l)) in
          let this = before j (omega arith) in
          ⊎_elim
          (λ h. let g = meets_follows W (instant_at x) j (s.feasible.each j h) in (omega (arith, before (suc j) h), omega (arith, before (suc j) h)))
          (λ h.
          let q : j ≡ i = omega arith in
          subst⁻¹ (Follows W (instant_at y)) q
          (omega (arith, there, before i (le_refl i)), omega (arith, there, before (W i).origin (wf i (le_refl _)))))
          (le_or_lt (suc j) i)

      reaches : (j : ℕ) → suc j < suc i → InTime W (instant_at y) j
      reaches j l =
          let h : j < i = omega arith in
          omega (
            arith,
            ap (asked (W j).high) (before (suc j) h),
            meets_reaches W (instant_at x) j (s.feasible.each j h),
            before (W j).origin (omega (arith, wf j (omega arith))),
          )

      under : (S : ℕ → ℕ) → ((j : ℕ) → j < suc i → Meets 1 S j (W j)) → Under (instant_at y) S
      under S m =
          let v = s.under S (λ j l. m j (omega arith)) in
          let g = meets_follows W S i (m i (le_refl _)) in
          each_index (suc i) (λ j. instant_at y j ≤ S j) (omega (arith, there, v i, v (W i).origin)) (λ j n. omega (arith, others j n, v j))

      pub entered : Entered W (suc i) y
      entered =
          record {
            some = omega arith;
            size = length-set x (suc i) first ∙ s.size;
            starts = before 0 (omega arith) ∙ s.feasible.starts;
            follows = follows;
            reaches = reaches;
            under = under;
            small = omega (arith, there, first_small);
          }

      -- the new firing's upper bound allows that
      pub enter_solved : asked (W i).high first ≤ instant_at x (W i).origin → Solved W (suc i) y
      enter_solved h =
          entered_solved i y entered (omega (arith, ap (asked (W i).high) there, before (W i).origin (wf i (le_refl _))))

-- ---- the same of windows in a slice, as the code has it

module _ {ws : List Window} {i : ℕ} {x : List ℕ} (p : Listed ws) (h : i < length ws) (b : Short ws i)
    (low : (windows ws i).low < 2 ^ 32) (s : Solved (windows ws) i x) where
  abbrev W : ℕ → Win
  W = windows ws

  wf : Wellformed W (suc i)
  wf j l = p.earlier j (omega arith)

  lows : (j : ℕ) → j < suc i → (W j).low < 2 ^ 32
  lows j l = let P : ℕ → Type 0 = λ n. (windows ws n).low < 2 ^ 32 in below_more P i b low j (omega arith)

  few : suc i ≤ 64
  few = omega (arith, p.few)

  pub enter_fits : instant_at x ((W i).origin) + (W i).low < 2 ^ 64
  enter_fits = omega (arith, first_small W i x wf lows s few)

  module _ (t : ℕ) (e : t ≡ max (instant_at x i) (instant_at x ((W i).origin) + (W i).low)) where
    stored : set x (i + 1) t ≡ set x (suc i) (first W i x wf lows s few)
    stored = ap (λ (j : ℕ). set x j t) (add-one i) ∙ ap (set x (suc i)) e

    pub enter_put : Entered W (i + 1) (set x (i + 1) t)
    enter_put = rw (stored, add-one i) (entered W i x wf lows s few)

    pub enter_met : (needed : ℕ) → needed ≡ asked ((W i).high) t → needed ≤ instant_at (set x (i + 1) t) ((W i).origin)
        → Solved W (i + 1) (set x (i + 1) t)
    enter_met needed q h =
        rw (stored, add-one i)
        (enter_solved W i x wf lows s few
        (omega (
          arith,
          ap (asked ((W i).high)) e,
          get_or-set_other x (i + 1) ((W i).origin) t 0 (λ r. omega (arith, wf i (le_refl _))),
        )))

pub reaching_none : (W : ℕ → Win) → Reaching W 0 (replicate 65 0)
reaching_none W = record { past = λ j l. absurd (omega arith); within = λ o. omega (arith, get_d_padded {A = ℕ} [] 65 0 o) }

-- ---- the first windows of a slice are windows themselves

module _ {V W : ℕ → Win} {k : ℕ} (same : (j : ℕ) → j < k → V j ≡ W j) where
  meets_same : (S : ℕ → ℕ) → ((j : ℕ) → j < k → Meets 1 S j (V j)) → (j : ℕ) → j < k → Meets 1 S j (W j)
  meets_same S m j l = subst (Meets 1 S j) (same j l) (m j l)

  meets_back : (S : ℕ → ℕ) → ((j : ℕ) → j < k → Meets 1 S j (W j)) → (j : ℕ) → j < k → Meets 1 S j (V j)
  meets_back S m j l = subst⁻¹ (Meets 1 S j) (same j l) (m j l)

  entered_same : {x : List ℕ} → Entered V k x → Entered W k x
  entered_same {x} e =
      record {
        some = e.some;
        size = e.size;
        starts = e.starts;
        follows = λ j l.
            let S = instant_at x in
            let P : Win → Type 0 = λ w. (S j ≤ S (suc j)) × (S w.origin + w.low ≤ S (suc j)) in
            subst P (same j l) (e.follows j l);
        reaches = λ j l.
            let S = instant_at x in
            let P : Win → Type 0 = λ w. asked w.high (S (suc j)) ≤ S w.origin in
            subst P (same j (omega arith)) (e.reaches j l);
        under = λ S m. e.under S (meets_back S m);
        small = e.small;
      }

  solved_same : {x : List ℕ} → Solved V k x → Solved W k x
  solved_same {x} s =
      record {
        size = s.size;
        feasible = record { starts = s.feasible.starts; each = meets_same (instant_at x) s.feasible.each };
        under = λ S m. s.under S (meets_back S m);
      }

  unmet_same : Unmet V k → Unmet W k
  unmet_same u S f = u S (record { starts = f.starts; each = meets_back S f.each })

module _ (ws : List Window) (n : ℕ) (h : n ≤ length ws) where
  long : length (take n ws) ≡ n
  long = length-take-le n ws h

  same : (j : ℕ) → j < n → windows (take n ws) j ≡ windows ws j
  same j l = ap win_of (get_or-take n ws j no_window l)

  back : (j : ℕ) → j < n → windows ws j ≡ windows (take n ws) j
  back j l = sym (same j l)

  pub first_listed : Listed ws → Listed (take n ws)
  first_listed p =
      record {
        few = omega (arith, p.few, long);
        earlier = λ j l. let e = ap (λ (w : Win). w.origin) (same j (omega (arith, long))) in omega (arith, e, p.earlier j (omega (arith, long)));
      }

  pub first_reaching : {reach : List ℕ} → Reaching (windows ws) n reach → Reaching (windows (take n ws)) (length (take n ws)) reach
  first_reaching {reach} r =
      record {
        past = λ j l.
            let p = r.past j (omega (arith, long)) in
            let e = ap (λ (w : Win). get_or reach w.origin 0) (same j (omega (arith, long))) in
            (p.0, omega (arith, p.1, e));
        within = λ o. omega (arith, long, r.within o);
      }

  pub first_entered : {x : List ℕ} → Entered (windows ws) n x → Entered (windows (take n ws)) (length (take n ws)) x
  first_entered {x} e = rw long (entered_same back e)

  pub first_met : (x : List ℕ) (met : Bool)
      → cond met (Solved (windows (take n ws)) (length (take n ws)) x) (Unmet (windows (take n ws)) (length (take n ws)))
      → cond met (Solved (windows ws) n x) (Unmet (windows ws) n)
  first_met x true s = solved_same same (rw long at s)
  first_met x false u = unmet_same same (rw long at u)

-- ---- the verdict

module _ (W : ℕ → Win) (n : ℕ) (few : n ≤ 64) (wf : Wellformed W n) (i : ℕ) (x : List ℕ) (s : Solved W i x) where
  all_met : i ≡ n → LeastInstants 1 W n (take (suc n) x)
  all_met q =
      let t = subst (λ (k : ℕ). Solved W k x) q s in
      let same : (j : ℕ) → j ≤ n → instant_at x j ≡ instant_at (take (suc n) x) j = λ j l. sym (get_or-take (suc n) x j 0 (omega arith)) in
      let size : length (take (suc n) x) ≡ suc n = length-take-le (suc n) x (omega (arith, s.size)) in
      record {
        size = size;
        feasible = (feasible_same 1 W n wf (instant_at x) (instant_at (take (suc n) x)) same).0 t.feasible;
        least = λ S f j.
            ⊎_elim
            (λ l. omega (arith, same j l, t.under S f.each j))
            (λ l. omega (arith, get_or-eq_default (take (suc n) x) 0 {n = j} (omega (arith, size))))
            (le_or_lt j n);
      }

  judges_met : n ≤ i → i ≤ n → Judges 1 W n (met_by (take (suc n) x))
  judges_met l h = all_met (omega arith)

  judges_fails : i < n → Unmet W (i + 1) → Judges 1 W n (fails_at (i + 1))
  judges_fails l u =
      record {
        reached = omega arith;
        fails_at_lem = u;
        met = λ j h. possible_least W j (λ m b. wf m (omega arith)) (instant_at x, restrict j (omega arith) s.feasible);
      }

  -- past the last firing there is nothing
  padded : n ≤ i → i ≤ n → x ≡ pad_to 65 0 (take (suc n) x)
  padded l h =
      let t = judges_met l h in
      let p : (j : ℕ) → instant_at (pad_to 65 0 (take (suc n) x)) j ≡ instant_at (take (suc n) x) j =
      get_d_padded (take (suc n) x) (65 - length (take (suc n) x)) 0 in
      let u = s.under (instant_at (take (suc n) x)) (λ j b. t.feasible.each j (omega arith)) in
      let size : length (pad_to 65 0 (take (suc n) x)) ≡ 65 = omega (
        arith,
        length-append (take (suc n) x) (replicate (65 - length (take (suc n) x)) 0),
        length-replicate {A = ℕ}
            (65 - length (take (suc n) x)) 0,
        t.size,
      ) in
      ext_get_or 0 x (pad_to 65 0 (take (suc n) x)) (s.size ∙ sym size)
      (λ j b.
      ⊎_elim
      (λ c. sym (p j ∙ get_or-take (suc n) x j 0 (omega arith)))
      (λ c. omega (arith, p j, u j, get_or-eq_default (take (suc n) x) 0 {n = j} (omega (arith, t.size))))
      (le_or_lt j n))

  pub answer_met : n ≤ i → i ≤ n → Ok x ≡ earliest_by (solve_prefixes 1 W n)
  answer_met l h =
      let e : met_by (take (suc n) x) ≡ solve_prefixes 1 W n =
      judge_unique 1 W n (met_by (take (suc n) x)) (solve_prefixes 1 W n) (judges_met l h) (prefixes_right 1 W n wf) in
      ap Ok (padded l h) ∙ ap earliest_by e

  pub answer_fails : i < n → Unmet W (i + 1) → Err (i + 1) ≡ earliest_by (solve_prefixes 1 W n)
  answer_fails l u = ap earliest_by (judge_unique 1 W n (fails_at (i + 1)) (solve_prefixes 1 W n) (judges_fails l u) (prefixes_right 1 W n wf))
