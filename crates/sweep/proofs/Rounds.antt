-- What a round of sweeps keeps. Where nothing rose, all windows are met, by the least instants; where the start or the last firing rose, they cannot be;
-- otherwise one more instant is final, so that more rounds than there are instants show that the windows cannot be met.
use Prim.Native.Nat.{ℕ, suc, ◌*◌, ◌-◌, ◌≤◌, ◌<◌, ◌^◌}
use mathlib.Core.Path.{◌≡◌, ap, ◌∙◌}
use mathlib.Core.List.{List, []}
use mathlib.Core.Logic.{inl, inr, ⊎_elim}
use lib.ListN.{length}
use native.Mathlib.Nat.{le_trans, le_refl}
use native.Mathlib.Decide.{le_ind}
use native.Mathlib.Omega.{arith}
use Rattle.laws.specs.Each.{Each, each_map}
use Rattle.laws.specs.Sums.{le_or_lt}
use Rattle.timing.specs.Timing.{Win, Meets, Feasible, Wellformed, Under}
use Rattle.timing.specs.Solve.{Edge, instant_at, edges}
use Rattle.timing.proofs.Pass.{Sat, Fits}
use Rattle.timing.proofs.Climb.{Start, Near, Step, near_start, nearer, exhausted}
use Rattle.timing.proofs.Edges.{edges_fit, serves_of, sat_of, meets_of}
use Rattle.sweep.specs.Sweeps.{asked, Follows, InTime, Backward, Forward, Solved, Entered, Unmet}
use Rattle.sweep.proofs.Raising.{asked_within, asked_mono}
use Rattle.sweep.proofs.Level.{above_unmet, started_unmet}

-- ---- a window, by what a sweep forward and a sweep backward leave of it

module _ (W : ℕ → Win) (S : ℕ → ℕ) (i : ℕ) where
  pub meets_parts : Follows W S i → InTime W S i → Meets 1 S i (W i)
  meets_parts f r = record { ordered = f.0; early = omega arith; late = (asked_within (W i).high (S (W i).origin) (S (suc i))).0 r }

  pub meets_follows : Meets 1 S i (W i) → Follows W S i
  meets_follows m = (m.ordered, omega (arith, m.early))

  pub meets_reaches : Meets 1 S i (W i) → InTime W S i
  meets_reaches m = (asked_within (W i).high (S (W i).origin) (S (suc i))).1 m.late

-- instants in order are at most the last
rising : (k : ℕ) (S : ℕ → ℕ) → ((j : ℕ) → j < k → S j ≤ S (suc j)) → (j : ℕ) → j ≤ k → S j ≤ S k
rising k S o j h =
    le_ind (λ m. ((i : ℕ) → i < m → S i ≤ S (suc i)) → S j ≤ S m)
    (λ f. le_refl (S j))
    (λ m l g f. le_trans (g (λ i b. f i (omega arith))) (f m (omega arith)))
    k h o

-- at most m indices are not final, so no more than any larger number
near_le : (n : ℕ) (es : List Edge) (m m' : ℕ) (x : List ℕ) → m ≤ m' → Near n es m x → Near n es m' x
near_le n es m m' x l h L a q = le_trans (h L a q) l

one_less : (round : ℕ) → 64 - round ≤ suc (64 - suc round)
one_less round = omega arith

none_left : (round : ℕ) → 64 < suc round → 64 - round ≤ 0
none_left round h = omega arith

-- the first k windows, with the instants x₀ at which the firing k entered: x is what they became in some rounds, and of the windows below bottom and from
-- top on the upper bounds are met
pub record Settling (W : ℕ → Win) (k : ℕ) (x₀ x : List ℕ) (bottom top round : ℕ) : Type 0 where
  pub few : k ≤ 64
  pub earlier : Wellformed W k
  pub entered : Entered W k x₀
  pub below : bottom ≤ top
  pub some : 0 < top
  pub within : top ≤ k
  pub size : length x ≡ 65
  pub starts : instant_at x 0 ≡ 0
  pub level : instant_at x k ≡ instant_at x₀ k
  pub follows : (j : ℕ) → j < k → Follows W (instant_at x) j
  pub met : (j : ℕ) → j < bottom → InTime W (instant_at x) j
  pub reaches : (j : ℕ) → top ≤ j → j < k → InTime W (instant_at x) j
  pub under : (S : ℕ → ℕ) → ((j : ℕ) → j < k → Meets 1 S j (W j)) → Under (instant_at x) S
  pub near : (S : ℕ → ℕ) → Feasible 1 W k S → (round ≤ 64) × Near 64 (edges 1 W k []) (64 - round) x

module _ {W : ℕ → Win} {k : ℕ} where
  pub settle_start : {x : List ℕ} → k ≤ 64 → Wellformed W k → Entered W k x → Settling W k x x (k - 1) k 0
  settle_start {x} few wf e =
      record {
        few = few;
        earlier = wf;
        entered = e;
        below = omega arith;
        some = e.some;
        within = le_refl k;
        size = e.size;
        starts = e.starts;
        level = omega arith;
        follows = e.follows;
        met = λ j l. e.reaches j (omega (arith, e.some));
        reaches = λ j h l. absurd (omega arith);
        under = e.under;
        near = λ S f. (omega arith, near_start 64 (edges 1 W k []) x);
      }

  -- more rounds than instants
  pub settle_spent : {x₀ x : List ℕ} {bottom top round : ℕ} → Settling W k x₀ x bottom top round → 65 ≤ round → Unmet W k
  settle_spent s h S f = omega (arith, s.near S f)

  -- no instant is later than the last, which has not moved
  pub settling_small : {x₀ x : List ℕ} {bottom top round : ℕ} → Settling W k x₀ x bottom top round → (j : ℕ) → j ≤ k → instant_at x j ≤ 64 * 2 ^ 32
  settling_small {x₀} {x} s j l = omega (arith, rising k (instant_at x) (λ n m. (s.follows n m).0) j l, s.level, s.entered.small)

  module _ {x₀ x : List ℕ} {bottom top round : ℕ} (s : Settling W k x₀ x bottom top round)
      {from : ℕ} {z : List ℕ} (b : Backward W top x from 0 z) where
    pub back_size : length z ≡ 65
    back_size = b.size ∙ s.size

    back_under : (S : ℕ → ℕ) → ((j : ℕ) → j < k → Meets 1 S j (W j)) → Under (instant_at z) S
    back_under S m = b.under S (λ j l. meets_reaches W S j (m j (omega (arith, s.within)))) (s.under S m)

    back_reaches : (j : ℕ) → j < k → InTime W (instant_at z) j
    back_reaches j l =
        ⊎_elim
        (λ h. b.reaches j (omega arith) h)
        (λ h.
        omega (arith, ap (asked (W j).high) (b.kept (suc j) (inr (omega arith))), s.reaches j (omega arith) l, b.up (W j).origin))
        (le_or_lt (suc j) top)

    back_level : instant_at z k ≡ instant_at x₀ k
    back_level = b.kept k (inr s.within) ∙ s.level

    -- every upper bound was met
    pub settle_none : from ≡ top → Solved W k z
    settle_none q =
        let same : (j : ℕ) → instant_at z j ≡ instant_at x j = λ j. b.kept j (⊎_elim (λ h. inr h) (λ h. inl (omega arith)) (le_or_lt top j)) in
        record {
          size = back_size;
          feasible =
              record {
                starts = same 0 ∙ s.starts;
                each = λ i l.
                    let g = s.follows i l in
                    meets_parts W (instant_at z) i (omega (arith, same i, same (suc i)), omega (arith, same (W i).origin, same (suc i))) (back_reaches i l);
              };
          under = back_under;
        }

    -- the start was raised
    pub settle_started : from ≡ 0 → Unmet W k
    settle_started q =
        let up = b.rose (omega (arith, s.some)) in
        started_unmet W k x₀ s.entered z back_under (omega (arith, ap (instant_at z) q, ap (instant_at x) q))

    -- what a sweep forward asks
    pub forth_from : from ≤ k
    forth_from = omega (arith, b.low, s.within)

    pub forth_follows : (j : ℕ) → j < from → Follows W (instant_at z) j
    forth_follows j h =
        let l : j < k = omega (arith, forth_from) in
        let g = s.follows j l in
        let o = b.kept (W j).origin (inl (omega (arith, s.earlier j l))) in
        (omega (arith, b.kept j (inl h), b.up (suc j)), omega (arith, b.up (suc j)))

    module _ {to : ℕ} {y : List ℕ} (f : Forward W from k z to k y) where
      round_under : (S : ℕ → ℕ) → ((j : ℕ) → j < k → Meets 1 S j (W j)) → Under (instant_at y) S
      round_under S m = f.under S (λ j l. meets_follows W S j (m j l)) (back_under S m)

      round_reaches : (j : ℕ) → to ≤ j → j < k → InTime W (instant_at y) j
      round_reaches j h l = omega (arith, ap (asked (W j).high) (f.kept (suc j) (inl (omega arith))), back_reaches j l, f.up (W j).origin)

      round_size : length y ≡ 65
      round_size = f.size ∙ back_size

      -- no firing had to follow
      pub settle_done : (from ≡ 0 → ⊥) → to ≡ 0 → Solved W k y
      settle_done n q =
          record {
            size = round_size;
            feasible =
                record {
                  starts = f.kept 0 (inr (omega arith)) ∙ b.kept 0 (inl (omega arith)) ∙ s.starts;
                  each = λ i l. meets_parts W (instant_at y) i (f.follows i l) (round_reaches i (omega arith) l);
                };
            under = round_under;
          }

      -- the last firing rose
      pub settle_above : to ≡ k → Unmet W k
      settle_above q =
          let up = f.rose (omega (arith, s.entered.some)) in
          above_unmet W k x₀ s.entered y round_under (omega (arith, back_level, ap (instant_at y) q, ap (instant_at z) q))

      module _ (rose : from ≡ top → ⊥) where
        moved : instant_at x from < instant_at z from
        moved = b.rose (omega (arith, b.low))

        unsettled : instant_at x 0 ≡ 0 → Sat (edges 1 W k []) (instant_at x) → ⊥
        unsettled q a =
            let m = meets_of 1 W (instant_at x) k a in
            omega (arith, moved, b.under (instant_at x) (λ j l. meets_reaches W (instant_at x) j (m j (omega (arith, s.within)))) (λ j. le_refl _) from)

        fits : Each (Fits 64) (edges 1 W k [])
        fits = each_map (λ a t. record { from_le = le_trans t.from_le s.few; to_le = le_trans t.to_le s.few }) (edges 1 W k [])
            (edges_fit 1 W k s.earlier)

        begun : Start 64 (edges 1 W k []) x
        begun = record { size = s.size; under = λ S a. s.under S (meets_of 1 W S k a) }

        -- a round is a pass
        step : Step 64 (edges 1 W k []) x y
        step =
            record {
              size = round_size;
              up = λ j. le_trans (b.up j) (f.up j);
              serves =
                  serves_of 1 W (instant_at x) (instant_at y) k
                  (λ i l.
                  let g = f.follows i l in
                  let xi = b.up i in
                  let yi = f.up i in
                  record {
                    ordered = omega arith;
                    early = omega (arith, b.up (W i).origin, f.up (W i).origin);
                    late =
                        (asked_within (W i).high (instant_at y (W i).origin) (instant_at x (suc i))).0
                        (omega (
                          arith,
                          asked_mono (W i).high (instant_at x (suc i)) (instant_at z (suc i)) (b.up (suc i)),
                          back_reaches i l,
                          f.up
                              (W i).origin,
                        ));
                  });
              under = λ S a u.
                  let m = meets_of 1 W S k a in
                  f.under S (λ j l. meets_follows W S j (m j l)) (b.under S (λ j l. meets_reaches W S j (m j (omega (arith, s.within)))) u);
            }

        round_near : (S : ℕ → ℕ) → Feasible 1 W k S → (suc round ≤ 64) × Near 64 (edges 1 W k []) (64 - suc round) y
        round_near S p =
            let es = edges 1 W k [] in
            let n = s.near S p in
            ⊎_elim
            (λ h. (
              h,
              nearer 64 es fits (64 - suc round) x y begun (near_le 64 es (64 - round) (suc (64 - suc round)) x (one_less round) n.1)
                  unsettled step,
            ))
            (λ h. absurd (exhausted 64 es fits x begun (near_le 64 es (64 - round) 0 x (none_left round h) n.1) unsettled S p.starts
            (sat_of 1 W S k p.each)))
            (le_or_lt (suc round) 64)

        module _ {first : ℕ} (below_to : first < to) (same : (j : ℕ) → j < first → instant_at y (suc j) ≡ instant_at z (suc j)) where
          pub settle_more : (from ≡ 0 → ⊥) → (to ≡ k → ⊥) → Settling W k x₀ y first to (suc round)
          settle_more n l =
              record {
                few = s.few;
                earlier = s.earlier;
                entered = s.entered;
                below = omega arith;
                some = omega arith;
                within = f.high;
                size = round_size;
                starts = f.kept 0 (inr (omega arith)) ∙ b.kept 0 (inl (omega arith)) ∙ s.starts;
                level = f.kept k (inl (omega (arith, f.high))) ∙ back_level;
                follows = f.follows;
                met = λ j h. omega (arith, ap (asked (W j).high) (same j h), back_reaches j (omega arith), f.up (W j).origin);
                reaches = round_reaches;
                under = round_under;
                near = round_near;
              }
