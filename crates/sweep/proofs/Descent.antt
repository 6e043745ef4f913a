-- A turn of a sweep backward keeps what the sweep is to leave: a firing raises an earlier one, so no firing that has had its turn moves again. An upper
-- bound that is met stays so unless its own firing rises, so that the sweep may end above windows that are met.
use Prim.Native.Nat.{ℕ, suc, ◌+◌, ◌-◌, ◌≤◌, ◌<◌, min, max}
use mathlib.Core.Path.{◌≡◌, ap, ◌∙◌, subst⁻¹}
use mathlib.Core.List.{List}
use mathlib.Core.Logic.{◌⊎◌, inl, inr, ⊎_elim}
use lib.ListN.{length, get_or, set, length-set}
use native.Mathlib.Nat.{le_trans}
use native.Mathlib.Numerals.{add-one}
use native.Mathlib.Omega.{arith}
use Rattle.laws.specs.Sums.{le_or_lt}
use Rattle.timing.specs.Timing.{Win, Under}
use Rattle.timing.specs.Solve.{instant_at}
use Rattle.sweep.specs.Sweeps.{asked, InTime, Backward, Ahead, Reaching}
use Rattle.sweep.proofs.Raising.{each_index, raised_there, raised_kept, raised_up, raised_under, asked_mono}

-- a sweep backward that stands at i: the windows from i on have had their turn, and those below `stop` are met
pub record Descending (W : ℕ → Win) (top : ℕ) (x₀ : List ℕ) (from stop i : ℕ) (x : List ℕ) : Type 0 where
  pub swept : Backward W top x₀ from i x
  pub stops : stop ≤ i
  pub met : (j : ℕ) → j < stop → InTime W (instant_at x) j

module _ {W : ℕ → Win} {top : ℕ} {x₀ : List ℕ} {from stop i : ℕ} {x : List ℕ} (d : Descending W top x₀ from stop i x) where
  b : Backward W top x₀ from i x
  b = d.swept

  module _ (h : stop < i) where
    module _ (earlier : (j : ℕ) → j < top → (W j).origin ≤ j) where
      last : i - 1 < top
      last = omega (arith, b.within)

      before : (W (i - 1)).origin ≤ i - 1
      before = earlier (i - 1) last

      pub back_inside : top ≤ 64 → (W (i - 1)).origin < 65
      back_inside few = omega (arith, before, last)

      -- the window below i is not met: its origin o rises to t
      module _ (inside : (W (i - 1)).origin < length x)
          (t : ℕ) (asks : t ≡ asked (W (i - 1)).high (instant_at x (i - 1 + 1))) (less : instant_at x (W (i - 1)).origin < t) where
        abbrev o : ℕ
        o = (W (i - 1)).origin

        abbrev y : List ℕ
        y = set x o t

        there : instant_at y o ≡ t
        there = raised_there x o t inside less

        others : (j : ℕ) → (j ≡ o → ⊥) → instant_at y j ≡ instant_at x j
        others = raised_kept x o t inside less

        up : Under (instant_at x) (instant_at y)
        up = raised_up x o t inside less

        asked_now : t ≡ asked (W (i - 1)).high (instant_at x (suc (i - 1)))
        asked_now = rw (add-one (i - 1)) at asks

        -- what a window asks stays, unless its own firing rose
        still : (j : ℕ) → (suc j ≡ o → ⊥) → InTime W (instant_at x) j → InTime W (instant_at y) j
        still j n r = omega (arith, ap (asked (W j).high) (others (suc j) n), up (W j).origin)

        reaches_more : (j : ℕ) → i - 1 ≤ j → j < top → InTime W (instant_at y) j
        reaches_more j n l =
            ⊎_elim
            (λ c. still j (λ e. omega (arith, before)) (b.reaches j c l))
            (λ c.
            let e : j ≡ i - 1 = omega arith in
            subst⁻¹ (InTime W (instant_at y)) e
            (omega (arith, ap (asked (W (i - 1)).high) (others (suc (i - 1)) (λ e. omega (arith, before))), asked_now, there)))
            (le_or_lt i j)

        under_more : (S : ℕ → ℕ) → ((j : ℕ) → j < top → InTime W S j) → Under (instant_at x₀) S → Under (instant_at y) S
        under_more S s u =
            let v = b.under S s u in
            raised_under x o t inside less S
            (omega (arith, asked_now, asked_mono (W (i - 1)).high (instant_at x (suc (i - 1))) (S (suc (i - 1))) (v (suc (i - 1))), s (i - 1) last)) v

        -- the windows from u on do not count from o, nor stand right behind it, and follow as before
        pub back_ahead : {reach : List ℕ} {k until : ℕ} → Reaching W k reach → top ≤ k → Ahead W k until x → (u : ℕ) → u ≡ max until (get_or reach o 0) → Ahead W k u y
        back_ahead {reach} r few a u q =
            record {
              within = omega (arith, a.within, r.within o);
              follows = λ j n l.
                  let g = a.follows j (omega arith) l in
                  let far = r.past (i - 1) (omega (arith, last, few)) in
                  let from_other = others (W j).origin (λ e. omega (arith, r.past j l, ap (λ (n : ℕ). get_or reach n 0) e)) in
                  let this = others j (λ e. omega (arith, r.past j l, ap (λ (n : ℕ). get_or reach n 0) e)) in
                  let next = others (suc j) (λ e. omega (arith, far, before)) in
                  (omega (arith, g.0), omega (arith, g.1));
            }

        -- no instant passes a bound that none was past
        pub back_small : {k most : ℕ} → top ≤ k → t ≤ instant_at x (i - 1 + 1) → ((j : ℕ) → j ≤ k → instant_at x j ≤ most)
            → (j : ℕ) → j ≤ k → instant_at y j ≤ most
        back_small {k} {most} few e all =
            each_index o (λ j. j ≤ k → instant_at y j ≤ most) (λ l. omega (arith, there, all (i - 1 + 1) (omega (arith, b.within, few))))
            (λ j n l. omega (arith, others j n, all j l))

        module _ (m : ℕ) (q : m ≡ min from o) where
          kept_more : (j : ℕ) → (j < m) ⊎ (top ≤ j) → instant_at y j ≡ instant_at x₀ j
          kept_more j c =
              others j (λ e. ⊎_elim (λ l. omega arith) (λ l. omega (arith, before, last)) c)
              ∙ b.kept j (⊎_elim (λ l. inl (omega arith)) (λ l. inr l) c)

          rose_more : m < top → instant_at x₀ m < instant_at y m
          rose_more l =
              ⊎_elim
              (λ c.
              let e : m ≡ from = omega arith in
              subst⁻¹ (λ (j : ℕ). instant_at x₀ j < instant_at y j) e (omega (arith, b.rose (omega arith), up from)))
              (λ c.
              let e : m ≡ o = omega arith in
              subst⁻¹ (λ (j : ℕ). instant_at x₀ j < instant_at y j) e (omega (arith, b.up o, there)))
              (le_or_lt from o)

          pub back_raised : (w s : ℕ) → w ≡ o - 1 → s ≡ min stop w → Descending W top x₀ m s (i - 1) y
          back_raised w s v r =
              record {
                swept =
                    record {
                      within = omega (arith, b.within);
                      size = length-set x o t ∙ b.size;
                      up = λ j. le_trans (b.up j) (up j);
                      reaches = reaches_more;
                      under = under_more;
                      low = omega (arith, b.low);
                      kept = kept_more;
                      rose = rose_more;
                    };
                stops = omega arith;
                met = λ j l. still j (λ e. omega arith) (d.met j (omega arith));
              }
