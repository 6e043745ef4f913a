-- A turn of a sweep forward keeps what the sweep is to leave: a firing rises above earlier ones, which have had their turns.
use Prim.Native.Nat.{ℕ, suc, ◌+◌, ◌*◌, ◌≤◌, ◌<◌, ◌^◌, min, max}
use mathlib.Core.Path.{◌≡◌, refl, ap, ◌∙◌, subst, subst⁻¹}
use mathlib.Core.List.{List}
use mathlib.Core.Logic.{◌⊎◌, inl, inr, ⊎_elim}
use lib.ListN.{length, get_or, set, length-set}
use native.Mathlib.Nat.{le_refl, le_trans}
use native.Mathlib.Numerals.{add-one}
use native.Mathlib.Omega.{arith}
use Rattle.laws.specs.Sums.{le_or_lt}
use Rattle.timing.specs.Solve.{instant_at}
use Rattle.timing.specs.Timing.{Win, Under}
use Rattle.sweep.specs.Sweeps.{Follows, Ahead, Forward, Reaching}
use Rattle.sweep.proofs.Raising.{raised_there, raised_kept, raised_up, raised_under}

-- a sweep forward that stands at i, where the instant is `now`; the firings of the windows below `first` have not moved, and it ends at `until`
pub record Climbing (W : ℕ → Win) (from k : ℕ) (x₀ : List ℕ) (first last until now i : ℕ) (x : List ℕ) : Type 0 where
  pub swept : Forward W from k x₀ last i x
  pub ahead : Ahead W k until x
  pub here : now ≡ instant_at x i
  pub few : first ≤ k
  pub ordered : 0 < last → first < last
  pub same : (j : ℕ) → j < first → instant_at x (suc j) ≡ instant_at x₀ (suc j)

module _ {W : ℕ → Win} {from k : ℕ} {x₀ : List ℕ} {first last until now i : ℕ} {x : List ℕ}
    (a : Climbing W from k x₀ first last until now i x) where
  f : Forward W from k x₀ last i x
  f = a.swept

  module _ (l : i < k) (t : ℕ) (e : t ≡ max now (instant_at x (W i).origin + (W i).low)) where
    -- the firing after i is not before t
    pub forth_passed : t ≤ instant_at x (i + 1) → Climbing W from k x₀ first last until (instant_at x (i + 1)) (i + 1) x
    forth_passed h =
        let next : t ≤ instant_at x (suc i) = rw (add-one i) at h in
        record {
          swept =
              record {
                after = omega (arith, f.after);
                within = omega arith;
                size = f.size;
                up = f.up;
                follows = λ j c.
                    ⊎_elim
                    (λ n. f.follows j n)
                    (λ n.
                    let q : j ≡ i = omega arith in
                    subst⁻¹ (Follows W (instant_at x)) q (omega (arith, a.here), omega arith))
                    (le_or_lt (suc j) i);
                under = f.under;
                high = omega (arith, f.high);
                kept = f.kept;
                rose = f.rose;
                small = λ j c. omega (arith, f.small j c);
              };
          ahead = a.ahead;
          here = refl;
          few = a.few;
          ordered = a.ordered;
          same = a.same;
        }

    -- the firing after i rises to t
    module _ (earlier : (j : ℕ) → j < k → (W j).origin ≤ j) (small : (W i).low < 2 ^ 32) (inside : i + 1 < length x) (less : instant_at x (i + 1) < t) where
      abbrev y : List ℕ
      y = set x (i + 1) t

      there : instant_at y (i + 1) ≡ t
      there = raised_there x (i + 1) t inside less

      there_suc : instant_at y (suc i) ≡ t
      there_suc = subst (λ (n : ℕ). instant_at y n ≡ t) (add-one i) there

      others : (j : ℕ) → (j ≡ i + 1 → ⊥) → instant_at y j ≡ instant_at x j
      others = raised_kept x (i + 1) t inside less

      up : Under (instant_at x) (instant_at y)
      up = raised_up x (i + 1) t inside less

      -- the firings up to i stay
      stays : (j : ℕ) → j ≤ i → instant_at y j ≡ instant_at x j
      stays j h = others j (λ q. omega arith)

      follows_more : (j : ℕ) → j < i + 1 → Follows W (instant_at y) j
      follows_more j h =
          let o = stays (W j).origin (omega (arith, earlier j (omega arith))) in
          ⊎_elim
          (λ c. (omega (arith, f.follows j c, stays j (omega arith), stays (suc j) c), omega (arith, f.follows j c, o, stays (suc j) c)))
          (λ c.
          let q : j ≡ i = omega arith in
          subst⁻¹ (Follows W (instant_at y)) q
          (omega (arith, there_suc, a.here, stays i (le_refl i)), omega (arith, there_suc, stays (W i).origin (earlier i l))))
          (le_or_lt (suc j) i)

      under_next : (S : ℕ → ℕ) → ((j : ℕ) → j < k → Follows W S j) → Under (instant_at x₀) S → Under (instant_at y) S
      under_next S s u =
          let v = f.under S s u in
          raised_under x (i + 1) t inside less S (rw (add-one i) (omega (arith, s i l, v i, v (W i).origin, a.here))) v

      kept_next : (j : ℕ) → (i + 1 < j) ⊎ (j ≤ from) → instant_at y j ≡ instant_at x₀ j
      kept_next j c =
          others j (λ q. ⊎_elim (λ h. omega arith) (λ h. omega (arith, f.after)) c)
          ∙ f.kept j (⊎_elim (λ h. inl (omega (arith, f.high))) (λ h. inr h) c)

      small_next : (j : ℕ) → j ≤ k → instant_at y j ≤ (64 + (i + 1)) * 2 ^ 32
      small_next j h =
          let most = (64 + (i + 1)) * 2 ^ 32 in
          let v =
          raised_under x (i + 1) t inside less (λ n. max (instant_at x n) most)
          (omega (arith, a.here, f.small i (omega arith), f.small (W i).origin (omega (arith, earlier i l)))) (λ n. omega arith) j in
          omega (arith, f.small j h)

      ahead_next : i < until → {reach : List ℕ} → Reaching W k reach → (u : ℕ) → u ≡ max until (get_or reach (i + 1) 0) → Ahead W k u y
      ahead_next n {reach} r u q =
          record {
            within = omega (arith, a.ahead.within, r.within (i + 1));
            follows = λ j h b.
                let g = a.ahead.follows j (omega arith) b in
                let o = others (W j).origin (λ p. omega (arith, r.past j b, ap (λ (n : ℕ). get_or reach n 0) p)) in
                let this = others j (λ p. omega (arith, r.past j b, ap (λ (n : ℕ). get_or reach n 0) p)) in
                let next = others (suc j) (λ p. omega arith) in
                (omega (arith, g.0), omega (arith, g.1));
          }

      pub forth_raised : i < until → {reach : List ℕ} → Reaching W k reach → (m : ℕ) → m ≡ min first i → (u : ℕ)
          → u ≡ max until (get_or reach (i + 1) 0) → Climbing W from k x₀ m (i + 1) u t (i + 1) y
      forth_raised n r m q u p =
          record {
            swept =
                record {
                  after = omega (arith, f.after);
                  within = omega arith;
                  size = length-set x (i + 1) t ∙ f.size;
                  up = λ j. le_trans (f.up j) (up j);
                  follows = follows_more;
                  under = under_next;
                  high = le_refl (i + 1);
                  kept = kept_next;
                  rose = λ h. omega (arith, f.up (i + 1), there);
                  small = small_next;
                };
            ahead = ahead_next n r u p;
            here = omega (arith, there);
            few = omega (arith, a.few);
            ordered = λ h. omega arith;
            same = λ j h. stays (suc j) (omega arith) ∙ a.same j (omega arith);
          }
