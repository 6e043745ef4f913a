-- What `schedule` answers, for any restart rule and orders of any length: where the tokens allow the order, the earliest timing there is at any
-- denominator, or the first firing up to which there is none. The least instants in whole ticks are least at every denominator, since rounding a timing
-- down gives a timing.
use Rattle.reply.specs.Respond.{Checked, Passed}
use Rattle.std.specs.Prelude.{Err}
use Prim.Native.Nat.{ℕ, ◌+◌, ◌*◌, ◌≤◌, ◌<◌}
use native.Mathlib.Nat.{mul-le-mul_left}
use native.Mathlib.Omega.{arith}
use mathlib.Core.Path.{◌≡◌, refl, sym, ap, subst, ◌∙◌}
use mathlib.Core.Logic.{◌↔◌, ⊎_elim}
use mathlib.Core.Bool.{Bool, true, false, cond}
use mathlib.Core.List.{List, [], ◌∷◌}
use lib.ListN.{length}
use Rattle.laws.specs.Sums.{le_or_lt}
use Rattle.reply.specs.declared.Refusal.{Refusal}
use Rattle.reply.specs.declared.Refusal.TheVariants.{NotEnabled, TooManyTokens, Untimable}
use Rattle.form.specs.Form.{also}
use Rattle.net.specs.declared.Net.{Net}
use Rattle.firing.specs.Semantics.{arcs_of, Restart, transition_at, start_marking, enabled, after}
use Rattle.firing.specs.Replay.{limited}
use Rattle.firing.specs.Tokens.{tokens_judged, tokens}
use Rattle.timing.specs.Timing.{Win}
use Rattle.timing.specs.Windows.{windows, windows_of, instants, Timing, Timable}
use Rattle.timing.specs.Solve.{instant_at, Verdict, met_by, fails_at}
use Rattle.timing.specs.Claims.{Possible, LeastInstants, FirstFail, Judges, FirstUntimable}
use Rattle.timing.specs.Schedule.{verdict_of, waits_between, timed, unschedulable, scheduled_by, schedule}
use Rattle.timing.proofs.Feasible.{restrict, feasible_same}
use Rattle.timing.proofs.Solved.{least_small, possible_least, prefixes_right, judge_unique}
use Rattle.timing.proofs.Every.{least_every, first_every}
use Rattle.timing.proofs.Order.{windows_wellformed, windows_closed, windows_lows}
use Rattle.timing.proofs.Instants.{length_between, instants_list, instants_past}
use Rattle.timing.proofs.Timings.{timable_possible, ticks_exactly, prefix_possible}

not_timed : {r : Refusal} {ws : List ℕ} → unschedulable r ≡ timed ws → ⊥
not_timed e = let z : ◌≡◌ {A = ℕ} 0 1 = cc in omega arith

-- the tokens never say 8
tokens_other : (net : Net) (order m : List ℕ) (n k : ℕ) → tokens net order m n ≡ Err (Untimable k) → ⊥
unfolding tokens tokens_judged
tokens_other net [] m n k = λ e. let z : ◌≡◌ {A = ℕ} 0 1 = cc in omega arith
tokens_other net (t ∷ order) m n k = go (enabled (arcs_of net) m t) (limited (arcs_of net) m t) (tokens_other net order (after (arcs_of net) m t) (n + 1) k)
  where
    go : (a b : Bool) → (tokens net order (after (arcs_of net) m t) (n + 1) ≡ Err (Untimable k) → ⊥)
        → also (cond a (cond b Passed (Err (TooManyTokens (n + 1)))) (Err (NotEnabled (n + 1))))
        (tokens net order (after (arcs_of net) m t) (n + 1)) ≡ Err (Untimable k)
        → ⊥
    go true true ih e = ih e
    go true false ih e = let z : ◌≡◌ {A = ℕ} 0 1 = cc in omega arith
    go false b ih e = let z : ◌≡◌ {A = ℕ} 0 1 = cc in omega arith

module _ (net : Net) (restarts : Restart) (order : List ℕ) where
  -- the windows of the order, and how many
  abbrev W : ℕ → Win
  W = windows (windows_of net restarts order)

  abbrev n : ℕ
  n = length order

  pub schedule_refused : (r : Refusal) → tokens net order (start_marking net) 0 ≡ Err r → schedule net restarts order ≡ unschedulable r
  unfolding schedule
  schedule_refused r e = rw e refl

  pub schedule_passed : tokens net order (start_marking net) 0 ≡ Passed → schedule net restarts order ≡ scheduled_by (verdict_of net restarts order)
  unfolding schedule
  schedule_passed e = rw e refl

  pub verdict_right : Judges 1 W n (verdict_of net restarts order)
  unfolding verdict_of
  verdict_right = prefixes_right 1 W n (windows_wellformed net restarts order)

  -- whatever judges the windows rightly finds the same verdict
  pub verdict_unique : (v : Verdict) → Judges 1 W n v → verdict_of net restarts order ≡ v
  verdict_unique v j = judge_unique 1 W n (verdict_of net restarts order) v verdict_right j

  module _ (ws : List ℕ) (e : schedule net restarts order ≡ timed ws) where
    timed_allowed : tokens net order (start_marking net) 0 ≡ Passed
    timed_allowed = go (tokens net order (start_marking net) 0) refl
      where
        go : (c : Checked) → tokens net order (start_marking net) 0 ≡ c → c ≡ Passed
        go Passed p = refl
        go (Err r) p = absurd (not_timed (sym (schedule_refused r p) ∙ e))

    -- the waits are those between the least instants
    timed_least : (x : List ℕ) × LeastInstants 1 W n x × (waits_between x ≡ ws)
    timed_least = go (verdict_of net restarts order) verdict_right (sym (schedule_passed timed_allowed) ∙ e)
      where
        go : (v : Verdict) → Judges 1 W n v → scheduled_by v ≡ timed ws → (x : List ℕ) × LeastInstants 1 W n x × (waits_between x ≡ ws)
        go (met_by x) j p = (x, j, cc)
        go (fails_at k) j p = absurd (not_timed p)

    timed_instants : (i : ℕ) → i ≤ n → instants ws i ≡ instant_at timed_least.0 i
    timed_instants i l =
        let (x, least, same) = timed_least in
        ap (λ (l : List ℕ). instants l i) (sym same)
        ∙ instants_list x least.feasible.starts (λ k b. (least.feasible.each k (omega (arith, least.size))).ordered) i (omega (arith, least.size))

    -- the timetable is a timing in whole ticks
    pub scheduled_timing : Timing net restarts 1 order ws
    scheduled_timing =
        let (x, least, same) = timed_least in
        record {
          allowed = timed_allowed;
          complete = ap length (sym same) ∙ length_between x n least.size;
          meets = (feasible_same 1 W n (windows_wellformed net restarts order) (instants ws) (instant_at x) timed_instants).1 least.feasible;
        }

    -- in every timing at any denominator each firing is at the timetable's instant or later
    pub scheduled_earliest : (D : ℕ) → 0 < D → (vs : List ℕ) → Timing net restarts D order vs → (i : ℕ) → i ≤ length order → D * instants ws i ≤ instants vs i
    scheduled_earliest D d vs t i l =
        let (x, least, same) = timed_least in
        rw (timed_instants i l) (least_every W n (windows_closed net restarts order) x least D d (instants vs) t.meets i)

    -- no instant i is over K·i where no lower bound is over K
    pub scheduled_early : (K : ℕ) → ((t : ℕ) → t < (arcs_of net).transitions → (transition_at net t).earliest ≤ K) → (i : ℕ) → instants ws i ≤ K * i
    scheduled_early K h i = ⊎_elim (λ l. within i l) (λ l. later l) (le_or_lt i n)
      where
        within : (j : ℕ) → j ≤ n → instants ws j ≤ K * j
        within j l =
            let (x, least, same) = timed_least in
            rw (timed_instants j l) (least_small 1 W n (windows_wellformed net restarts order) K (windows_lows net restarts order timed_allowed K h) x least j)

        later : n < i → instants ws i ≤ K * i
        later l =
            let size = scheduled_timing.complete in
            let past : n ≤ i = omega arith in
            omega (arith, instants_past ws i (omega arith), ap (instants ws) size, within n (omega arith), mul-le-mul_left K past)

  module _ (e : tokens net order (start_marking net) 0 ≡ Passed) where
    -- of an order that the tokens allow there is a timetable exactly when there is a timing at some denominator
    pub scheduled_exactly : ((ws : List ℕ) × (schedule net restarts order ≡ timed ws)) ↔ ((D : ℕ) × (0 < D) × Timable net restarts D order)
    scheduled_exactly = (
      λ p. (1, omega arith, (p.0, scheduled_timing p.0 p.1)),
      λ p. go ((timable_possible net restarts order 1 e).0 ((ticks_exactly net restarts order p.0 p.1).1 p.2)) (verdict_of net restarts order)
          refl verdict_right,
    )
      where
        go : Possible 1 W n → (v : Verdict) → verdict_of net restarts order ≡ v → Judges 1 W n v → (ws : List ℕ) × (schedule net restarts order ≡ timed ws)
        go p (met_by x) q j = (waits_between x, schedule_passed e ∙ ap scheduled_by q)
        go p (fails_at k) q j = absurd (j.fails_at_lem p.0 (restrict k j.reached p.1))

    first_untimable : (k : ℕ) → FirstFail 1 W n k → FirstUntimable net restarts order k
    first_untimable k f =
        record {
          reached = f.reached;
          untimable = λ D d waits t.
              let p = (prefix_possible net restarts order e k f.reached D).0 (waits, t) in
              first_every W n (windows_closed net restarts order) k f D d p.0 p.1;
          timable = λ j l.
              let (x, least) = f.met j l in
              (prefix_possible net restarts order e j (omega (arith, f.reached)) 1).1 (instant_at x, least.feasible);
        }

    first_fail : (k : ℕ) → FirstUntimable net restarts order k → FirstFail 1 W n k
    first_fail k f =
        record {
          reached = f.reached;
          fails_at_lem = λ S p. let t = (prefix_possible net restarts order e k f.reached 1).1 (S, p) in f.untimable 1 (omega arith) t.0 t.1;
          met = λ j l.
              possible_least W j (λ i b. windows_wellformed net restarts order i (omega (arith, f.reached)))
              ((prefix_possible net restarts order e j (omega (arith, f.reached)) 1).0 (f.timable j l));
        }

    -- the order is refused as untimable at k exactly when k is the first firing up to which there is no timing
    pub untimable_exactly : (k : ℕ) → (schedule net restarts order ≡ unschedulable (Untimable k)) ↔ FirstUntimable net restarts order k
    untimable_exactly k = (
      λ p. go (verdict_of net restarts order) verdict_right (sym (schedule_passed e) ∙ p),
      λ f. schedule_passed e ∙ ap scheduled_by (verdict_unique (fails_at k) (first_fail k f)),
    )
      where
        go : (v : Verdict) → Judges 1 W n v → scheduled_by v ≡ unschedulable (Untimable k) → FirstUntimable net restarts order k
        go (met_by x) j p = absurd (not_timed (sym p))
        go (fails_at m) j p = let q : m ≡ k = cc in first_untimable k (subst (FirstFail 1 W n) q j)

    -- and at some k exactly when there is no timing at all
    pub untimable_none : ((k : ℕ) × (schedule net restarts order ≡ unschedulable (Untimable k))) ↔ ((D : ℕ) → 0 < D → Timable net restarts D order → ⊥)
    untimable_none = (
      λ p D d t. not_timed (sym p.1 ∙ (scheduled_exactly.1 (D, d, t)).1),
      λ h. go h (verdict_of net restarts order) refl,
    )
      where
        go : ((D : ℕ) → 0 < D → Timable net restarts D order → ⊥) → (v : Verdict) → verdict_of net restarts order ≡ v
            → (k : ℕ) × (schedule net restarts order ≡ unschedulable (Untimable k))
        go h (met_by x) q = absurd (h 1 (omega arith) (waits_between x, scheduled_timing (waits_between x) (schedule_passed e ∙ ap scheduled_by q)))
        go h (fails_at k) q = (k, schedule_passed e ∙ ap scheduled_by q)

  -- so it is refused as untimable at k exactly when the tokens allow it and k is that firing
  pub untimable_allowed : (k : ℕ) → (schedule net restarts order ≡ unschedulable (Untimable k))
      ↔ ((tokens net order (start_marking net) 0 ≡ Passed) × FirstUntimable net restarts order k)
  untimable_allowed k = (
    λ p. let e = go (tokens net order (start_marking net) 0) refl p in (e, (untimable_exactly e k).0 p),
    λ p. (untimable_exactly p.0 k).1 p.1,
  )
    where
      go : (c : Checked) → tokens net order (start_marking net) 0 ≡ c → schedule net restarts order ≡ unschedulable (Untimable k) → c ≡ Passed
      go Passed q p = refl
      go (Err r) q p =
          let same : unschedulable r ≡ unschedulable (Untimable k) = sym (schedule_refused r q) ∙ p in
          absurd (tokens_other net order (start_marking net) 0 k (cc))
