-- A refusal of an order names one of its firings: 5 and 6 the firing that the tokens forbid, and 8 the last firing of the shortest part that has no timing.
use Rattle.reply.specs.Respond.{Checked, Passed}
use Rattle.std.specs.Prelude.{Err}
use Prim.Native.Nat.{ℕ, zero, suc, ◌+◌, ◌≤◌, ◌<◌}
use native.Mathlib.Nat.{not-suc-le-zero}
use native.Mathlib.Omega.{arith}
use mathlib.Core.Path.{◌≡◌, refl, sym, ap, ◌∙◌}
use mathlib.Core.Bool.{Bool, true, false, cond}
use mathlib.Core.List.{List, [], ◌∷◌}
use lib.ListN.{length}
use Rattle.reply.specs.declared.Refusal.{Refusal}
use Rattle.reply.specs.declared.Refusal.TheVariants.{NotEnabled, TooManyTokens, Untimable}
use Rattle.reply.specs.Refusal.{number_of, position_of}
use Rattle.form.specs.Form.{also}
use Rattle.net.specs.declared.Net.{Net}
use Rattle.firing.specs.Semantics.{arcs_of, Restart, start_marking, enabled, after}
use Rattle.firing.specs.Replay.{limited}
use Rattle.firing.specs.Tokens.{tokens_judged, tokens}
use Rattle.timing.specs.Solve.{Verdict, met_by, fails_at}
use Rattle.timing.specs.Windows.{instants, Timing}
use Rattle.timing.specs.Claims.{FirstUntimable}
use Rattle.timing.specs.Schedule.{verdict_of, unschedulable, scheduled_by, schedule}
use Rattle.timing.proofs.Scheduled.{schedule_refused, schedule_passed, untimable_exactly}

-- firing n at the earliest, and one of the next k; 5, 6 or 8
abbrev pub NamesFiring : ℕ → ℕ → Refusal → Type 0
NamesFiring n k r = (n < position_of r) × (position_of r ≤ n + k) × (number_of r ≤ 8)

-- n firings have been
tokens_placed : (net : Net) (order m : List ℕ) (n : ℕ) (r : Refusal) → tokens net order m n ≡ Err r → NamesFiring n (length order) r
unfolding tokens tokens_judged
tokens_placed net [] m n r = λ e. let z : ◌≡◌ {A = ℕ} 0 1 = cc in absurd (omega arith)
tokens_placed net (t ∷ order) m n r = go (enabled (arcs_of net) m t) (limited (arcs_of net) m t) (tokens_placed net order (after (arcs_of net) m t) (n + 1) r)
  where
    own : position_of r ≡ n + 1 → number_of r ≤ 8 → NamesFiring n (suc (length order)) r
    own e few = (omega arith, omega arith, few)

    go : (a b : Bool) → (tokens net order (after (arcs_of net) m t) (n + 1) ≡ Err r → NamesFiring (n + 1) (length order) r)
        → also (cond a (cond b Passed (Err (TooManyTokens (n + 1)))) (Err (NotEnabled (n + 1))))
        (tokens net order (after (arcs_of net) m t) (n + 1)) ≡ Err r
        → NamesFiring n (suc (length order)) r
    go true true ih e = let h = ih e in (omega arith, omega arith, h.2)
    go true false ih e = let same : r ≡ TooManyTokens (n + 1) = cc in own (ap position_of same) (omega (arith, ap number_of same))
    go false b ih e = let same : r ≡ NotEnabled (n + 1) = cc in own (ap position_of same) (omega (arith, ap number_of same))

-- an order without firings has the empty timing
no_firings : (net : Net) (restarts : Restart) → Timing net restarts 1 [] []
unfolding tokens instants
no_firings net restarts = record { allowed = refl; complete = refl; meets = record { starts = refl; each = λ i l. absurd (not-suc-le-zero l) } }

module _ (net : Net) (restarts : Restart) (order : List ℕ) (r : Refusal) where
  first_above : (k : ℕ) → FirstUntimable net restarts order k → 0 < k
  first_above zero first = absurd (first.untimable 1 (omega arith) [] (no_firings net restarts))
  first_above (suc k) first = omega arith

  pub schedule_placed : schedule net restarts order ≡ unschedulable r → NamesFiring 0 (length order) r
  schedule_placed = go (tokens net order (start_marking net) 0) refl
    where
      timed : tokens net order (start_marking net) 0 ≡ Passed → (v : Verdict) → verdict_of net restarts order ≡ v → scheduled_by v ≡ unschedulable r
          → NamesFiring 0 (length order) r
      timed p (met_by x) q e = let z : ◌≡◌ {A = ℕ} 0 1 = cc in absurd (omega arith)
      timed p (fails_at k) q e =
          let same : r ≡ Untimable k = cc in
          let place = ap position_of same in
          let first = (untimable_exactly net restarts order p k).0 (schedule_passed net restarts order p ∙ ap scheduled_by q) in
          (omega (arith, first_above k first), omega (arith, first.reached), omega (arith, ap number_of same))

      go : (c : Checked) → tokens net order (start_marking net) 0 ≡ c → schedule net restarts order ≡ unschedulable r → NamesFiring 0 (length order) r
      go Passed p e = timed p (verdict_of net restarts order) refl (sym (schedule_passed net restarts order p) ∙ e)
      go (Err q) p e =
          let told : unschedulable q ≡ unschedulable r = sym (schedule_refused net restarts order q p) ∙ e in
          let same : q ≡ r = cc in
          tokens_placed net order (start_marking net) 0 r (p ∙ ap Err same)
