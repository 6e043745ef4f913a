-- Timings of whole orders: a run is accepted exactly when its waits are a timing of its order; a timing in whole ticks exists exactly when one in parts
-- does; and the rounded waits of a timing are a timing in whole ticks. For any restart rule and orders of any length.
use Rattle.reply.specs.Respond.{Passed}
use Prim.Native.Nat.{ℕ, suc, ◌/◌, ◌≤◌, ◌<◌}
use mathlib.Core.Path.{◌≡◌, ap, sym, subst, subst⁻¹, ◌∙◌}
use mathlib.Core.Logic.{◌↔◌}
use mathlib.Core.List.{List}
use lib.ListN.{length, take}
use lib.Seq.{length-take-le, get_or-take}
use Rattle.laws.specs.Tables.{tabled, length_tabled}
use Rattle.net.specs.declared.Net.{Net}
use Rattle.run.specs.declared.Firing.{Firing}
use Rattle.firing.specs.Semantics.{Restart, start_marking}
use Rattle.firing.specs.Replay.{start_state, play}
use Rattle.run.specs.Run.{order_of, waits_of}
use Rattle.firing.specs.Tokens.{tokens}
use Rattle.timing.specs.Timing.{Feasible}
use Rattle.timing.specs.Windows.{win_of, no_window, windows, windows_from, windows_of, instants, Timing, Timable}
use Rattle.timing.specs.Claims.{Possible}
use Rattle.timing.specs.Schedule.{waits_between, rounded_waits}
use Rattle.timing.proofs.Meet.{length_order, length_waits, accepted_windows}
use Rattle.timing.proofs.Feasible.{feasible_windows, feasible_same}
use Rattle.timing.proofs.Scale.{round}
use Rattle.timing.proofs.Every.{closed_iff}
use Rattle.timing.proofs.Order.{windows_wellformed, windows_closed, windows_prefix, tokens_prefix}
use Rattle.timing.proofs.Instants.{length_between, instants_between, length_rounded, rounded_instants}

-- a run is accepted exactly when its waits are a timing of its order
pub run_timing : (net : Net) (restarts : Restart) (D : ℕ) (fs : List Firing)
    → ((play net restarts D fs (start_state net) 0).checked ≡ Passed) ↔ Timing net restarts D (order_of fs) (waits_of fs)
run_timing net restarts D fs =
    let W = windows (windows_of net restarts (order_of fs)) in
    let n = length_order fs in
    let accepted = accepted_windows net restarts D fs in (
      λ e.
          let h = accepted.0 e in
          record {
            allowed = h.0;
            complete = length_waits fs ∙ sym n;
            meets = subst⁻¹ (λ (k : ℕ). Feasible D W k (instants (waits_of fs))) n h.1;
          },
      λ t. accepted.1 (t.allowed, subst (λ (k : ℕ). Feasible D W k (instants (waits_of fs))) n t.meets),
    )

module _ (net : Net) (restarts : Restart) (order : List ℕ) where
  -- an order that the tokens allow has a timing exactly when some instants meet its windows
  pub timable_possible : (D : ℕ) → tokens net order (start_marking net) 0 ≡ Passed
      → Timable net restarts D order ↔ Possible D (windows (windows_of net restarts order)) (length order)
  timable_possible D e =
      let n = length order in
      let W = windows (windows_of net restarts order) in (
        λ p. (instants p.0, p.1.meets),
        λ p.
            let S = p.0 in
            let f = p.1 in
            let x = tabled S 0 (suc n) in
            let same = instants_between S n f.starts (λ i l. (f.each i l).ordered) in (
              waits_between x,
              record {
                allowed = e;
                complete = length_between x n (length_tabled S 0 (suc n));
                meets = (feasible_same D W n (windows_wellformed net restarts order) (instants (waits_between x)) S same).1 f;
              },
            ),
      )

  module _ (D : ℕ) (d : 0 < D) where
    -- Demand 3: a timing in whole ticks exists exactly when one in parts of a tick at denominator D does, whether or not the tokens allow the order
    pub ticks_exactly : Timable net restarts 1 order ↔ Timable net restarts D order
    ticks_exactly =
        let between = closed_iff (windows (windows_of net restarts order)) (length order) (windows_closed net restarts order) D d in (
          λ p. let e = p.1.allowed in (timable_possible D e).1 (between.0 ((timable_possible 1 e).0 p)),
          λ p. let e = p.1.allowed in (timable_possible 1 e).1 (between.1 ((timable_possible D e).0 p)),
        )

    -- the rounded waits of a timing are a timing in whole ticks
    pub rounded_timing : (waits : List ℕ) → Timing net restarts D order waits → Timing net restarts 1 order (rounded_waits D waits)
    rounded_timing waits t =
        let W = windows (windows_of net restarts order) in
        record {
          allowed = t.allowed;
          complete = length_rounded D waits ∙ t.complete;
          meets =
              (feasible_same 1 W (length order) (windows_wellformed net restarts order) (instants (rounded_waits D waits)) (λ i. instants waits i / D)
              (λ i l. rounded_instants D d waits i)).1
              (round D d (windows_closed net restarts order) t.meets);
        }

-- the first k firings have a timing exactly when some instants meet the first k windows
module _ (net : Net) (restarts : Restart) (order : List ℕ) (e : tokens net order (start_marking net) 0 ≡ Passed) (k : ℕ) (l : k ≤ length order) where
  prefix_window : (i : ℕ) → i < k → windows (windows_of net restarts (take k order)) i ≡ windows (windows_of net restarts order) i
  unfolding windows_of
  prefix_window i b =
      rw (windows_prefix net restarts k order (start_state net)) (ap win_of (get_or-take k (windows_from net restarts order (start_state net)) i no_window b))

  pub prefix_possible : (D : ℕ) → Timable net restarts D (take k order) ↔ Possible D (windows (windows_of net restarts order)) k
  prefix_possible D =
      let W = windows (windows_of net restarts order) in
      let U = windows (windows_of net restarts (take k order)) in
      let size = length-take-le k order l in
      let part = timable_possible net restarts (take k order) D (tokens_prefix net k order (start_marking net) 0 e) in (
        λ p. let q = part.0 p in (q.0, feasible_windows D k prefix_window (subst (λ (m : ℕ). Feasible D U m q.0) size q.1)),
        λ p. part.1 (p.0, subst⁻¹ (λ (m : ℕ). Feasible D U m p.0) size (feasible_windows D k (λ i b. sym (prefix_window i b)) p.1)),
      )
