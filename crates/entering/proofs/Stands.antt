-- Where a record stands, from what the code finds of its parts.
use Rattle.reply.specs.Respond.{Checked, Passed}
use Rattle.std.specs.Prelude.{Result, Ok, Err, is_err}
use Prim.Native.Nat.{ℕ}
use native.Mathlib.Omega.{arith}
use mathlib.Core.Path.{◌≡◌, refl, sym, ap, ◌∙◌}
use mathlib.Core.Bool.{Bool, true, false}
use lib.ListN.{length}
use Rattle.reply.specs.declared.Refusal.{Refusal}
use Rattle.reply.specs.declared.Refusal.TheVariants.{ClosedRun}
use Rattle.run.specs.Run.{firings_of}
use Rattle.cards.specs.Cards.{run_checked}
use Rattle.firing.specs.declared.State.{State}
use Rattle.firing.specs.declared.Played.{Played}
use Rattle.firing.specs.Semantics.{arcs_of, rule_of}
use Rattle.firing.specs.Replay.{start_state, waited, play, replay}
use Rattle.firing.proofs.Accept.{replay_plays}
use Rattle.operations.specs.Replay.{replayed}
use Rattle.engine.proofs.Operations.{at_rest}
use Rattle.open_run.specs.declared.OpenRun.{OpenRun}
use Rattle.open_run.specs.Open.{blank_behind, is_open}
use Rattle.open_run.proofs.Opened.{Parts, open_parts, open_still, closed_still}
use Rattle.entering.specs.Code.{Stands}

-- ---- what a check said that has no refusal
pub has_passed : {c : Checked} → false ≡ is_err c → c ≡ Passed
has_passed {c = Passed} e = refl
has_passed {c = Err r} e = let z : ◌≡◌ {A = ℕ} 0 1 = cc in absurd (omega arith)

refused_passed : true ≡ is_err Passed → ⊥
refused_passed e = let z : ◌≡◌ {A = ℕ} 0 1 = cc in omega arith

-- ---- where a record stands
ok_value : {a b : State} → ◌≡◌ {A = Result State Refusal} (Ok a) (Ok b) → a ≡ b
ok_value e = cc

module _ (r : OpenRun) where
  -- a record with a part that fails is closed
  stands_closed : (Parts r → ⊥) → Stands r (Err ClosedRun)
  stands_closed fails = go (is_open r) refl
    where
      go : (b : Bool) → is_open r ≡ b → Stands r (Err ClosedRun)
      go true o = absurd (fails ((open_parts r).0 o))
      go false o = record { refused = λ e. closed_still r o ∙ cc; there = λ is. let z : ◌≡◌ {A = ℕ} 0 1 = cc in absurd (omega arith) }

  pub not_running : r.running ≡ false → Stands r (Err ClosedRun)
  not_running e = stands_closed (λ p. let z : ◌≡◌ {A = ℕ} 0 1 = cc in omega arith)

  pub not_a_card : {c : Checked} → c ≡ run_checked r.net r.run → true ≡ is_err c → Stands r (Err ClosedRun)
  not_a_card is e = stands_closed (λ p. refused_passed (e ∙ ap is_err (is ∙ p.checked)))

  pub not_blank : blank_behind r.run ≡ false → Stands r (Err ClosedRun)
  not_blank e = stands_closed (λ p. let z : ◌≡◌ {A = ℕ} 0 1 = cc in omega arith)

  -- p is what the firings of its run came to
  module _ {p : Played} (is : p ≡ play r.net (rule_of (arcs_of r.net) r.run.memory) r.run.denominator (firings_of r.run)
      (start_state r.net) 0) where
    replay_says : replayed r.net r.run ≡ p.checked
    replay_says = replay_plays r.net (rule_of (arcs_of r.net) r.run.memory) r.run ∙ ap (λ (x : Played). x.checked) (sym is)

    pub not_accepted : true ≡ is_err p.checked → Stands r (Err ClosedRun)
    not_accepted e = stands_closed (λ k. refused_passed (e ∙ ap is_err (sym replay_says ∙ k.accepted)))

    ends_at : (replay r.net (rule_of (arcs_of r.net) r.run.memory) r.run).state ≡ at_rest r.net r.run is
    unfolding replay waited
    ends_at = ap (λ (x : Played). waited x.state r.run.rest) (sym is)

    pub stands_there : r.running ≡ true → run_checked r.net r.run ≡ Passed → p.checked ≡ Passed → length r.run.firings ≡ 64
        → blank_behind r.run ≡ true → Stands r (Ok (at_rest r.net r.run is))
    stands_there running checked passed slots blank =
        let o = (open_parts r).1 (record { running = running; checked = checked; accepted = replay_says ∙ passed; slots = slots; blank = blank }) in
        record { refused = λ e. let z : ◌≡◌ {A = ℕ} 0 1 = cc in absurd (omega arith); there = λ e. (open_still r o, sym (ok_value e) ∙ sym ends_at) }
