-- Nets that agree in all that counts make the same of every step and call: their checks, their replays and their cards are the same.
use Rattle.std.specs.Prelude.{Err}
use Prim.Native.Nat.{ℕ, suc, ◌+◌}
use mathlib.Core.Path.{◌≡◌, refl, ap, ◌∙◌}
use mathlib.Core.Bool.{Bool, cond, ◌&&◌}
use lib.ListN.{length}
use lib.Dec.{eqb}
use Rattle.reply.specs.declared.Refusal.TheVariants.{ClosedRun}
use Rattle.reply.specs.Respond.{answer, written_if, Checked, Passed}
use Rattle.form.specs.Form.{Form, also}
use Rattle.form.specs.Line.{ranged, listed}
use Rattle.net.specs.declared.Net.{Net}
use Rattle.net.specs.Same.{SameNet}
use Rattle.run.specs.declared.Run.{Run}
use Rattle.run.specs.declared.Order.{Order}
use Rattle.run.specs.Run.{run_card}
use Rattle.run.specs.Same.{SameRun, SameOrder}
use Rattle.firing.specs.declared.Played.{Played}
use Rattle.cards.specs.Cards.{card_of, run_checked}
use Rattle.cards.proofs.Cards.{same_card}
use Rattle.operations.specs.Operation.{once_checked}
use Rattle.operations.specs.Replay.{replayed, replay_of}
use Rattle.operations.specs.Timetable.{timetable_of}
use Rattle.operations.specs.Outcomes.{replaying}
use Rattle.operations.proofs.Same.{replays_same, run_checks_same, work_same, timetable_same}
use Rattle.open_run.specs.declared.OpenRun.{OpenRun}
use Rattle.open_run.specs.Open.{passes, blank_behind, is_open, still, with_run, wait_added, fire_added, wait_checked, fire_checked, entering}
use Rattle.open_run.specs.Open.{wait_of, fire_of, close_of, state_of, order_so_far, timetable_now}
use Rattle.open_run.specs.Cards.{card_after}

run_itself : (q : Run) → SameRun q q
run_itself q = record { sheet = refl; memory = refl; denominator = refl; count = refl; firings = λ i h. refl; rest = refl }

order_itself : (o : Order) → SameOrder o o
order_itself o = record { sheet = refl; memory = refl; count = refl; fires = λ i h. refl }

module _ {a b : Net} (s : SameNet a b) where
  replayed_same : (q : Run) → replayed a q ≡ replayed b q
  replayed_same q = ap (λ (p : Played). p.checked) (replays_same s (run_itself q))

  text_same : (q : Run) → (card_of run_card a).text q ≡ (card_of run_card b).text q
  text_same q = ap (λ (f : Form Run). f.text q) (same_card run_card s)

  module _ (q : Run) (running : Bool) where
    abbrev x : OpenRun
    x = record { net = a; run = q; running = running }

    abbrev y : OpenRun
    y = record { net = b; run = q; running = running }

    pub same_open : is_open x ≡ is_open y
    unfolding is_open
    same_open =
        ap (λ (c : Checked). running && (passes c && (passes (replayed a q) && (eqb (length q.firings) 64 && blank_behind q)))) (run_checks_same s (run_itself q))
        ∙ ap (λ (c : Checked). running && (passes (run_checked b q) && (passes c && (eqb (length q.firings) 64 && blank_behind q)))) (replayed_same q)

    pub same_still : still x ≡ still y
    same_still = ap (λ (t : Bool). cond t Passed (Err ClosedRun)) same_open

    pub same_wait : (w : ℕ) → wait_checked x w ≡ wait_checked y w
    same_wait w = ap (λ (c : Checked). also c (ranged 0 10000000 (q.rest + w) (suc q.count))) same_still

    pub same_fire : (t : ℕ) → fire_checked x t ≡ fire_checked y t
    same_fire t =
        let few = ranged 0 63 q.count (suc q.count) in
        ap (λ (c : Checked). also c (also few (also (listed a.transitions t (suc q.count)) (replayed a (fire_added q t))))) same_still
        ∙ ap (λ (n : ℕ). also (still y) (also few (also (listed n t (suc q.count)) (replayed a (fire_added q t))))) s.transitions
        ∙ ap (λ (c : Checked). also (still y) (also few (also (listed b.transitions t (suc q.count)) c))) (replayed_same (fire_added q t))

    pub same_close : (w : ℕ) → close_of x w ≡ close_of y w
    same_close w =
        ap (λ (c : Checked). written_if c ((card_of run_card a).text (wait_added q w))) (same_wait w)
        ∙ ap (written_if (wait_checked y w)) (text_same (wait_added q w))

    pub same_state : state_of x ≡ state_of y
    same_state =
        ap (λ (c : Checked). once_checked c (replay_of a q)) same_still ∙ ap (once_checked (still y)) (work_same s (run_itself q) replaying)

    pub same_timetable : timetable_now x ≡ timetable_now y
    same_timetable =
        ap (λ (c : Checked). once_checked c (timetable_of a (order_so_far q))) same_still
        ∙ ap (once_checked (still y)) (timetable_same s (order_itself (order_so_far q)))

    -- the card behind a step
    after_same : (p : Run) (c : Checked) → card_after (entering c x (with_run x p)) ≡ card_after (entering c y (with_run y p))
    after_same p Passed = ap answer (text_same p)
    after_same p (Err e) = refl

    pub same_wait_card : (w : ℕ) → card_after (wait_of x w) ≡ card_after (wait_of y w)
    same_wait_card w =
        ap (λ (c : Checked). card_after (entering c x (with_run x (wait_added q w)))) (same_wait w) ∙ after_same (wait_added q w) (wait_checked y w)

    pub same_fire_card : (t : ℕ) → card_after (fire_of x t) ≡ card_after (fire_of y t)
    same_fire_card t =
        ap (λ (c : Checked). card_after (entering c x (with_run x (fire_added q t)))) (same_fire t) ∙ after_same (fire_added q t) (fire_checked y t)
