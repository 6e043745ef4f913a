-- Two runs compared: their firings in pairs; and what their checks and replays say.
use Prim.Native.Nat.{ℕ, ◌≤◌}
use native.Mathlib.Nat.{min-eq_left}
use native.Mathlib.Omega.{arith}
use mathlib.Core.Path.{◌≡◌, refl, sym, ap, ◌∙◌}
use mathlib.Core.Bool.{Bool, false, cond, ◌&&◌}
use mathlib.Core.List.{List, [], ◌∷◌}
use lib.Dec.{eqb}
use lib.ListN.{length, take}
use Rattle.laws.specs.Slots.{first_of, first_take}
use Rattle.std.specs.List.{list_all, zip}
use Rattle.std.specs.Prelude.{Err}
use Rattle.reply.specs.declared.Refusal.{Refusal}
use Rattle.reply.specs.declared.Refusal.TheVariants.{OtherOrder}
use Rattle.reply.specs.Respond.{Passed}
use Rattle.ranking.specs.Lead.{of_one_order}
use Rattle.ranking.specs.Ranking.{rankable}
use Rattle.laws.specs.Tests.{same_numbers, not_same}
use Rattle.form.specs.Form.{also}
use Rattle.form.proofs.Found.{also_also}
use Rattle.net.specs.declared.Net.{Net}
use Rattle.net.specs.Net.{net_card}
use Rattle.run.specs.declared.Firing.{Firing}
use Rattle.run.specs.declared.Run.{Run}
use Rattle.run.specs.Run.{run_card, no_firing, firings_of, order_of}
use Rattle.firing.specs.declared.Played.{Played}
use Rattle.firing.specs.Semantics.{arcs_of, rule_of}
use Rattle.firing.specs.Replay.{start_state, play}
use Rattle.firing.proofs.Accept.{replay_plays}
use Rattle.run.proofs.Firings.{length_firings}
use Rattle.timing.proofs.Meet.{length_order}
use Rattle.cards.specs.Cards.{card_of, run_checked, two_runs_checked}
use Rattle.operations.specs.Replay.{replayed}
use Rattle.ranking.proofs.Ranks.{order_length}

-- ---- the order of firings
-- as many firings are of one order exactly where each pair has one transition
pub orders_same : (k l : List Firing) → length k ≡ length l → list_all (λ p. eqb p.0.fire p.1.fire) (zip k l) ≡ same_numbers (order_of k) (order_of l)
unfolding same_numbers order_of
orders_same [] [] e = refl
orders_same [] (g ∷ l) e = absurd (omega (arith, e))
orders_same (f ∷ k) [] e = absurd (omega (arith, e))
orders_same (f ∷ k) (g ∷ l) e = ap (λ (b : Bool). eqb f.fire g.fire && b) (orders_same k l (omega (arith, e)))

-- the slots that count
pub counted : (r : Run) → r.count ≤ 64 → length r.firings ≡ 64 → take r.count r.firings ≡ firings_of r
unfolding firings_of
counted r few all = first_take r.count no_firing r.firings (omega (arith, all)) ∙ ap (λ (n : ℕ). first_of n no_firing r.firings) (sym (min-eq_left few))

-- runs of other counts are of other orders
pub other_count : (x y : Run) → x.count ≤ 64 → y.count ≤ 64 → (x.count ≡ y.count → ⊥) → same_numbers (order_of (firings_of x)) (order_of (firings_of y)) ≡ false
other_count x y p q other =
    let size : (r : Run) → r.count ≤ 64 → length (firings_of r) ≡ r.count = λ r l. length_firings r ∙ min-eq_left l in
    not_same (order_of (firings_of x)) (order_of (firings_of y))
    (λ e. other (sym (size x p) ∙ order_length x (order_of (firings_of y)) e ∙ length_order (firings_of y) ∙ size y q))

-- ---- checks one after the other
-- two runs of a net are checked as the first is, then the second
pub two_runs_lem : (net : Net) (x y : Run) → two_runs_checked net x y ≡ also (run_checked net x) ((card_of run_card net).check y 1)
two_runs_lem net x y = also_also (net_card.check net 1) ((card_of run_card net).check x 1) ((card_of run_card net).check y 1)

-- a replay says what its firings say
pub replay_says : (net : Net) (r : Run) {p : Played}
    → p ≡ play net (rule_of (arcs_of net) r.memory) r.denominator (firings_of r) (start_state net) 0 → replayed net r ≡ p.checked
replay_says net r e = replay_plays net (rule_of (arcs_of net) r.memory) r ∙ ap (λ (q : Played). q.checked) (sym e)

-- ---- why two runs are not ranked
module _ (net : Net) (x y : Run) where
  pub x_stops : {r : Refusal} → replayed net x ≡ Err r → Err r ≡ rankable net x y
  x_stops e = rw e refl

  module _ (p : replayed net x ≡ Passed) where
    pub y_stops : {r : Refusal} → replayed net y ≡ Err r → Err r ≡ rankable net x y
    y_stops e = rw (p, e) refl

    -- both pass: the orders decide
    pub one_order_lem : {b : Bool} → replayed net y ≡ Passed → of_one_order x y ≡ b → cond b Passed (Err OtherOrder) ≡ rankable net x y
    one_order_lem q e = rw (p, q, e) refl
