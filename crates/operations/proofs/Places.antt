-- Every refusal of an operation has a small place: what was read has at most 147 lines and 64 firings.
use Rattle.std.specs.Prelude.{Err}
use Prim.Native.Nat.{ℕ, ◌+◌, ◌≤◌, ◌<◌}
use native.Mathlib.Omega.{arith}
use mathlib.Core.Path.{◌≡◌, refl, ap}
use mathlib.Core.Logic.{inl, inr}
use mathlib.Core.List.{List}
use lib.ListN.{length}
use Rattle.reply.specs.declared.Refusal.{Refusal}
use Rattle.reply.specs.Refusal.{number_of, position_of}
use Rattle.reply.specs.Respond.{Outcome, refusal, Passed}
use Rattle.form.specs.Form.{Found, found, refused}
use Rattle.form.specs.Inverse.{Among}
use Rattle.net.specs.declared.Net.{Net}
use Rattle.run.specs.declared.Run.{Run}
use Rattle.run.specs.declared.Order.{Order}
use Rattle.run.specs.Run.{fires_of}
use Rattle.firing.specs.Semantics.{arcs_of, Restart, Timed, rule_of}
use Rattle.firing.specs.Replay.{replay}
use Rattle.firing.specs.Claims.{Because}
use Rattle.firing.proofs.Accept.{refused_first}
use Rattle.firing.proofs.Places as firing
use Rattle.timing.specs.Schedule.{schedule}
use Rattle.timing.proofs.Places.{schedule_placed}
use Rattle.timing.proofs.Rounded.{fires_few}
use Rattle.cards.specs.Cards.{run_checked, run_cards, order_cards}
use Rattle.cards.proofs.Cards.{run_counts, run_cards_passed}
use Rattle.cards.proofs.Places.{run_cards_placed, order_cards_placed}
use Rattle.operations.specs.Operation.{once_read}
use Rattle.operations.specs.Timetable.{timetable_by, timetable_cards}
use Rattle.operations.specs.Outcomes.{OnRun, work_of, cards_of}
use Rattle.operations.proofs.Answers.{work_refused, schedule_refusal}

-- an operation on cards refuses what it cannot read, and otherwise what its own work refuses
pub once_refused : {A : Type 0} {P : Type 0} {r : Refusal} (f : Found A) (o : A → Outcome) → (f ≡ refused r → P)
    → ((a : A) (next : ℕ) → f ≡ found a next → o a ≡ refusal r → P) → once_read f o ≡ refusal r → P
once_refused (found a next) o first then e = then a next refl e
once_refused (refused q) o first then e = first (cc)

-- a place, from 1 on
abbrev pub Place : Refusal → Type 0
Place r = (0 < position_of r) × (position_of r ≤ 147)

-- a replay refuses as 5, 6 or 7
pub because_number : (net : Net) (D : ℕ) (r : Refusal) (n : ℕ) (S : Timed) (t : ℕ) → Because net D r n S t → number_of r ≤ 7
because_number net D r n S t (inl b) = omega (arith, ap number_of b.0)
because_number net D r n S t (inr (inl b)) = omega (arith, ap number_of b.0)
because_number net D r n S t (inr (inr b)) = omega (arith, ap number_of b.0)

pub replay_number : (net : Net) (restarts : Restart) (run : Run) (r : Refusal) → (replay net restarts run).checked ≡ Err r → number_of r ≤ 7
replay_number net restarts run r e =
    let f = refused_first net restarts run r e in
    because_number net run.denominator r (0 + length f.front + 1) f.there f.refused.fire f.because

pub work_placed : (what : OnRun) (net : Net) (run : Run) (r : Refusal) → run_checked net run ≡ Passed → work_of what net run ≡ refusal r → Place r
work_placed what net run r p e =
    let h = firing.replay_place net (rule_of (arcs_of net) run.memory) run r ((work_refused net run what r).0 e) in
    (h.0, omega (arith, (run_counts net run p).2))

pub schedule_refused : (net : Net) (restarts : Restart) (o : Order) (r : Refusal) → timetable_by net restarts o ≡ refusal r → Place r
schedule_refused net restarts o r e =
    let h = schedule_placed net restarts (fires_of o) r ((schedule_refusal net o (schedule net restarts (fires_of o)) r).0 e) in
    (h.0, omega (arith, fires_few o))

-- a refusal of cards names one of their lines
pub line_place : {r : Refusal} → Among 1 147 r → Place r
line_place h = (h.from, omega (arith, h.below))

pub cards_placed : (what : OnRun) (s : List ℕ) (r : Refusal) → cards_of what s ≡ refusal r → Place r
cards_placed what s r =
    once_refused (run_cards s) _ (λ e. line_place (run_cards_placed s e)) (λ v next e q. work_placed what v.0 v.1 r (run_cards_passed s e) q)

pub timetable_placed : (s : List ℕ) (r : Refusal) → timetable_cards s ≡ refusal r → Place r
timetable_placed s r =
    once_refused (order_cards s) _ (λ e. line_place (order_cards_placed s e))
    (λ v next e q. schedule_refused v.0 (rule_of (arcs_of v.0) v.1.memory) v.1 r q)
