-- The loop keeps the state of the reader (`Reading`) of all slots; a refused line answers for all, and at the end the array holds what was read.
use Rattle.std.proofs.Common.{ℕ, arith, sym, ap, ◌≡◌, ◌+◌, ◌<◌, ◌∙◌, ◌++◌, length}
use Rattle.std.specs.Prelude.{◌-◌, replicate}
use Rattle.std.proofs.lemmas.List.{take-replicate, drop-replicate, length-take-le, replicate-append-replicate, set-append_left}
use Rattle.reply.proofs.Exit.{exits}
use Rattle.net_card.proofs.Read.{start_begins, start_stopped, start_small, start_more, start_done}
use Rattle.net_card.proofs.start_lines.Goals as goal

pub loop-i-init : goal.loop-i-init
loop-i-init c = let a = c.args in
    let all : a.head.places + (16 - a.head.places) ≡ 16 = omega (arith, c.args.head.few_places) in
    start_begins a.head.places a.s.now a.at c.args.head.few_places
    (ap (λ l. l ++ replicate (16 - a.head.places) 0) (take-replicate a.head.places 16 0 c.args.head.few_places)
    ∙ replicate-append-replicate a.head.places (16 - a.head.places) 0 ∙ ap (λ n. replicate n 0) all)

pub returns-in_err-tokens : goal.returns-in_err-tokens
returns-in_err-tokens c =
    let here : c.loop-i.i < c.args.head.places = omega (arith, c.loop-i-test.true, length-take-le {A = ℕ} c.args.head.places (replicate 16 0) c.args.head.few_places) in
    exits c.from_residual.ensures.1 ∙ start_stopped c.loop-i.invariant here (sym c.number_line.ensures ∙ c.in_err-tokens.was)

pub overflow_cast-slot : goal.overflow_cast-slot
overflow_cast-slot c =
    let here : c.loop-i.i < c.args.head.places = omega (arith, c.loop-i-test.true, length-take-le {A = ℕ} c.args.head.places (replicate 16 0) c.args.head.few_places) in
    record { fits = omega (arith, start_small c.loop-i.invariant here (sym c.number_line.ensures ∙ c.in_ok-tokens.was)) }

pub loop-i-preserved : goal.loop-i-preserved
loop-i-preserved c =
    let here : c.loop-i.i < c.args.head.places = omega (arith, c.loop-i-test.true, length-take-le {A = ℕ} c.args.head.places (replicate 16 0) c.args.head.few_places) in
    let inside : c.loop-i.i < length c.loop-i.slot-items = omega (arith, c.loop-i-test.true, c.loop-i.auto.slot-items) in
    rw (set-append_left c.loop-i.slot-items (replicate (16 - c.args.head.places) 0) c.loop-i.i c.in_ok-tokens.tokens inside)
    at (start_more c.loop-i.invariant here (sym c.number_line.ensures ∙ c.in_ok-tokens.was))

pub returns : goal.returns
returns c = let a = c.args in
    rw (drop-replicate {X = ℕ} a.head.places 16 0)
    (start_done c.loop-i.invariant (omega (arith, c.loop-i-test.false, length-take-le {A = ℕ} a.head.places (replicate 16 0) c.args.head.few_places)))
