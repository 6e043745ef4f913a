-- The loop keeps the state of the reader (`RowsRead`) of all slots; a refused line answers for all, and at the end the arrays hold what was read.
use Rattle.std.proofs.Common.{arith, sym, ◌≡◌, ◌+◌, ◌<◌, ◌∙◌, length}
use Rattle.std.specs.Prelude.{◌-◌, replicate}
use Rattle.std.proofs.lemmas.List.{take-replicate, drop-replicate, length-take-le, replicate-append-replicate, set-append_left}
use Rattle.reply.proofs.Exit.{exits}
use Rattle.net.specs.Net.{no_transition}
use Rattle.net_card.proofs.Read.{rows_start, interval_stopped, weights_stopped, rows_more, rows_done}
use Rattle.net_card.proofs.table_lines.Goals as goal

pub loop-t-init : goal.loop-t-init
loop-t-init c = let a = c.args in let n = a.head.transitions in
    let all : n + (32 - n) ≡ 32 = omega (arith, a.head.few_transitions) in
    rw (take-replicate n 32 no_transition a.head.few_transitions, replicate-append-replicate n (32 - n) no_transition, all)
    (rows_start a.head.places n a.s.now a.at a.head.few_transitions)

pub returns-in_err-interval : goal.returns-in_err-interval
returns-in_err-interval c = let a = c.args in
    let here : c.loop-t.t < a.head.transitions =
    omega (arith, c.loop-t-test.true, length-take-le a.head.transitions (replicate 32 no_transition) a.head.few_transitions) in
    exits c.from_residual.ensures.1
    ∙ interval_stopped a.head a.start c.loop-t.invariant here (sym c.interval_lines.ensures ∙ c.in_err-interval.was)

pub returns-in_err-next : goal.returns-in_err-next
returns-in_err-next c = let a = c.args in let w = c.weight_lines in
    let here : c.loop-t.t < a.head.transitions =
    omega (arith, c.loop-t-test.true, length-take-le a.head.transitions (replicate 32 no_transition) a.head.few_transitions) in
    exits c.from_residual-in_err-next.ensures.1
    ∙ weights_stopped a.head a.start c.loop-t.invariant here (sym c.interval_lines.ensures ∙ c.in_ok-interval.was)
    w.result w.new.take w.new.give w.ensures c.in_err-next.was

pub loop-t-preserved : goal.loop-t-preserved
loop-t-preserved c = let a = c.args in let w = c.weight_lines in
    let here : c.loop-t.t < a.head.transitions =
    omega (arith, c.loop-t-test.true, length-take-le a.head.transitions (replicate 32 no_transition) a.head.few_transitions) in
    let inside : c.loop-t.t < length c.loop-t.slot-items = omega (arith, c.loop-t-test.true, c.loop-t.auto.slot-items) in
    rw (set-append_left c.loop-t.slot-items (replicate (32 - a.head.transitions) no_transition) c.loop-t.t c.in_ok-interval.interval inside)
    at (rows_more a.head a.start c.loop-t.invariant here (sym c.interval_lines.ensures ∙ c.in_ok-interval.was) w.result w.new.take w.new.give
    w.ensures a.head.few_places c.in_ok-next.was)

pub returns : goal.returns
returns c = let a = c.args in
    rw (drop-replicate a.head.transitions 32 no_transition)
    (rows_done a.head a.start c.loop-t.invariant
    (omega (arith, c.loop-t-test.false, length-take-le a.head.transitions (replicate 32 no_transition) a.head.few_transitions)))
