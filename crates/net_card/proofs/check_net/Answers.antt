-- The sheet and the counts are checked, and then the intervals, in the order of the card; the first refusal is the answer.
use Rattle.std.proofs.Common.{arith, sym, ◌≡◌, ◌∙◌, ◌<◌, length, rules}
use Rattle.std.proofs.lemmas.List.{get_or-take, length-take}
use Rattle.laws.specs.Tables.{length_mapped}
use Rattle.reply.proofs.Exit.{exits}
use Rattle.form.proofs.Lines.{ranged_within}
use Rattle.net.specs.Net.{no_transition}
use Rattle.net_card.proofs.Check.{InBytes, bytes_of, rows_begin, interval_fails, interval_passes_lem, all_pass}
use Rattle.net_card.proofs.check_net.Goals as goal

pub loop-t-init : goal.loop-t-init
loop-t-init c = rows_begin c.args.net

pub returns-in_err-check_interval : goal.returns-in_err-check_interval
returns-in_err-check_interval c = let n = c.args.net in
    let small : InBytes n = bytes_of n (λ i. search rules) (λ i. search rules) (λ i. search rules) in
    let here : c.loop-t.t < n.transitions = omega (arith, c.loop-t-test.true, length-take n.transitions n.table) in
    let there = get_or-take n.transitions n.table c.loop-t.t no_transition here in
    exits c.from_residual-in_err-check_interval.ensures.1
    ∙ interval_fails n small (sym c.check.ensures ∙ c.in_ok-check.was) (sym c.check-2.ensures ∙ c.in_ok-check-2.was)
    (sym c.check-3.ensures ∙ c.in_ok-check-3.was) c.loop-t.invariant here
    (sym (rw there at c.check_interval.ensures) ∙ c.in_err-check_interval.was)

pub loop-t-preserved : goal.loop-t-preserved
loop-t-preserved c = let n = c.args.net in
    let small : InBytes n = bytes_of n (λ i. search rules) (λ i. search rules) (λ i. search rules) in
    let here : c.loop-t.t < n.transitions = omega (arith, c.loop-t-test.true, length-take n.transitions n.table) in
    let there = get_or-take n.transitions n.table c.loop-t.t no_transition here in
    interval_passes_lem n small (sym c.check.ensures ∙ c.in_ok-check.was) (sym c.check-2.ensures ∙ c.in_ok-check-2.was)
    (sym c.check-3.ensures ∙ c.in_ok-check-3.was) c.loop-t.invariant here
    (sym (rw there at c.check_interval.ensures) ∙ c.in_ok-check_interval.was)

pub returns : goal.returns
returns c = let n = c.args.net in
    let small : InBytes n = bytes_of n (λ i. search rules) (λ i. search rules) (λ i. search rules) in
    let long : length n.table ≡ 32 = search (rules, length_mapped) in
    all_pass n small (sym c.check.ensures ∙ c.in_ok-check.was) (sym c.check-2.ensures ∙ c.in_ok-check-2.was)
    (sym c.check-3.ensures ∙ c.in_ok-check-3.was) c.loop-t.invariant
    (omega (arith, c.loop-t-test.false, length-take n.transitions n.table, long, ranged_within 1 32 n.transitions 3 (sym c.check-3.ensures ∙ c.in_ok-check-3.was)))
