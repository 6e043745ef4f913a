-- The lines of each transition are written one after another.
use Rattle.std.proofs.Common.{arith, ◌≡◌, ◌<◌, length, rules}
use Rattle.std.proofs.lemmas.List.{get_or-take, length-take}
use Rattle.laws.specs.Tables.{length_mapped}
use Rattle.text.proofs.Writing.{first_none, first_more, first_all}
use Rattle.net.specs.Net.{no_transition, rows_of}
use Rattle.net_card.proofs.Tables.{take_gathered, give_gathered}
use Rattle.net_card.proofs.Write.{rows_joined, row_written, few_first}
use Rattle.net_card.proofs.put_table.Goals as goal

pub loop-t-init : goal.loop-t-init
loop-t-init c = let n = c.args.net in
    first_none c.args.w.now (rows_joined n.places n.transitions (rows_of n) c.requires.1)

pub loop-t-preserved : goal.loop-t-preserved
loop-t-preserved c =
    let n = c.args.net in
    let here : c.loop-t.t < n.transitions = omega (arith, c.loop-t-test.true, length-take n.transitions n.table) in
    let there = get_or-take n.transitions n.table c.loop-t.t no_transition here in
    let take = take_gathered n c.loop-t.t (rw (c.taken.ensures.first, c.taken.ensures.step) at c.row_of-take.ensures) in
    let give = give_gathered n c.loop-t.t (rw (c.given.ensures.first, c.given.ensures.step) at c.row_of-give.ensures) in
    let first = few_first n.places c.row_of-take.result (omega (arith, c.requires.0)) (omega arith) in
    let second = few_first n.places c.row_of-give.result (omega (arith, c.requires.0)) (omega arith) in
    first_more c.loop-t.invariant here
    (row_written n c.loop-t.t _ _ _ (omega (arith, here, c.requires.1)) take give (rw there at c.put_interval.ensures)
    (rw (first, second) at c.put_weights.ensures))

pub returns : goal.returns
returns c = let n = c.args.net in
    let long : length n.table ≡ 32 = search (rules, length_mapped) in
    first_all c.loop-t.invariant (omega (arith, c.loop-t-test.false, length-take n.transitions n.table, long, c.requires.1))
