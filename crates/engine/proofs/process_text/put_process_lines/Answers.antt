-- The loop keeps the state of the process (`Processing`), and the last two lines are those of the definition.
use Prim.Native.Nat.{◌<◌, ◌≤◌, ◌*◌, ◌-◌}
use native.Mathlib.Omega.{arith}
use mathlib.Core.Path.{◌≡◌, ◌∙◌}
use mathlib.Core.List.{[]}
use lib.ListN.{length, get_or, take, drop}
use lib.Seq.{take_all}
use borrow.Author.Rules.{rules}
use Rattle.laws.specs.Tables.{length_mapped}
use Rattle.run.specs.Run.{no_firing}
use Rattle.std.proofs.lemmas.List.{get_or-take, length-take, length-take-le, length-drop}
use Rattle.engine.proofs.Processes.{clip, processing_start, fire_listed, weights_there, left_level, processing_more, all_passed, end_all, processing_done}
use Rattle.engine.proofs.process_text.put_process_lines.Goals as goal

pub loop-i-init : goal.loop-i-init
loop-i-init c =
    let places = c.min-places.result in
    let queues = c.from_fn-slots.result in
    let clipped = clip c.args.net.now c.args.run c.min-places.ensures c.min-count.ensures in
    let few : places ≤ length queues = omega (arith, c.min-places.ensures, c.from_fn-slots.ensures.items.long) in
    processing_start clipped (length-take-le places queues few)
    (λ p b. let inside : p < 16 = omega (arith, c.min-places.ensures) in
    let called = c.from_fn-slots.ensures.items.at p [] inside in
    get_or-take places queues p [] b ∙ search rules)
    c.give.ensures c.args.w.now

pub put_event-requires-clause-listed : goal.put_event-requires-clause-listed
put_event-requires-clause-listed c =
    fire_listed (clip c.args.net.now c.args.run c.min-places.ensures c.min-count.ensures) c.requires c.loop-i-test.true

pub slice_bounds-give-count : goal.slice_bounds-give-count
slice_bounds-give-count c =
    let long : length c.args.net.now.give ≡ 512 = search (rules, length_mapped) in
    omega (
      arith,
      weights_there (clip c.args.net.now c.args.run c.min-places.ensures c.min-count.ensures) c.requires c.loop-i-test.true long,
    )

pub slice_bounds-give-start : goal.slice_bounds-give-start
slice_bounds-give-start c =
    let long : length c.args.net.now.give ≡ 512 = search (rules, length_mapped) in
    omega (
      arith,
      weights_there (clip c.args.net.now c.args.run c.min-places.ensures c.min-count.ensures) c.requires c.loop-i-test.true long,
    )

pub give-requires-in-loop-i-clause-weighed : goal.give-requires-in-loop-i-clause-weighed
give-requires-in-loop-i-clause-weighed c = let weights = c.args.net.now.give in
    let t = (get_or (take c.min-count.result c.args.run.firings) c.loop-i.i no_firing).fire in
    let long : length weights ≡ 512 = search (rules, length_mapped) in
    let there = weights_there (clip c.args.net.now c.args.run c.min-places.ensures c.min-count.ensures) c.requires c.loop-i-test.true long in
    let size : length c.put_event.new.queues ≡ c.min-places.result = c.put_event.ensures.0.size ∙ c.loop-i.invariant.size in
    omega (arith, length-drop (16 * t) weights, there, size)

pub give-requires-in-loop-i-clause-room : goal.give-requires-in-loop-i-clause-room
give-requires-in-loop-i-clause-room c =
    let clipped = clip c.args.net.now c.args.run c.min-places.ensures c.min-count.ensures in
    let took = c.put_event.ensures.0 in
    λ p b. omega (
      arith,
      left_level clipped c.requires c.loop-i-test.true c.loop-i.invariant took p (omega (arith, b, took.size, c.loop-i.invariant.size)),
      length-take c.min-count.result c.args.run.firings,
      clipped.brief,
    )

pub loop-i-preserved : goal.loop-i-preserved
loop-i-preserved c = let weights = c.args.net.now.give in
    let long : length weights ≡ 512 = search (rules, length_mapped) in
    let t = (get_or (take c.min-count.result c.args.run.firings) c.loop-i.i no_firing).fire in
    processing_more (clip c.args.net.now c.args.run c.min-places.ensures c.min-count.ensures) c.requires c.loop-i-test.true c.loop-i.invariant
    c.put_event.ensures.0
    (rw (take_all (512 - 16 * t) (drop (16 * t) weights) (omega (arith, long, length-drop (16 * t) weights))) at c.give-in-loop-i.ensures)
    c.put_event.ensures.1

pub put_left-requires-clause-small : goal.put_left-requires-clause-small
put_left-requires-clause-small c =
    let places = c.min-places.result in
    let queues = c.from_fn-slots.result in
    let clipped = clip c.args.net.now c.args.run c.min-places.ensures c.min-count.ensures in
    let long : length c.args.run.firings ≡ 64 = search (rules, length_mapped) in
    let few : places ≤ length queues = omega (arith, c.min-places.ensures, c.from_fn-slots.ensures.items.long) in
    λ p b. end_all clipped c.loop-i.invariant (all_passed clipped long c.loop-i-test.false) c.requires
    (λ q l. c.give.ensures.small q (omega (arith, l, length-take-le places queues few)))
    p (omega (arith, b, c.loop-i.invariant.size))

pub returns : goal.returns
returns c =
    let clipped = clip c.args.net.now c.args.run c.min-places.ensures c.min-count.ensures in
    let long : length c.args.run.firings ≡ 64 = search (rules, length_mapped) in
    processing_done clipped c.loop-i.invariant (all_passed clipped long c.loop-i-test.false) c.put_left.ensures c.put_free.ensures
