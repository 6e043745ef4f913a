-- Each slot holds the transition that fires, and all of them are the order.
use Rattle.std.proofs.Common.{◌≡◌, refl, length, rules, arith}
use Rattle.laws.specs.Tables.{length_mapped}
use Rattle.steps.proofs.Calls.{made_at}
use Rattle.entering.proofs.Slots.{fire_in, fires_order}
use Rattle.entering.proofs.order_so_far.Goals as goal

pub returns : goal.returns
returns c =
    let q = c.args.run in
    let long : length c.args.run.firings ≡ 64 = search (rules, length_mapped) in
    let made = c.from_fn.ensures.items in
    rw (fires_order q long c.from_fn.result made.long
    (λ k l. made_at _ (fire_in q) _ (λ u y r called. search rules) c.from_fn.result 64 0 made.each k 0 (omega arith) (omega arith))) refl
