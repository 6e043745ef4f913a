-- The rows of the first net and behind them those of the second, each at its places.
use Rattle.std.proofs.Common.{arith, rules, ◌≡◌, ◌≤◌, length}
use Rattle.std.proofs.lemmas.List.{length-take-le}
use Rattle.laws.specs.Slots.{first_take}
use Rattle.laws.specs.Tables.{length_mapped}
use Rattle.joining.proofs.Adding.{none_held, joined_by_lem}
use Rattle.joining.proofs.joined.Goals as goal

pub own-requires : goal.own-requires
own-requires c = omega (arith, c.requires.places, c.sources-places.ensures.few)

pub returns : goal.returns
returns c = let a = c.args in let first = a.a.now in
    let long : length first.start ≡ 16 = search (rules, length_mapped) in
    let few : first.places ≤ length first.start = omega (arith, c.requires.places, c.sources-places.ensures.few, long) in
    rw c.sources-places.ensures.places
    (joined_by_lem first a.b.now a.at.now none_held c.own.ensures c.add.ensures c.add-2.ensures
    (rw (length-take-le first.places first.start few, first_take first.places 0 first.start few) at c.joined_start.ensures))
