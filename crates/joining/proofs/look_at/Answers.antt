-- From the last pair to the first, the places that were looked at are right and marked (`Looked`); a number that is no place, or is marked, makes all wrong.
use Prim.Native.Nat.{◌+◌, ◌-◌}
use native.Mathlib.Nat.{sub-zero}
use native.Mathlib.Omega.{arith}
use mathlib.Core.Path.{◌≡◌}
use lib.ListN.{length, length-map, get_or}
use borrow.Author.Rules.{rules}
use Rattle.std.specs.Iterator.Adapters.{rev_source}
use Rattle.std.specs.Slice.Iter.{iter_rest}
use Rattle.std.proofs.lemmas.List.{length_push}
use Rattle.joining.specs.Code.{numbers_on}
use Rattle.joining.proofs.Pairing.{pair_back, pairs_end, number_at, looked_none, looked_none_such, looked_twice, looked_more, seen_right}
use Rattle.joining.proofs.look_at.Goals as goal
use Rattle.joining.proofs.look_at.Goals.{then-places-p-via-then-places-p, then-places-p-via-else-places-p+then-named-p}

pub loop-pair-init : goal.loop-pair-init
loop-pair-init c = let a = c.args in
    let ps = numbers_on a.side a.pairs.now in
    (tt, tt, rw (sub-zero, ← length-map a.pairs.now (λ pair. get_or pair a.side 0)) (looked_none a.places ps))

pub returns-then-places-p : goal.returns-then-places-p
returns-then-places-p c = let a = c.args in
    let all : iter_rest (rev_source c.into_iter-pair-iterator.result) ≡ a.pairs.now = search rules in
    let t = pair_back a.pairs.now c.into_iter-pair-iterator.result c.loop-pair.pair-iterator c.next.new.self all c.loop-pair.yielded c.loop-pair.yielded_by _ c.in-Some.pair c.in-Some.is c.next.ensures.steps in
    let place = number_at a.side a.pairs.now (length a.pairs.now - length c.loop-pair.yielded - 1) t.1 in
    elim c.then-places-p.branch [
      | then-places-p-via-then-places-p w ↦ looked_none_such c.loop-pair.invariant.2 t.0 place w.if-places-p.true
      | then-places-p-via-else-places-p+then-named-p w ↦
          looked_twice c.loop-pair.invariant.2 t.0 place c.requires.few w.if-places-p.false w.if-named-p.true
    ]

pub loop-pair-preserved : goal.loop-pair-preserved
loop-pair-preserved c = let a = c.args in
    let all : iter_rest (rev_source c.into_iter-pair-iterator.result) ≡ a.pairs.now = search rules in
    let t = pair_back a.pairs.now c.into_iter-pair-iterator.result c.loop-pair.pair-iterator c.next.new.self all c.loop-pair.yielded c.loop-pair.yielded_by _ c.in-Some.pair c.in-Some.is c.next.ensures.steps in
    let place = number_at a.side a.pairs.now (length a.pairs.now - length c.loop-pair.yielded - 1) t.1 in
    let next : length a.pairs.now - (length c.loop-pair.yielded + 1) ≡ length a.pairs.now - length c.loop-pair.yielded - 1 = omega arith in (
      tt,
      tt,
      rw (length_push c.loop-pair.yielded c.in-Some.pair, next)
          (looked_more c.loop-pair.invariant.2 t.0 place c.requires.few c.if-places-p.false c.if-named-p.false),
    )

pub returns : goal.returns
returns c = let a = c.args in
    let all : iter_rest (rev_source c.into_iter-pair-iterator.result) ≡ a.pairs.now = search rules in
    seen_right c.loop-pair.invariant.2 (pairs_end a.pairs.now c.into_iter-pair-iterator.result c.loop-pair.pair-iterator c.next.new.self all c.loop-pair.yielded c.loop-pair.yielded_by _ c.in-None.is c.next.ensures.steps)
