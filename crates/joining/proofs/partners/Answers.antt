-- From the last pair to the first, each slot holds the partner of its place by the pairs passed (`Partnering`).
use Prim.Native.Nat.{◌+◌, ◌-◌}
use native.Mathlib.Nat.{sub-zero}
use native.Mathlib.Omega.{arith}
use mathlib.Core.Path.{◌≡◌}
use lib.ListN.{length}
use borrow.Author.Rules.{rules}
use Rattle.std.specs.Iterator.Adapters.{rev_source}
use Rattle.std.specs.Slice.Iter.{iter_rest}
use Rattle.std.proofs.lemmas.List.{length_push}
use Rattle.joining.specs.Code.{pairs_in}
use Rattle.joining.proofs.Pairing.{length_in, pair_back, pairs_end, pair_at, named_at, partnering_start, partnering_more, partnering_done}
use Rattle.joining.proofs.partners.Goals as goal

pub loop-pair-init : goal.loop-pair-init
loop-pair-init c = let pairs = c.args.pairs.now in (tt, tt, rw (sub-zero, ← length_in pairs) (partnering_start (pairs_in pairs)))

pub bounds-source-pair : goal.bounds-source-pair
bounds-source-pair c = let pairs = c.args.pairs.now in
    let all : iter_rest (rev_source c.into_iter-pair-iterator.result) ≡ pairs = search rules in
    let t = pair_back pairs c.into_iter-pair-iterator.result c.loop-pair.pair-iterator c.next.new.self all c.loop-pair.yielded c.loop-pair.yielded_by _ c.in-Some.pair c.in-Some.is c.next.ensures.steps in
    let i = length pairs - length c.loop-pair.yielded - 1 in
    (named_at (pairs_in pairs) i c.requires (omega (arith, t.0, length_in pairs)) (pair_at pairs i t.1)).0

pub loop-pair-preserved : goal.loop-pair-preserved
loop-pair-preserved c = let pairs = c.args.pairs.now in
    let all : iter_rest (rev_source c.into_iter-pair-iterator.result) ≡ pairs = search rules in
    let t = pair_back pairs c.into_iter-pair-iterator.result c.loop-pair.pair-iterator c.next.new.self all c.loop-pair.yielded c.loop-pair.yielded_by _ c.in-Some.pair c.in-Some.is c.next.ensures.steps in
    let i = length pairs - length c.loop-pair.yielded - 1 in
    let pair = pair_at pairs i t.1 in
    let next : length pairs - (length c.loop-pair.yielded + 1) ≡ i = omega arith in (
      tt,
      tt,
      rw (length_push c.loop-pair.yielded c.in-Some.pair, next)
          (partnering_more c.loop-pair.invariant.2 t.0 pair (named_at (pairs_in pairs) i c.requires (omega (arith, t.0, length_in pairs)) pair)),
    )

pub returns : goal.returns
returns c = let pairs = c.args.pairs.now in
    let all : iter_rest (rev_source c.into_iter-pair-iterator.result) ≡ pairs = search rules in
    record {
      partners =
          partnering_done c.loop-pair.invariant.2 (pairs_end pairs c.into_iter-pair-iterator.result c.loop-pair.pair-iterator c.next.new.self all c.loop-pair.yielded c.loop-pair.yielded_by _ c.in-None.is c.next.ensures.steps);
      within = c.loop-pair.invariant.2.within;
    }
