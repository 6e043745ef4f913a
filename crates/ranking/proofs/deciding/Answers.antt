-- The loop counts both runs side by side (`Abreast`); the first products that differ decide, or those of the ends.
use Prim.Native.Nat.{◌≤◌}
use native.Mathlib.Omega.{arith}
use mathlib.Core.Path.{◌≡◌}
use lib.ListN.{length, take, length-take}
use borrow.Author.Rules.{rules}
use Rattle.std.specs.Iterator.Adapters.{zip_first, zip_second}
use Rattle.std.specs.Slice.Iter.{iter_rest}
use Rattle.std.proofs.lemmas.List.{length_push}
use Rattle.std.proofs.lemmas.Slice.Zip.{zip_turn, zip_end}
use Rattle.laws.specs.Tables.{length_mapped}
use Rattle.ranking.proofs.Crossing.{abreast_start, crossed_turn, abreast_turn, crossed_end}
use Rattle.ranking.proofs.deciding.Goals as goal

pub loop-a-init : goal.loop-a-init
loop-a-init c = abreast_start c.args.x c.args.y c.requires

pub returns-then-px-py : goal.returns-then-px-py
returns-then-px-py c = let a = c.args in
    let first : iter_rest (zip_first c.into_iter-a-iterator.result) ≡ take a.x.count a.x.firings = search rules in
    let second : iter_rest (zip_second c.into_iter-a-iterator.result) ≡ take a.y.count a.y.firings = search rules in
    let t = zip_turn _ _ _ _ _ c.next.new.self _ first second c.loop-a.yielded_by _ c.in-Some.is c.next.ensures.steps in
    crossed_turn a.x a.y c.requires c.loop-a.invariant t c.if-px-py.true

pub loop-a-preserved : goal.loop-a-preserved
loop-a-preserved c = let a = c.args in
    let first : iter_rest (zip_first c.into_iter-a-iterator.result) ≡ take a.x.count a.x.firings = search rules in
    let second : iter_rest (zip_second c.into_iter-a-iterator.result) ≡ take a.y.count a.y.firings = search rules in
    let t = zip_turn _ _ _ _ _ c.next.new.self _ first second c.loop-a.yielded_by _ c.in-Some.is c.next.ensures.steps in
    rw (length_push c.loop-a.yielded (c.in-Some.a, c.in-Some.b)) (abreast_turn a.x a.y c.requires c.loop-a.invariant t c.if-px-py.false)

pub returns : goal.returns
returns c = let a = c.args in
    let first : iter_rest (zip_first c.into_iter-a-iterator.result) ≡ take a.x.count a.x.firings = search rules in
    let second : iter_rest (zip_second c.into_iter-a-iterator.result) ≡ take a.y.count a.y.firings = search rules in
    let e = zip_end _ _ _ _ _ c.next.new.self _ first second c.loop-a.yielded_by c.in-None.is c.next.ensures.steps in
    let long : length a.x.firings ≡ 64 = search (rules, length_mapped) in
    let other : length a.y.firings ≡ 64 = search (rules, length_mapped) in
    let done : a.x.count ≤ length c.loop-a.yielded =
    omega (arith, e, length-take a.x.count a.x.firings, length-take a.y.count a.y.firings, c.requires.2, c.loop-a.invariant.brief) in
    crossed_end a.x a.y c.requires c.loop-a.invariant done
