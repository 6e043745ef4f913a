-- The lines are written one after another.
use Prim.Native.Nat.{ℕ, ◌<◌}
use native.Mathlib.Omega.{arith}
use mathlib.Core.Path.{◌≡◌, refl}
use mathlib.Core.Bool.{Bool, true, false, cond}
use Rattle.std.specs.Bool.{then_some}
use Rattle.text.specs.Key.{bytes}
use Rattle.text.specs.Decimal.{field}
use Rattle.engine.specs.Clocks.{clock_value}
use lib.ListN.{length}
use borrow.Author.Rules.{rules}
use Rattle.text.proofs.Writing.{first_none, first_more, first_all}
use Rattle.std.specs.Iterator.Adapters.{zip_first, zip_second}
use Rattle.std.specs.Slice.Iter.{iter_rest}
use Rattle.std.proofs.lemmas.List.{length_push}
use Rattle.std.proofs.lemmas.Slice.Zip.{zip_turn, zip_end}
use Rattle.engine.proofs.end_text.put_clocks.Goals as goal

value_if : (on : Bool) (n : ℕ) → clock_value (then_some on n) ≡ cond on (field n true) (bytes "off\n")
value_if true n = refl
value_if false n = refl

pub loop-on-init : goal.loop-on-init
loop-on-init c = first_none c.args.w.now refl

pub loop-on-preserved : goal.loop-on-preserved
loop-on-preserved c = let a = c.args in
    let first : iter_rest (zip_first c.into_iter-on-iterator.result) ≡ a.flags.now = search rules in
    let second : iter_rest (zip_second c.into_iter-on-iterator.result) ≡ a.since.now = search rules in
    let t = zip_turn _ _ _ _ _ c.next.new.self _ first second c.loop-on.yielded_by _ c.in-Some.is c.next.ensures.steps in
    let here : length c.loop-on.yielded < length a.flags.now = omega (arith, t.0) in
    rw (length_push c.loop-on.yielded (c.in-Some.on, c.in-Some.from))
    (first_more c.loop-on.invariant here (rw (c.then_some.ensures, value_if _ _, c.saturating_sub.ensures, t.2 false, t.3 0) at c.put_clock.ensures))

pub returns : goal.returns
returns c = let a = c.args in
    let first : iter_rest (zip_first c.into_iter-on-iterator.result) ≡ a.flags.now = search rules in
    let second : iter_rest (zip_second c.into_iter-on-iterator.result) ≡ a.since.now = search rules in
    let e = zip_end _ _ _ _ _ c.next.new.self _ first second c.loop-on.yielded_by c.in-None.is c.next.ensures.steps in
    first_all c.loop-on.invariant (omega (arith, e, c.requires))
