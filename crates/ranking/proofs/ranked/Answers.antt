-- Signs and leads are far below 2 ^ 31 and 2 ^ 63, so that casts and differences are exact.
use Prim.Native.Nat.{suc-le-suc}
use mathlib.Core.Path.{refl}
use lib.Dec.{lit<}
use mir.Syntax.{w32, w64}
use Rattle.laws.specs.Differences.{difference_fits, difference_told}
use Rattle.ranking.proofs.ranked.Goals as goal

pub overflow_sub-result : goal.overflow_sub-result
overflow_sub-result c = let e = c.sign_of-sign.ensures in difference_fits w32 {n = 2} (lit< tt) (suc-le-suc e.1) (suc-le-suc e.2)

pub overflow_sub-result-2 : goal.overflow_sub-result-2
overflow_sub-result-2 c = let p = c.requires in difference_fits w64 (lit< tt) p.0 p.1

pub returns : goal.returns
returns c = let e = c.sign_of-sign.ensures in
    let p = c.requires in
    rw (difference_told w32 {n = 2} (lit< tt) (suc-le-suc e.1) (suc-le-suc e.2), e.0, difference_told w64 (lit< tt) p.0 p.1) refl
