-- Each pair names places of both nets, and is looked at alone.
use Prim.Native.Nat.{◌<◌}
use mathlib.Core.Path.{◌≡◌, ◌∙◌}
use mathlib.Core.List.{[]}
use lib.ListN.{get_or}
use borrow.Author.Rules.{rules}
use Rattle.std.specs.Prelude.{IsTrue, EachIndex, ◌↔◌}
use Rattle.std.proofs.lemmas.List.{get_or_default}
use Rattle.std.proofs.lemmas.Iterator.{YieldsList-from_slice}
use Rattle.std.proofs.lemmas.Iterator.Adapters.{serves_from_places}
use Rattle.joining.proofs.Pairing.{pair_named, StartsAt, starts_told}
use Rattle.joining.proofs.equal_starts.Goals as goal

pub all-requires-clause-callable : goal.all-requires-clause-callable
all-requires-clause-callable c = let pairs = c.args.pairs.now in
    serves_from_places (YieldsList-from_slice pairs c.iter.ensures.rest) (λ x q h. search rules)
    (λ x k l e.
    let is : x.now ≡ get_or pairs k [] = e ∙ get_or_default pairs k x.now [] l in
    let first : get_or x.now 0 0 < 16 = rw is (pair_named pairs k c.requires l).0 in
    let second : get_or x.now 1 0 < 16 = rw is (pair_named pairs k c.requires l).1 in
    search rules)

pub returns : goal.returns
returns c = let a = c.args in
    let told : IsTrue c.all.result ↔ EachIndex a.pairs.now (StartsAt a.start.now a.other.now a.pairs.now) = search rules in
    starts_told a.start.now a.other.now a.pairs.now c.all.result told
