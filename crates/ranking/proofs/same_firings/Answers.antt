-- Other counts are other orders; as many firings are of one order exactly where each pair has one transition.
use Rattle.std.proofs.Common.{◌≡◌, ◌∙◌, sym, ap, length, take, min, rules}
use borrow.Author.Tests.{tests, ne_eqb}
use lib.Dec.{eqb}
use Rattle.laws.specs.Tables.{length_mapped}
use Rattle.std.proofs.lemmas.Iterator.{YieldsList-from_slice, YieldsList-from_zip}
use Rattle.std.proofs.lemmas.Iterator.Search.{all_from_yields_List}
use Rattle.run.specs.Run.{firings_of}
use Rattle.run.proofs.Firings.{length_firings}
use Rattle.ranking.proofs.Comparing.{orders_same, counted, other_count}
use Rattle.ranking.proofs.same_firings.Goals as goal

pub returns-then-x-y : goal.returns-then-x-y
returns-then-x-y c = let a = c.args in
    let first : length a.x.firings ≡ 64 = search (rules, length_mapped) in
    let second : length a.y.firings ≡ 64 = search (rules, length_mapped) in
    let long : length (firings_of a.x) ≡ length (firings_of a.y) = length_firings a.x ∙ ap (λ n. min n 64) c.if-x-y.true ∙ sym (length_firings a.y) in
    all_from_yields_List (λ p. eqb p.0.fire p.1.fire) c.all.new.self _ c.all.result c.all.ensures.ran
    (YieldsList-from_zip (YieldsList-from_slice (take a.x.count a.x.firings) (search rules)) (YieldsList-from_slice (take a.y.count a.y.firings) (search rules)))
    (λ x b r called. search (rules, tests))
    ∙ rw (counted a.x c.requires.0 first, counted a.y c.requires.1 second) (orders_same (firings_of a.x) (firings_of a.y) long)

pub returns-else-x-y : goal.returns-else-x-y
returns-else-x-y c = let a = c.args in
    ne_eqb _ _ c.if-x-y.false ∙ sym (other_count a.x a.y c.requires.0 c.requires.1 c.if-x-y.false)
