-- Each slot behind the count is looked at.
use Rattle.std.proofs.Common.{◌≡◌, length, ◌∙◌, rules}
use borrow.Author.Tests.{tests}
use Rattle.std.proofs.lemmas.Iterator.{YieldsList-from_slice}
use Rattle.std.proofs.lemmas.Iterator.Adapters.{YieldsList-from_skip}
use Rattle.std.proofs.lemmas.Iterator.Search.{all_from_yields_List}
use Rattle.laws.specs.Tables.{length_mapped}
use Rattle.open_run.specs.Open.{blank}
use Rattle.entering.proofs.Slots.{blank_scanned}
use Rattle.entering.proofs.is_blank_behind.Goals as goal

pub returns : goal.returns
returns c = let q = c.args.run in
    let long : length c.args.run.firings ≡ 64 = search (rules, length_mapped) in
    all_from_yields_List blank _ _ c.all.result c.all.ensures.ran (YieldsList-from_skip q.count (YieldsList-from_slice q.firings cc) cc)
    (λ x b r called. search (rules, tests))
    ∙ blank_scanned q long
