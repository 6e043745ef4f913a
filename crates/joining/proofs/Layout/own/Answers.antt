-- Each place of the array is its own number (`own_laid`).
use Rattle.std.specs.Prelude.{None}
use borrow.Author.Rules.{rules}
use Rattle.joining.proofs.Layouts.{own_laid}
use Rattle.joining.proofs.Layout.own.Goals as goal

pub returns : goal.returns
returns c =
    own_laid c.args.places c.requires c.from_fn.result c.from_fn.ensures.items.long
    (λ p h. let called = c.from_fn.ensures.items.at p None h in search rules)
