-- The tokens of the start and the transitions, of which the first refusal answers for both.
use Rattle.std.proofs.Common.{sym, ◌∙◌}
use Rattle.net_card.proofs.Read.{starts_found}
use Rattle.net_card.proofs.net_lines.Goals as goal

pub returns : goal.returns
returns c = let a = c.args in
    c.table_lines.ensures ∙ starts_found a.head a.s.now a.at a.head.few_places (sym c.start_lines.ensures ∙ c.in_ok-start.was)
