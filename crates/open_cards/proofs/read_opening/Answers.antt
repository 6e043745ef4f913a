-- The sheet is read, and what stands behind it.
use Rattle.std.proofs.Common.{sym, ◌∙◌}
use Rattle.open_cards.proofs.Opening.{on_sheet_lem}
use Rattle.open_cards.proofs.read_opening.Goals as goal

pub returns : goal.returns
returns c = let a = c.args in
    c.opening_on_sheet.ensures ∙ on_sheet_lem a.own a.s.now (sym c.number_line.ensures ∙ c.in_ok-next.was)
