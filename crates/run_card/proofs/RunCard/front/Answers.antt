-- The sheet is read, and what stands behind it.
use Rattle.std.proofs.Common.{sym, ◌∙◌}
use Rattle.run.specs.Run.{to_run, from_run, run_lines}
use Rattle.run_card.proofs.Reading.{behind_sheet}
use Rattle.run_card.proofs.RunCard.front.Goals as goal

pub returns : goal.returns
returns c = let a = c.args in
    c.run_on_sheet.ensures ∙ behind_sheet to_run from_run (run_lines a.transitions) a.own a.s.now (sym c.number_line.ensures ∙ c.in_ok-sheet.was)
