-- The lines one behind the other; their values stand together.
use Rattle.std.proofs.Common.{sym, ◌∙◌}
use Rattle.reply.proofs.Exit.{exits}
use Rattle.run_card.proofs.Reading.{rest_stopped, run_read}
use Rattle.run_card.proofs.run_on_sheet.Goals as goal

pub returns-in_err-rest : goal.returns-in_err-rest
returns-in_err-rest c = let a = c.args in
    exits c.from_residual-in_err-rest.ensures.1
    ∙ rest_stopped a.transitions a.s.now a.at a.sheet (sym c.memory_line.ensures ∙ c.in_ok-memory.was)
    (sym c.number_line.ensures ∙ c.in_ok-denominator.was) (sym c.number_line-2.ensures ∙ c.in_ok-count.was)
    (sym c.read_all.ensures ∙ c.in_ok-firings.was) (sym c.number_line-3.ensures ∙ c.in_err-rest.was)

pub returns : goal.returns
returns c = let a = c.args in
    run_read a.transitions a.s.now a.at a.sheet (sym c.memory_line.ensures ∙ c.in_ok-memory.was) (sym c.number_line.ensures ∙ c.in_ok-denominator.was)
    (sym c.number_line-2.ensures ∙ c.in_ok-count.was) (sym c.read_all.ensures ∙ c.in_ok-firings.was) (sym c.number_line-3.ensures ∙ c.in_ok-rest.was)
