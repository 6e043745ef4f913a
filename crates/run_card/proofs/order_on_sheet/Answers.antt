-- The lines one behind the other; their values stand together.
use Rattle.std.proofs.Common.{sym, ◌∙◌}
use Rattle.run_card.proofs.Reading.{order_read}
use Rattle.run_card.proofs.order_on_sheet.Goals as goal

pub returns : goal.returns
returns c = let a = c.args in
    order_read a.transitions a.s.now a.at a.sheet (sym c.memory_line.ensures ∙ c.in_ok-memory.was) (sym c.number_line.ensures ∙ c.in_ok-count.was)
    (sym c.read_all.ensures ∙ c.in_ok-fires.was)
