-- The lines stand one behind the other.
use Rattle.std.proofs.Common.{◌≡◌, length, arith}
use borrow.Author.Rules.{rules}
use Rattle.laws.specs.Slots.{first_take}
use Rattle.text.proofs.Writing.{writes_then}
use Rattle.run_card.proofs.OrderCard.put_lines.Goals as goal

pub returns : goal.returns
returns c = let a = c.args.self in
    let size : length a.fires ≡ 64 = search rules in
    let fires = rw (first_take c.min.result 0 a.fires (omega (arith, c.min.ensures))) at c.put_all.ensures in
    rw (← c.min.ensures)
    (writes_then c.put_number_line.ensures
    (writes_then c.put_memory_line.ensures (writes_then c.put_number_line-2.ensures fires)))
