-- The lines stand one behind the other.
use Rattle.std.proofs.Common.{◌≡◌, length, arith}
use borrow.Author.Rules.{rules}
use Rattle.laws.specs.Slots.{first_take}
use Rattle.run.specs.Run.{no_firing}
use Rattle.text.proofs.Writing.{writes_then}
use Rattle.run_card.proofs.RunCard.put_lines.Goals as goal

pub returns : goal.returns
returns c = let a = c.args.self in
    let size : length a.firings ≡ 64 = search rules in
    let firings = rw (first_take c.min.result no_firing a.firings (omega (arith, c.min.ensures))) at c.put_all.ensures in
    rw (← c.min.ensures)
    (writes_then c.put_number_line.ensures
    (writes_then c.put_memory_line.ensures
    (writes_then c.put_number_line-2.ensures
    (writes_then c.put_number_line-3.ensures (writes_then firings c.put_number_line-4.ensures)))))
