-- The parts of the card, one behind the other; the tokens that count stand in front.
use Rattle.std.proofs.Common.{arith, ◌≡◌, length, rules}
use Rattle.laws.specs.Tables.{length_mapped}
use Rattle.text.proofs.Writing.{writes_then}
use Rattle.net_card.proofs.Write.{starts_first}
use Rattle.net_card.proofs.put_lines.Goals as goal

pub returns : goal.returns
returns c = let n = c.args.net in
    let long : length n.start ≡ 16 = search (rules, length_mapped) in
    rw (← starts_first n.places n.start c.requires.0 (omega (arith, long, c.requires.0)))
    (writes_then c.put_number_line.ensures
    (writes_then c.put_number_line-2.ensures
    (writes_then c.put_number_line-3.ensures (writes_then c.put_start.ensures c.put_table.ensures))))
