-- The comma, two numbers with their dots and a number stand one behind the other.
use Rattle.text.proofs.Writing.{writes_then}
use Rattle.engine.proofs.Listing.{item_parts}
use Rattle.engine.proofs.process_text.put_item.Goals as goal

pub returns : goal.returns
returns c = let a = c.args in
    rw (← item_parts a.first a.place a.producer a.count)
    (writes_then (writes_then (writes_then c.put_comma.ensures c.put_part.ensures) c.put_part-2.ensures) c.put_number.ensures)
