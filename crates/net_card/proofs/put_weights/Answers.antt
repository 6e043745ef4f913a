-- One line behind the other.
use Rattle.text.proofs.Writing.{writes_then}
use Rattle.net_card.proofs.put_weights.Goals as goal

pub returns : goal.returns
returns c = writes_then c.put_items_line.ensures c.put_items_line-2.ensures
