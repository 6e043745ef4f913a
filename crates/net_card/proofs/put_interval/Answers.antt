-- One line behind the other.
use Rattle.text.proofs.Writing.{writes_then}
use Rattle.net_card.proofs.put_interval.Goals as goal

pub returns : goal.returns
returns c = writes_then c.put_number_line.ensures c.put_latest_line.ensures
