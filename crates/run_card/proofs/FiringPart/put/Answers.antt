-- One line behind the other.
use Rattle.text.proofs.Writing.{writes_then}
use Rattle.run_card.proofs.FiringPart.put.Goals as goal

pub returns : goal.returns
returns c = writes_then c.put_number_line.ensures c.put_number_line-2.ensures
