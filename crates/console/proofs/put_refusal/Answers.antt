-- One line behind the other.
use Rattle.text.proofs.Writing.{writes_then}
use Rattle.console.proofs.put_refusal.Goals as goal

pub returns : goal.returns
returns c = rw (← c.position-place.ensures, ← c.number-number.ensures) (writes_then c.put_number_line.ensures c.put_number_line-2.ensures)
