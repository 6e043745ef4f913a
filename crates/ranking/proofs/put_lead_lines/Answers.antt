-- One line behind the other.
use Rattle.text.proofs.Writing.{writes_then}
use Rattle.ranking.proofs.put_lead_lines.Goals as goal

pub returns : goal.returns
returns c = writes_then (rw c.sign_of.ensures.0 at c.put_lead_line.ensures) c.put_lead_line-2.ensures
