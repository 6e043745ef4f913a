-- The word or the number stands behind the key.
use Rattle.text.proofs.Writing.{writes_then}
use Rattle.net_card.proofs.put_latest_line.Goals as goal

pub returns-in-None : goal.returns-in-None
returns-in-None c = rw c.in-None.is (writes_then c.put_bytes.ensures c.put_bytes-in-None.ensures)

pub returns-in-Some : goal.returns-in-Some
returns-in-Some c = rw c.in-Some.is (writes_then c.put_bytes.ensures c.put_field.ensures)
