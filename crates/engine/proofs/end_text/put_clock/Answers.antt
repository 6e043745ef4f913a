-- The clock stands behind its key, or the word for none.
use Rattle.text.proofs.Writing.{writes_then}
use Rattle.engine.proofs.end_text.put_clock.Goals as goal

pub returns-in-Some : goal.returns-in-Some
returns-in-Some c = rw c.in-Some.is (writes_then c.put_bytes.ensures c.put_field.ensures)

pub returns-in-None : goal.returns-in-None
returns-in-None c = rw c.in-None.is (writes_then c.put_bytes.ensures c.put_bytes-in-None.ensures)
