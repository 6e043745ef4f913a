-- The firing's line, the key and the items stand one behind the other.
use Rattle.text.proofs.Writing.{writes_then}
use Rattle.engine.proofs.process_text.put_event.Goals as goal

pub returns : goal.returns
returns c = (c.put_taken.ensures.0, writes_then (writes_then c.put_number_line.ensures c.put_bytes.ensures) c.put_taken.ensures.1)
