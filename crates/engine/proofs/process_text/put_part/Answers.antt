-- The dot stands behind the number.
use Rattle.text.proofs.Writing.{writes_then}
use Rattle.engine.proofs.process_text.put_part.Goals as goal

pub returns : goal.returns
returns c = writes_then c.put_number.ensures c.put_byte.ensures
