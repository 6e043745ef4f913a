-- The list stands behind the key.
use Rattle.text.proofs.Writing.{writes_then}
use Rattle.form.proofs.put_items_line.Goals as goal

pub returns : goal.returns
returns c = writes_then c.put_bytes.ensures c.put_items.ensures
