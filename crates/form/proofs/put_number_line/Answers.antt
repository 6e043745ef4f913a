-- The number stands behind the key.
use Rattle.text.proofs.Writing.{writes_then}
use Rattle.form.proofs.put_number_line.Goals as goal

pub returns : goal.returns
returns c = writes_then c.put_bytes.ensures c.put_field.ensures
