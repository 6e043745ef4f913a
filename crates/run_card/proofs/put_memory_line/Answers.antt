-- The word stands behind the key.
use Rattle.text.proofs.Writing.{writes_then}
use Rattle.run_card.proofs.put_memory_line.Goals as goal

pub returns-in-Intermediate : goal.returns-in-Intermediate
returns-in-Intermediate c = rw c.in-Intermediate.is (writes_then c.put_bytes.ensures c.put_bytes-in-Intermediate.ensures)

pub returns-in-Atomic : goal.returns-in-Atomic
returns-in-Atomic c = rw c.in-Atomic.is (writes_then c.put_bytes.ensures c.put_bytes-in-Atomic.ensures)

pub returns-in-Carry : goal.returns-in-Carry
returns-in-Carry c = rw c.in-Carry.is (writes_then c.put_bytes.ensures c.put_bytes-in-Carry.ensures)
