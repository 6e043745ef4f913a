-- The hundreds, the tens of what they leave, and what these leave.
use Rattle.text.proofs.WriteNumber.{decimal_three}
use Rattle.text.proofs.Writing.{writes_then}
use Rattle.text.proofs.Writer.put_three.Goals as goal

pub returns : goal.returns
returns c = let t = c.subtract-tens in
    let h = c.subtract-hundreds in
    rw
    (decimal_three c.args.n h.result.times h.result.left t.result.times t.result.left c.requires h.ensures t.ensures)
    (writes_then (writes_then c.put_byte.ensures c.put_byte-2.ensures) c.put_byte-3.ensures)
