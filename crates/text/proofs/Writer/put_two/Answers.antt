-- The first of two digits is how often ten is in the number, and the second is what is left.
use Rattle.std.proofs.Common.{arith, ◌+◌, refl}
use Rattle.laws.specs.Writing.{puts_two}
use Rattle.text.proofs.WriteNumber.{decimal_two}
use Rattle.text.proofs.Writing.{writes_then}
use Rattle.text.proofs.Writer.put_two.Goals as goal

pub returns-then-saturating_sub-ge2 : goal.returns-then-saturating_sub-ge2
returns-then-saturating_sub-ge2 c = let w = c.args.self.now in let r = c.subtract-tens in
    record {
      same = refl;
      puts =
          rw (decimal_two c.args.n r.result.times r.result.left c.requires r.ensures)
          (puts_two w.out.now w.at (48 + r.result.times) (48 + r.result.left) (omega (arith, c.if-saturating_sub-ge2.true)));
    }

pub returns : goal.returns
returns c = let r = c.subtract-tens in
    rw (decimal_two c.args.n r.result.times r.result.left c.requires r.ensures)
    (writes_then c.put_byte.ensures c.put_byte-2.ensures)
