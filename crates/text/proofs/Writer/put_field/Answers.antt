-- A digit and its separator are two bytes; in any other case the separator stands behind the number.
use Rattle.std.proofs.Common.{arith, ◌+◌, refl}
use Rattle.laws.specs.Writing.{puts_two}
use Rattle.text.proofs.DecimalLaws.{decimal_one}
use Rattle.text.proofs.Writing.{writes_then}
use Rattle.text.proofs.Writer.put_field.Goals as goal

pub returns-then-self-at-ge2 : goal.returns-then-self-at-ge2
returns-then-self-at-ge2 c = let w = c.args.self.now in
    record {
      same = refl;
      puts =
          rw (decimal_one c.args.n c.if-n-lt10.true, ← c.separator_of.ensures)
          (puts_two w.out.now w.at (48 + c.args.n) c.separator_of.result (omega (arith, c.if-self-at-ge2.true)));
    }

pub returns : goal.returns
returns c = rw (← c.separator_of-2.ensures) (writes_then c.put_number.ensures c.put_byte.ensures)
