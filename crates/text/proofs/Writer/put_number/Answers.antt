-- A number of one digit is its digit; those of two digits and the others are written by methods of their own.
use Rattle.std.proofs.Common.{arith}
use Rattle.text.proofs.DecimalLaws.{decimal_one}
use Rattle.text.proofs.Writer.put_number.Goals as goal

pub returns-in-0-to-9 : goal.returns-in-0-to-9
returns-in-0-to-9 c = rw (decimal_one c.args.n (omega (arith, c.in-0-to-9))) c.put_byte.ensures
