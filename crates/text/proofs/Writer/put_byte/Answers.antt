-- A byte with room is stored, and one without is not.
use Rattle.std.proofs.Common.{refl}
use Rattle.laws.specs.Writing.{puts_byte, puts_over}
use Rattle.text.proofs.Writer.put_byte.Goals as goal

pub returns-then-at-self : goal.returns-then-at-self
returns-then-at-self c = let w = c.args.self.now in record { same = refl; puts = puts_byte w.out.now w.at c.args.b c.if-at-self.true }

pub returns-else-at-self : goal.returns-else-at-self
returns-else-at-self c = let w = c.args.self.now in record { same = refl; puts = puts_over w.out.now w.at c.args.b c.if-at-self.false }
