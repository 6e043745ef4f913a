-- In each arm the power is the k-th.
use Rattle.text.proofs.WriteNumber.{below_ten}
use Rattle.text.proofs.digit_at.Goals as goal

pub subtract-requires : goal.subtract-requires
subtract-requires c = below_ten _ _ _ (rw c.in-1.is c.power.ensures) c.requires.1

pub subtract-requires-in-2 : goal.subtract-requires-in-2
subtract-requires-in-2 c = below_ten _ _ _ (rw c.in-2.is c.power-in-2.ensures) c.requires.1

pub subtract-requires-in-3 : goal.subtract-requires-in-3
subtract-requires-in-3 c = below_ten _ _ _ (rw c.in-3.is c.power-in-3.ensures) c.requires.1

pub subtract-requires-in-4 : goal.subtract-requires-in-4
subtract-requires-in-4 c = below_ten _ _ _ (rw c.in-4.is c.power-in-4.ensures) c.requires.1

pub subtract-requires-in-5 : goal.subtract-requires-in-5
subtract-requires-in-5 c = below_ten _ _ _ (rw c.in-5.is c.power-in-5.ensures) c.requires.1

pub subtract-requires-in-6 : goal.subtract-requires-in-6
subtract-requires-in-6 c = below_ten _ _ _ (rw c.in-6.is c.power-in-6.ensures) c.requires.1

pub subtract-requires-in-7 : goal.subtract-requires-in-7
subtract-requires-in-7 c = below_ten _ _ _ (rw c.in-7.is c.power-in-7.ensures) c.requires.1

pub subtract-requires-in_default : goal.subtract-requires-in_default
subtract-requires-in_default c = below_ten _ _ _ c.power-in_default.ensures c.requires.1

pub returns-in-1 : goal.returns-in-1
returns-in-1 c = rw (c.in-1.is, ← c.power.ensures) c.subtract.ensures

pub returns-in-2 : goal.returns-in-2
returns-in-2 c = rw (c.in-2.is, ← c.power-in-2.ensures) c.subtract-in-2.ensures

pub returns-in-3 : goal.returns-in-3
returns-in-3 c = rw (c.in-3.is, ← c.power-in-3.ensures) c.subtract-in-3.ensures

pub returns-in-4 : goal.returns-in-4
returns-in-4 c = rw (c.in-4.is, ← c.power-in-4.ensures) c.subtract-in-4.ensures

pub returns-in-5 : goal.returns-in-5
returns-in-5 c = rw (c.in-5.is, ← c.power-in-5.ensures) c.subtract-in-5.ensures

pub returns-in-6 : goal.returns-in-6
returns-in-6 c = rw (c.in-6.is, ← c.power-in-6.ensures) c.subtract-in-6.ensures

pub returns-in-7 : goal.returns-in-7
returns-in-7 c = rw (c.in-7.is, ← c.power-in-7.ensures) c.subtract-in-7.ensures

pub returns-in_default : goal.returns-in_default
returns-in_default c = rw (← c.power-in_default.ensures) c.subtract-in_default.ensures
