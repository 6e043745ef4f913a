-- The clocks stand behind the tokens.
use Rattle.std.proofs.Common.{arith, min}
use Rattle.laws.specs.Slots.{first_take}
use Rattle.text.proofs.Writing.{writes_then}
use Rattle.engine.proofs.Clocks.{clocks_same}
use Rattle.engine.proofs.end_text.put_end_lines.Goals as goal

pub returns : goal.returns
returns c = let a = c.args in
    rw (clocks_same a.net.now a.st.now c.enabled_flags-flags.ensures, ← first_take (min a.net.now.places 16) 0 a.st.now.marking (omega arith))
    (writes_then (rw c.min.ensures at c.put_items_line.ensures) (rw c.min-2.ensures at c.put_clocks.ensures))
