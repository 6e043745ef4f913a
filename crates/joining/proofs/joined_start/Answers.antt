-- The places passed hold the second net's tokens (`Starting`), and the first net's lie over them.
use native.Mathlib.Omega.{arith}
use mathlib.Core.Path.{ap}
use lib.ListN.{length, get_or}
use Rattle.std.specs.Prelude.{None}
use Rattle.joining.proofs.Moving.{none_there, starting_more, starting_none, first_over}
use Rattle.joining.proofs.joined_start.Goals.{in-Some, in_default}
use Rattle.joining.proofs.joined_start.Goals as goal

pub loop-p-preserved : goal.loop-p-preserved
loop-p-preserved c = let a = c.args in
    let sources = c.sources-source-items.ensures in
    elim c.match-source.branch [
      | in-Some w ↦
          rw w.joined-is
          (starting_more a.other.now a.at.now c.loop-p.invariant (rw sources.places at w.in-Some.is) (omega (arith, c.loop-p-test.true, sources.few, ap length sources.places)))
      | in_default w ↦
          rw w.joined-is
          (starting_none a.other.now a.at.now c.loop-p.invariant
          (none_there (get_or a.at.now c.loop-p.p None) (rw sources.places at w.in_default.not-Some)))
    ]

pub returns : goal.returns
returns c = let a = c.args in
    let sources = c.sources-source-items.ensures in
    rw c.copy_from_slice.ensures.after
    (first_over a.other.now a.at.now c.loop-p.invariant a.start.now c.requires sources.few (omega (arith, c.loop-p-test.false, ap length sources.places)))
