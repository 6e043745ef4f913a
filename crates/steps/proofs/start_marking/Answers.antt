-- The slots that count are copied.
use Rattle.std.proofs.Common.{◌≡◌, min, length, replicate, arith, rules}
use native.Mathlib.Nat.{min-le_right}
use Rattle.steps.proofs.Front.{copied_front}
use Rattle.steps.proofs.start_marking.Goals as goal

pub returns : goal.returns
returns c =
    let long : length c.args.start ≡ 16 = search rules in
    rw (c.copy_from_slice.ensures.after, c.min-n.ensures)
    (copied_front c.args.start (replicate 16 0) (min c.args.places 16) (omega (arith, min-le_right c.args.places 16)) (min-le_right c.args.places 16))
