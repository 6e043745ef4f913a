-- A text that fits is copied to its place, which is a splice into the whole; any other is put byte by byte.
use Rattle.std.proofs.Common.{◌+◌, ◌-◌, ◌≤◌, ◌≡◌, length, arith, refl}
use Rattle.laws.specs.Writing.{puts_wrote, wrote_part, bytes_joined}
use Rattle.text.proofs.Writing.{first_none, first_more, first_all}
use Rattle.text.proofs.Writer.put_bytes.Goals as goal

pub returns-then-text-self : goal.returns-then-text-self
returns-then-text-self c =
    let w = c.args.self.now in
    let t = c.args.text.now in
    let room : w.at + length t ≤ length w.out.now = omega arith in
    let size : w.at + length t - w.at ≡ length t = omega arith in
    record { same = refl; puts = rw (size, c.copy_from_slice.ensures.after) (puts_wrote room (wrote_part w.out.now w.at t room)) }

pub loop-b-init : goal.loop-b-init
loop-b-init c = first_none c.args.self.now (bytes_joined c.args.text.now)

pub loop-b-preserved : goal.loop-b-preserved
loop-b-preserved c = first_more c.loop-b.invariant c.loop-b-test.true c.put_byte.ensures

pub returns : goal.returns
returns c = first_all c.loop-b.invariant c.loop-b-test.false
