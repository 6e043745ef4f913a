-- The two lines stand at the front of the buffer.
use Rattle.laws.specs.Writing.{front_within, front_text, front_length, wrote_puts}
use Rattle.console.proofs.Lines.{short}
use Rattle.console.proofs.print_refusal.Goals as goal

pub slice_bounds-text-end : goal.slice_bounds-text-end
slice_bounds-text-end g c = front_within (wrote_puts (short c.args.r) c.refusal_front-n.ensures)

pub slice_bounds-write_all-end : goal.slice_bounds-write_all-end
slice_bounds-write_all-end g c = front_length (wrote_puts (short c.args.r) c.refusal_front-n.ensures)

pub returns : goal.returns
returns g c = rw (← front_text (wrote_puts (short c.args.r) c.refusal_front-n.ensures)) c.write_all.ensures.bytes
