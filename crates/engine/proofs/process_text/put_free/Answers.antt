-- The loop looks at flag after flag, and keeps what is left of the line (`Listing`).
use lib.ListN.{length}
use Rattle.text.proofs.Writing.{writes_then}
use Rattle.engine.proofs.Listing.{listing_one, line_done}
use Rattle.engine.proofs.Flags.{numbers_none, number_up, number_down}
use Rattle.engine.proofs.process_text.put_free.Goals as goal
use Rattle.engine.proofs.process_text.put_free.Goals.{then-not-linked-i, else-not-linked-i}

pub loop-i-preserved : goal.loop-i-preserved
loop-i-preserved c = let flags = c.args.linked.now in
    elim c.if-not-linked-i.branch [
      | then-not-linked-i w ↦
          let down = number_down flags (length flags) c.loop-i.i c.loop-i-test.true w.if-not-linked-i.true in
          rw (w.w-is, w.first-is)
          (listing_one (rw down at c.loop-i.invariant) (writes_then w.put_comma.ensures w.put_number.ensures))
      | else-not-linked-i w ↦
          let up = number_up flags (length flags) c.loop-i.i c.loop-i-test.true w.if-not-linked-i.false in
          rw (w.w-is, w.first-is) (rw up at c.loop-i.invariant)
    ]

pub returns : goal.returns
returns c = let flags = c.args.linked.now in
    writes_then c.put_bytes.ensures
    (line_done (rw (numbers_none flags (length flags) c.loop-i.i c.loop-i-test.false) at c.loop-i.invariant) c.end_line.ensures)
