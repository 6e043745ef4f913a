-- The number stands behind the key, with a minus in front of it where the lead is negative.
use Rattle.text.proofs.Writing.{writes_then}
use Rattle.ranking.proofs.Printing.{signed_less, signed_more}
use Rattle.ranking.proofs.put_lead_line.Goals as goal

pub returns-then-lead : goal.returns-then-lead
returns-then-lead c = let lead = c.args.lead in
    rw (signed_less lead.x lead.y c.if-lead.true) (writes_then c.put_bytes.ensures (writes_then c.put_byte.ensures c.put_field.ensures))

pub returns-else-lead : goal.returns-else-lead
returns-else-lead c = let lead = c.args.lead in
    rw (signed_more lead.x lead.y c.if-lead.false) (writes_then c.put_bytes.ensures c.put_field-else-lead.ensures)
