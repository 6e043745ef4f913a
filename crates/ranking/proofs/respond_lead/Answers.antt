-- The two lines fit the buffer, and its front is the answer.
use Rattle.std.proofs.Common.{arith}
use Rattle.laws.specs.Writing.{front_within, front_length, wrote_puts}
use Rattle.form.proofs.Answers.{text_answered}
use Rattle.ranking.proofs.Printing.{lead_short}
use Rattle.ranking.proofs.respond_lead.Goals as goal

pub slice_bounds-text-end : goal.slice_bounds-text-end
slice_bounds-text-end c = let lead = c.args.lead in
    front_within (wrote_puts (omega (arith, lead_short lead.x lead.y c.requires.0 c.requires.1)) c.put_lead-n.ensures)

pub slice_bounds-respond-end : goal.slice_bounds-respond-end
slice_bounds-respond-end c = let lead = c.args.lead in
    front_length (wrote_puts (omega (arith, lead_short lead.x lead.y c.requires.0 c.requires.1)) c.put_lead-n.ensures)

pub returns : goal.returns
returns c = let lead = c.args.lead in
    text_answered (wrote_puts (omega (arith, lead_short lead.x lead.y c.requires.0 c.requires.1)) c.put_lead-n.ensures) c.respond.ensures
