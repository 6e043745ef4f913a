-- The card is answered, and the reply decides what is left of the record.
use Rattle.entering.proofs.Answers.{closing_left}
use Rattle.entering.proofs.finish.Goals as goal

pub returns : goal.returns
returns c = let a = c.args in
    closing_left a.run a.rest c.respond_closing-reply.ensures c.left_by.ensures
