-- The end of the replay is the answer.
use Rattle.entering.proofs.Answers.{state_answered}
use Rattle.entering.proofs.state.Goals as goal

pub returns : goal.returns
returns c = state_answered c.args.run c.standing.ensures c.in_ok-state.was c.respond_end.ensures
