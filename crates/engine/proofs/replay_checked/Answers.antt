-- A refused firing is answered by its refusal, and a run without one by its end.
use Rattle.std.proofs.Common.{arith}
use Rattle.reply.proofs.Exit.{exits}
use Rattle.engine.proofs.Operations.{rest_fits, replay_refused, replay_answered}
use Rattle.engine.proofs.replay_checked.Goals as goal

pub overflow_add-state : goal.overflow_add-state
overflow_add-state c = omega (arith, rest_fits c.args.net c.args.run c.play-played.ensures c.requires)

pub returns-in_err-played : goal.returns-in_err-played
returns-in_err-played c = let a = c.args in
    rw (exits c.from_residual.ensures.1) (replay_refused a.net a.run c.play-played.ensures a.out.now c.in_err-played.was)

pub returns : goal.returns
returns c = let a = c.args in
    replay_answered a.net a.run c.play-played.ensures c.in_ok-played.was c.respond_end.ensures
