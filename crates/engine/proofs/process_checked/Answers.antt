-- A refused firing is answered by its refusal, and a run without one by its process.
use Rattle.operations.proofs.Causality.{process_fits}
use Rattle.reply.proofs.Exit.{exits}
use Rattle.engine.proofs.Operations.{process_allowed, process_refused, process_answered}
use Rattle.engine.proofs.process_checked.Goals as goal

pub respond-requires-clause-ready : goal.respond-requires-clause-ready
respond-requires-clause-ready c = process_allowed c.args.net c.args.run c.play.ensures c.in_ok-play.was

pub respond-requires-clause-fits : goal.respond-requires-clause-fits
respond-requires-clause-fits c = let a = c.args in process_fits a.net a.run c.requires (process_allowed a.net a.run c.play.ensures c.in_ok-play.was)

pub returns-in_err-play : goal.returns-in_err-play
returns-in_err-play c = let a = c.args in
    rw (exits c.from_residual.ensures.1) (process_refused a.net a.run c.play.ensures a.out.now c.in_err-play.was)

pub returns : goal.returns
returns c = let a = c.args in
    process_answered a.net a.run c.play.ensures c.in_ok-play.was c.respond.ensures
