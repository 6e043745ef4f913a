-- A refused firing is answered by its refusal, and a run without one by the card of its rounding.
use Rattle.reply.proofs.Exit.{exits}
use Rattle.engine.proofs.Operations.{rounded_fits, round_refused, round_answered}
use Rattle.engine.proofs.round_checked.Goals as goal

pub respond-requires-clause-fits : goal.respond-requires-clause-fits
respond-requires-clause-fits c = rounded_fits c.args.net c.args.run c.requires c.rounded_run.ensures

pub returns-in_err-play : goal.returns-in_err-play
returns-in_err-play c = let a = c.args in
    rw (exits c.from_residual.ensures.1) (round_refused a.net a.run c.play.ensures a.out.now c.in_err-play.was)

pub returns : goal.returns
returns c = let a = c.args in
    round_answered a.net a.run c.play.ensures c.in_ok-play.was c.rounded_run.ensures c.respond.ensures
