-- No end has more bytes.
use Rattle.firing.specs.Claims.{view}
use Rattle.operations.proofs.Lengths.{end_fits}
use Rattle.engine.proofs.respond_end.Goals as goal

pub respond-requires-clause-fits : goal.respond-requires-clause-fits
respond-requires-clause-fits c = end_fits c.args.net (view c.args.st)
