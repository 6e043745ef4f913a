-- The text of the step stands at the front.
use Rattle.session.proofs.Fronts.{as_answered}
use Rattle.session.proofs.told.Goals as goal

pub returns : goal.returns
returns c = let h = c.put_told-length.ensures in (as_answered c.args.e.run h.0, h.1)
