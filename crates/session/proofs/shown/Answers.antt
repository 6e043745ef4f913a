-- What was written stays, and a refusal is put as its two lines.
use mathlib.Core.Path.{refl}
use Rattle.session.proofs.Fronts.{as_answered}
use Rattle.session.proofs.shown.Goals as goal

pub returns-in-Ok : goal.returns-in-Ok
returns-in-Ok c = rw c.in-Ok.is (refl, refl)

pub returns-in-Err : goal.returns-in-Err
returns-in-Err c = let h = c.put_refused-length.ensures in
    rw c.in-Err.is (as_answered c.args.run h.0, h.1)
