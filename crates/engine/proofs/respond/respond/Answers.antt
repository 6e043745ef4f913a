-- An output that holds every such text is written straight; for any other the text is made in a buffer first.
use Rattle.std.proofs.Common.{arith}
use Rattle.laws.specs.Writing.{front_within, wrote_puts}
use Rattle.form.proofs.Answers.{text_answered}
use Rattle.engine.proofs.Outcome.{put_answered}
use Rattle.engine.proofs.respond.respond.Goals as goal

pub returns-then-fits : goal.returns-then-fits
returns-then-fits g c = put_answered (omega (arith, c.if-fits.true, c.requires.fits)) c.put.ensures

pub shared_whole_as_front-respond : goal.shared_whole_as_front-respond
shared_whole_as_front-respond g c =
    let wrote = wrote_puts (omega (arith, c.requires.fits)) c.put-n.ensures in
    (omega (arith, front_within wrote, c.put-n.auto.out), omega (arith, c.requires.small))

pub returns : goal.returns
returns g c =
    let wrote = wrote_puts (omega (arith, c.requires.fits)) c.put-n.ensures in
    text_answered wrote c.respond.ensures
