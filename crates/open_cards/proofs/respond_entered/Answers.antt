-- A step that is refused is told so; the run behind any other passes its check, and its card is written.
use Rattle.std.proofs.Common.{refl}
use Rattle.reply.proofs.Exit.{exits}
use Rattle.open_cards.proofs.Records.{entered_answered}
use Rattle.open_cards.proofs.respond_entered.Goals as goal

pub returns-in_err-e : goal.returns-in_err-e
returns-in_err-e c = rw (exits c.from_residual.ensures.1, c.in_err-e.was) (record { reply = refl; output = refl })

pub returns : goal.returns
returns c = let passed = c.in_ok-e.was in
    entered_answered c.args.e passed (c.requires passed) c.write.ensures
