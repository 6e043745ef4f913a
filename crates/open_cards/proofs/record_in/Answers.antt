-- Where both cards are there, they are the record, and otherwise there is none.
use Rattle.std.proofs.Common.{refl, sym}
use Rattle.form.proofs.Answers.{was_refused, was_found}
use Rattle.open_cards.proofs.record_in.Goals as goal

pub returns-in-Ok : goal.returns-in-Ok
returns-in-Ok c = rw (was_found (sym c.in-Ok.ensures)).1 refl

pub returns-in-Err : goal.returns-in-Err
returns-in-Err c = rw (was_refused (sym c.in-Err.ensures)) refl
