-- Each firing has two lines.
use Rattle.run_card.proofs.Reading.{run_long}
use Rattle.run_card.proofs.RunCard.lines.Goals as goal

pub returns-clause-value : goal.returns-clause-value
returns-clause-value c = λ own n. rw c.min.ensures (run_long own n c.args.self)
