-- Each firing has one line.
use Rattle.run_card.proofs.Reading.{order_long}
use Rattle.run_card.proofs.OrderCard.lines.Goals as goal

pub returns-clause-value : goal.returns-clause-value
returns-clause-value c = λ own n. rw c.min.ensures (order_long own n c.args.self)
