-- A firing that takes 255 tokens of each place takes all.
use Rattle.text.proofs.Writing.{writes_then}
use Rattle.engine.proofs.Processes.{items_all}
use Rattle.engine.proofs.process_text.put_left.Goals as goal

pub returns : goal.returns
returns c = rw (← items_all c.args.queues.now c.requires.few c.requires.small) (writes_then c.put_bytes.ensures c.put_taken.ensures.1)
