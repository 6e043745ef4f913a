-- Each turn reads a byte at least, so that what is left of the buffer falls.
use Rattle.std.proofs.Common.{◌-◌, length}
use Rattle.live.proofs.read_opening.Given as goal

abbrev pub decreases-loop-n : goal.decreases-loop-n
decreases-loop-n g l = length l.buffer - l.n
