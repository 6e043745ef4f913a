-- The invariant is `Climbing`: what the firings that had their turn leave, with the instant at i, the window of the first that rose, the last, and where the
-- sweep ends. A sum fits, since a turn adds less than 2 ^ 32 to the largest instant.
use Rattle.std.proofs.Common.{◌-◌, length}
use Rattle.timing.specs.Windows.{windows}
use Rattle.sweep.proofs.Ascent.{Climbing}
use Rattle.sweep.proofs.forward.Given as goal

abbrev pub invariant-loop-i : goal.invariant-loop-i
invariant-loop-i l = Climbing (windows l.windows) l.from (length l.windows) l.initial.x l.first l.last l.until l.before l.i l.x

abbrev pub decreases-loop-i : goal.decreases-loop-i
decreases-loop-i l = length l.windows - l.i
