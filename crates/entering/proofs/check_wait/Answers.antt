-- The number of the step fits: an open run has at most 64 firings.
use Rattle.std.proofs.Common.{arith}
use Rattle.entering.proofs.Entered.{count_few}
use Rattle.entering.proofs.check_wait.Goals as goal

pub overflow_add-run : goal.overflow_add-run
overflow_add-run c = omega (arith, count_few c.args.run c.standing.ensures c.in_ok-standing.was)
