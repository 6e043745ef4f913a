-- First the number of the firing decides, then its transition, and last its judgement where the run stands.
use Rattle.std.proofs.Common.{arith}
use Rattle.entering.proofs.Entered.{count_few, fire_allowed, fire_said}
use Rattle.entering.proofs.check_fire.Goals as goal

pub overflow_add-number : goal.overflow_add-number
overflow_add-number c = omega (arith, count_few c.args.run c.standing.ensures c.in_ok-state.was)

pub judge-requires : goal.judge-requires
judge-requires c = let a = c.args in
    fire_allowed a.run c.standing.ensures c.in_ok-state.was a.t c.check.ensures c.in_ok-check.was c.check-2.ensures c.in_ok-check-2.was

pub returns : goal.returns
returns c = let a = c.args in
    fire_said a.run c.standing.ensures c.in_ok-state.was a.t c.check.ensures c.in_ok-check.was c.check-2.ensures c.in_ok-check-2.was
    c.judge.ensures
