-- The new firing's first instant leaves only its own upper bound to be tested; if the firing is past it, `settle` answers.
use native.Mathlib.Omega.{arith}
use Rattle.std.proofs.Common.{◌+◌}
use Rattle.std.proofs.lemmas.Bool.{le-leb}
use Rattle.sweep.proofs.Prefixes.{enter_fits, enter_met, enter_put, first_listed, reaching_more, first_reaching, first_entered, first_met}
use Rattle.sweep.proofs.enter.Goals as goal

pub overflow_add-x : goal.overflow_add-x
overflow_add-x c = let p = c.requires in omega (arith, enter_fits p.listed p.below p.short (omega arith) p.solved)

pub returns-then-needed-x-clause-met : goal.returns-then-needed-x-clause-met
returns-then-needed-x-clause-met c = let p = c.requires in
    let t = c.max-t in
    let needed = c.least_origin-needed in
    rw (le-leb _ _ c.if-needed-x.true)
    (enter_met p.listed p.below p.short (omega arith) p.solved t.result t.ensures needed.result needed.ensures c.if-needed-x.true)

pub settle-requires : goal.settle-requires
settle-requires c = let p = c.requires in
    let n = c.args.i + 1 in
    record {
      listed = (
        first_listed c.args.windows.now n (omega arith) p.listed,
        first_reaching c.args.windows.now n (omega arith)
            (reaching_more p.reached (omega (arith, p.listed)) (omega (arith, p.listed, p.listed.earlier c.args.i p.below))),
      );
      entered =
          first_entered c.args.windows.now n (omega arith) (enter_put p.listed p.below p.short (omega arith) p.solved c.max-t.result c.max-t.ensures);
    }

pub returns-else-needed-x-clause-met : goal.returns-else-needed-x-clause-met
returns-else-needed-x-clause-met c = first_met c.args.windows.now (c.args.i + 1) (omega arith) c.settle.new.x c.settle.result c.settle.ensures
