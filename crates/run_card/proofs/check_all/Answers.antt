-- The loop keeps the state of the check (`Passing`); a refused part refuses all, and at the end all pass.
use Rattle.std.proofs.Common.{sym, ◌∙◌}
use Rattle.reply.proofs.Exit.{exits}
use Rattle.run_card.proofs.Parts.{passing_start, passing_more, passing_refused, passing_done}
use Rattle.run_card.proofs.check_all.Goals as goal

pub loop-i-init : goal.loop-i-init
loop-i-init g c = let a = c.args in let m = g.P.Part in passing_start (m.form a.transitions) m.LINES a.parts.now a.first

pub returns-in_err-check : goal.returns-in_err-check
returns-in_err-check g c =
    exits c.from_residual.ensures.1
    ∙ passing_refused c.loop-i.invariant c.index-parts-i.is c.loop-i-test.true c.LINES.ensures (sym c.check.ensures ∙ c.in_err-check.was)

pub loop-i-preserved : goal.loop-i-preserved
loop-i-preserved g c =
    passing_more c.loop-i.invariant (g.met.P.Part.each c.args.transitions) c.index-parts-i.is c.loop-i-test.true c.LINES.ensures
    (sym c.check.ensures ∙ c.in_ok-check.was)

pub returns : goal.returns
returns g c = passing_done c.loop-i.invariant c.loop-i-test.false
