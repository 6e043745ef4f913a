-- The loop keeps the state of the reader (`Fronted`); a refused part answers for all.
use Rattle.std.proofs.Common.{sym, ◌∙◌}
use Rattle.reply.proofs.Exit.{exits}
use Rattle.run_card.proofs.Parts.{fronted_start, fronted_stopped, fronted_more, fronted_done}
use Rattle.run_card.proofs.read_all.Goals as goal

pub loop-i-init : goal.loop-i-init
loop-i-init g c = let a = c.args in let m = g.P.Part in
    fronted_start (m.form a.transitions) m.LINES a.count c.requires.few c.NONE-parts.ensures a.s.now a.at a.first

pub returns-in_err-part : goal.returns-in_err-part
returns-in_err-part g c =
    exits c.from_residual.ensures.1 ∙ fronted_stopped c.loop-i.invariant c.NONE-parts.ensures c.loop-i-test.true c.LINES.ensures (sym c.read.ensures ∙ c.in_err-part.was)

pub loop-i-preserved : goal.loop-i-preserved
loop-i-preserved g c =
    fronted_more c.loop-i.invariant c.NONE-parts.ensures (g.met.P.Part.each c.args.transitions) c.loop-i-test.true c.LINES.ensures
    (sym c.read.ensures ∙ c.in_ok-part.was)

pub returns : goal.returns
returns g c = fronted_done c.loop-i.invariant c.NONE-parts.ensures c.loop-i-test.false
