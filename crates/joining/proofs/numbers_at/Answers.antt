-- The numbers read so far, and what is left of the line (`Numbering`).
use Rattle.std.proofs.Common.{arith, sym, ◌∙◌}
use Rattle.reply.proofs.Exit.{exits}
use Rattle.joining.proofs.Numbers.{numbering_last, numbering_next, numbering_none, numbering_end, field_ahead}
use Rattle.net_card.proofs.Stored.{missing, present}
use Rattle.joining.proofs.numbers_at.Goals as goal

pub returns-in-Some : goal.returns-in-Some
returns-in-Some c = rw c.push.ensures (numbering_last c.loop-to.invariant c.loop-to-test.true (sym c.field_at.ensures ∙ c.in-Some.is))

pub returns-in_err-number : goal.returns-in_err-number
returns-in_err-number c =
    let none = missing 1 (sym c.ok_or.ensures.value ∙ c.in_err-number.was) in
    rw (exits c.from_residual.ensures.1, ← none.1)
    (numbering_none c.loop-to.invariant c.loop-to-test.true (sym c.in_default.ensures) (sym c.field_at-in-loop-to.ensures ∙ none.0))

pub loop-to-smaller : goal.loop-to-smaller
loop-to-smaller c =
    omega (arith, field_ahead c.args.s.now _ _ (sym c.field_at-in-loop-to.ensures ∙ present 1 (sym c.ok_or.ensures.value ∙ c.in_ok-number.was)))

pub loop-to-preserved : goal.loop-to-preserved
loop-to-preserved c = let there = present 1 (sym c.ok_or.ensures.value ∙ c.in_ok-number.was) in
    rw c.push-in-loop-to.ensures (numbering_next c.loop-to.invariant c.loop-to-test.true (sym c.field_at-in-loop-to.ensures ∙ there))

pub returns : goal.returns
returns c = numbering_end c.loop-to.invariant c.loop-to-test.false
