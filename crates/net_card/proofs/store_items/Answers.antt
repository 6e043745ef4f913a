-- The loop keeps the state of the reader (`Storing`): where no number stands the list has none, and at the end it is what was read.
use Rattle.std.proofs.Common.{arith, refl, sym, ◌∙◌}
use Rattle.reply.proofs.Exit.{exits}
use Rattle.net_card.proofs.Stored.{slot_within, storing_start, storing_missing, storing_more, storing_end, missing, present}
use Rattle.net_card.proofs.store_items.Goals as goal

pub loop-i-init : goal.loop-i-init
loop-i-init c = let a = c.args in storing_start a.to a.s.now a.at a.line a.table.now

pub returns-in_err-value : goal.returns-in_err-value
returns-in_err-value c =
    let none = missing c.args.line (sym c.ok_or.ensures.value ∙ c.in_err-value.was) in
    rw (exits c.from_residual.ensures.1, ← none.1) (storing_missing c.loop-i.invariant c.loop-i-test.true refl (sym c.field_at.ensures ∙ none.0))

pub store-narrow-requires : goal.store-narrow-requires
store-narrow-requires c = slot_within c.args.to.first c.args.to.step c.loop-i.i c.args.to.within (omega arith)

pub loop-i-preserved : goal.loop-i-preserved
loop-i-preserved c =
    let there = present c.args.line (sym c.ok_or.ensures.value ∙ c.in_ok-value.was) in
    rw (c.store-narrow.ensures.0, c.store-narrow.ensures.1) (storing_more c.loop-i.invariant c.loop-i-test.true refl (sym c.field_at.ensures ∙ there))

pub returns-then-narrow : goal.returns-then-narrow
returns-then-narrow c = rw c.if-narrow.true at (storing_end c.loop-i.invariant c.loop-i-test.false)

pub returns-else-narrow : goal.returns-else-narrow
returns-else-narrow c = rw c.if-narrow.false at (storing_end c.loop-i.invariant c.loop-i-test.false)
