-- A record with a part that fails is closed, and one with all its parts stands at the end of its replay.
use Rattle.std.proofs.Common.{◌≡◌, sym, ◌∙◌, arith, length, rules}
use borrow.Author.Tests.{not-true, not-false}
use Rattle.laws.specs.Tables.{length_mapped}
use Rattle.engine.proofs.Operations.{rest_fits}
use Rattle.entering.proofs.Stands.{has_passed, not_running, not_a_card, not_accepted, not_blank, stands_there}
use Rattle.entering.proofs.standing.Goals.{then-not-run-via-then-not-run, then-not-run-via-else-not-run+then-is_err, then-is_err-2-via-then-is_err-2, then-is_err-2-via-else-is_err-2+then-not-is_blank_behind}
use Rattle.entering.proofs.standing.Goals as goal

pub returns-then-not-run : goal.returns-then-not-run
returns-then-not-run c =
    elim c.then-not-run.branch [
      | then-not-run-via-then-not-run w ↦ not_running c.args.run (not-true _ w.if-not-run.true)
      | then-not-run-via-else-not-run+then-is_err w ↦ not_a_card c.args.run w.check.ensures w.if-is_err.ensures.value
    ]

pub returns-then-is_err-2 : goal.returns-then-is_err-2
returns-then-is_err-2 c = let r = c.args.run in
    elim c.then-is_err-2.branch [
      | then-is_err-2-via-then-is_err-2 w ↦ not_accepted r c.play-played.ensures w.if-is_err-2.ensures.value
      | then-is_err-2-via-else-is_err-2+then-not-is_blank_behind w ↦
          not_blank r (sym w.if-not-is_blank_behind.ensures)
    ]

pub overflow_add-state : goal.overflow_add-state
overflow_add-state c = let r = c.args.run in
    omega (arith, rest_fits r.net r.run c.play-played.ensures (sym c.check.ensures ∙ has_passed c.if-is_err.ensures.value))

pub returns : goal.returns
returns c = let r = c.args.run in
    let slots : length c.args.run.run.firings ≡ 64 = search (rules, length_mapped) in
    stands_there r c.play-played.ensures (not-false _ c.if-not-run.false) (sym c.check.ensures ∙ has_passed c.if-is_err.ensures.value)
    (has_passed c.if-is_err-2.ensures.value) slots (sym c.if-not-is_blank_behind.ensures)
