-- The transitions passed have restarted where they are marked and enabled.
use Rattle.std.proofs.Common.{◌≡◌, ◌<◌, false, get_or, take, sym, refl, ◌∙◌, arith}
use Rattle.laws.specs.Arrays.{fill_start, fill_store, fill_keep, fill_done}
use Rattle.steps.specs.Code.{restarted}
use Rattle.steps.specs.Firing.{arcs}
use Rattle.steps.proofs.Front.{front_at, front_inside, front_passed}
use Rattle.steps.proofs.Restarts.{restarted_none}
use Rattle.steps.proofs.Fire.restart_marked.Goals as goal
use Rattle.steps.proofs.Fire.restart_marked.Goals.{then-marked+then-has_enough, else-marked, else-marked-via-then-marked+else-has_enough, else-marked-via-else-marked}

pub returns-then-not-contains : goal.returns-then-not-contains
returns-then-not-contains c = let s = c.args.self.now in
    restarted_none (arcs s) c.args.later.now s.instant c.args.since.now c.args.marks.now (sym c.contains.ensures.value ∙ c.if-not-contains.true)

pub loop-u-init : goal.loop-u-init
loop-u-init c = fill_start _ _ _

pub loop-u-preserved : goal.loop-u-preserved
loop-u-preserved c =
    let n = c.args.self.now.takes.transitions in
    let marks = c.args.marks.now in
    let few : c.loop-u.u < n = front_inside n marks (omega arith) c.loop-u-test.true in
    let there : get_or marks c.loop-u.u false ≡ get_or (take n marks) c.loop-u.u false = sym (front_at n marks (omega arith) false c.loop-u-test.true) in
    elim c.if-marked.branch [
      | then-marked+then-has_enough w ↦
          rw w.since-is (fill_store c.loop-u.invariant few (rw (there ∙ w.if-marked.true, sym w.has_enough.ensures ∙ w.if-has_enough.true) refl))
      | else-marked w ↦
          rw w.since-is
          (elim w.else-marked.branch [
            | else-marked-via-then-marked+else-has_enough v ↦
                fill_keep c.loop-u.invariant few 0 (rw (there ∙ v.if-marked.true, sym v.has_enough.ensures ∙ v.if-has_enough.false) refl)
            | else-marked-via-else-marked v ↦ fill_keep c.loop-u.invariant few 0 (rw (there ∙ v.if-marked.false) refl)
          ])
    ]

pub returns : goal.returns
unfolding restarted
returns c = let n = c.args.self.now.takes.transitions in
    fill_done c.loop-u.invariant (front_passed n c.args.marks.now (omega arith) c.loop-u-test.false)
