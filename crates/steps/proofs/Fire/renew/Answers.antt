-- Those that are marked have restarted; and t, if the word says so.
use Rattle.std.proofs.Common.{◌≡◌, true, false, ◌&&◌, sym, refl, ◌∙◌}
use mathlib.Core.Bool.{and-false}
use Rattle.firing.specs.Semantics.{enough, restarts_fired}
use Rattle.steps.specs.Firing.{arcs}
use Rattle.steps.proofs.Restarts.{renewed_by_lem}
use Rattle.steps.proofs.Fire.renew.Goals as goal
use Rattle.steps.proofs.Fire.renew.Goals.{else-restarts_fired-via-then-restarts_fired+else-has_enough, else-restarts_fired-via-else-restarts_fired}

pub returns-then-has_enough : goal.returns-then-has_enough
returns-then-has_enough c =
    let s = c.args.self.now in
    renewed_by_lem (arcs s) c.args.later.now s.instant c.args.since.now (restarts_fired s.memory) c.args.looked.now s.t s.listed
    c.short_marks-marks.result
    c.short_marks-marks.ensures
    c.restart_marked.ensures
    true
    (rw (sym c.restarts_fired.ensures ∙ c.if-restarts_fired.true, sym c.has_enough.ensures ∙ c.if-has_enough.true) refl)

pub returns-else-restarts_fired : goal.returns-else-restarts_fired
returns-else-restarts_fired c =
    let s = c.args.self.now in
    let stays : (restarts_fired s.memory && enough s.takes.weights.now s.takes.places c.args.later.now s.t) ≡ false =
    elim c.else-restarts_fired.branch [
      | else-restarts_fired-via-then-restarts_fired+else-has_enough w ↦
          rw (sym w.has_enough.ensures ∙ w.if-has_enough.false) (and-false (restarts_fired s.memory))
      | else-restarts_fired-via-else-restarts_fired w ↦ rw (sym c.restarts_fired.ensures ∙ w.if-restarts_fired.false) refl
    ] in
    renewed_by_lem (arcs s) c.args.later.now s.instant c.args.since.now (restarts_fired s.memory) c.args.looked.now s.t s.listed
    c.short_marks-marks.result
    c.short_marks-marks.ensures
    c.restart_marked.ensures
    false
    stays
