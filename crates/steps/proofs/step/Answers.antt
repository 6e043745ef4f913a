-- Each way out of the step is a case of the judgement.
use Rattle.std.proofs.Common.{sym, ◌∙◌}
use Rattle.steps.proofs.Judging.{says_disabled, says_early, says_over, says_fired}
use Rattle.steps.proofs.step.Goals as goal

pub returns-then-not-is_enabled : goal.returns-then-not-is_enabled
returns-then-not-is_enabled c = let a = c.args in
    let e = c.within-takes.ensures in
    says_disabled a.terms a.f a.marking.now a.since.now c.within-takes.result e.weights e.places e.transitions
    (sym c.is_enabled.ensures ∙ c.if-not-is_enabled.true)

pub returns-then-not-on_time : goal.returns-then-not-on_time
returns-then-not-on_time c = let a = c.args in
    let e = c.within-takes.ensures in
    says_early a.terms a.f a.marking.now a.since.now c.within-takes.result e.weights e.places e.transitions
    (sym c.is_enabled.ensures ∙ c.if-not-is_enabled.false)
    (rw (← c.elapsed.ensures) (sym c.on_time.ensures ∙ c.if-not-on_time.true))

pub returns-in_default : goal.returns-in_default
returns-in_default c = let a = c.args in
    let e = c.within-takes.ensures in
    says_over a.terms a.f a.marking.now a.since.now c.within-takes.result e.weights e.places e.transitions
    (sym c.is_enabled.ensures ∙ c.if-not-is_enabled.false)
    (rw (← c.elapsed.ensures) (sym c.on_time.ensures ∙ c.if-not-on_time.false))
    (sym c.moved.ensures ∙ c.in_default.is)

pub returns : goal.returns
returns c = let a = c.args in
    let e = c.within-takes.ensures in
    says_fired a.terms a.f a.marking.now a.since.now c.within-takes.result e.weights e.places e.transitions
    (sym c.is_enabled.ensures ∙ c.if-not-is_enabled.false)
    (rw (← c.elapsed.ensures) (sym c.on_time.ensures ∙ c.if-not-on_time.false))
    (sym c.moved.ensures ∙ c.in-Some.is)
    c.looked_at-looked.ensures
    c.renew.ensures
