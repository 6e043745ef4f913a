-- Each slot says whether its number is a transition and enabled.
use Rattle.std.proofs.Common.{ℕ, Bool, false, ◌&&◌, ltb, rules, arith}
use Rattle.firing.specs.Semantics.{enough}
use Rattle.steps.proofs.Calls.{made_at, flags_filled}
use Rattle.steps.proofs.enabled_flags.Goals as goal

pub returns : goal.returns
returns c =
    let t = c.within-takes.result in
    let e = c.within-takes.ensures in
    let m = c.args.marking.now in
    let says : ℕ → Bool = λ u. ltb u t.transitions && enough t.weights.now t.places m u in
    let made = c.from_fn.ensures.items in
    rw (← e.weights, ← e.places, ← e.transitions)
    (flags_filled (enough t.weights.now t.places m) t.transitions 32 c.from_fn.result made.long
    (λ k l. made_at _ says _ (λ u y q called. search rules) c.from_fn.result 32 0 made.each k false (omega arith) (omega arith)))
