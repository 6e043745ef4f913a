-- The transitions passed have restarted where they are marked and enabled.
use Rattle.std.proofs.Common.{false, cond, ◌&&◌, get_or}
use Rattle.laws.specs.Arrays.{Filling}
use Rattle.firing.specs.Semantics.{enough}
use Rattle.steps.proofs.Fire.restart_marked.Given as goal

abbrev pub invariant-loop-u : goal.invariant-loop-u
invariant-loop-u l =
    let s = l.self in
    Filling (λ k. cond (get_or l.marks k false && enough s.takes.weights.now s.takes.places l.later k) s.instant (get_or l.initial.since k 0)) s.takes.transitions l.initial.since l.u l.since
