-- The net of a firing.
use Rattle.firing.specs.Semantics.{Arcs}
use Rattle.steps.specs.declared.Fire.{Fire}

abbrev pub arcs : Fire → Arcs
arcs f = record { places = f.takes.places; transitions = f.takes.transitions; take = f.takes.weights.now; give = f.give.now }
