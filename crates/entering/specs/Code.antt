-- What the functions of this crate find on their way.
use Rattle.std.specs.Prelude.{◌≡◌, Result, Ok, Err}
use Rattle.reply.specs.declared.Refusal.{Refusal}
use Rattle.reply.specs.Respond.{Passed}
use Rattle.firing.specs.declared.State.{State}
use Rattle.firing.specs.Semantics.{arcs_of, rule_of}
use Rattle.firing.specs.Replay.{replay}
use Rattle.open_run.specs.declared.OpenRun.{OpenRun}
use Rattle.open_run.specs.Open.{still}

-- what is answered of a record: why it stands nowhere, or where it stands, at the end of its replay
pub record Stands (r : OpenRun) (found : Result State Refusal) : Type 0 where
  pub refused : {e : Refusal} → found ≡ Err e → still r ≡ Err e
  pub there : {st : State} → found ≡ Ok st → (still r ≡ Passed) × (st ≡ (replay r.net (rule_of (arcs_of r.net) r.run.memory) r.run).state)
