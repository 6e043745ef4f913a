-- One step of a run: a firing that is tried is judged and, if it is allowed, fired. A refused step changes nothing.
use Rattle.reply.specs.Respond.{Checked, Passed}
use Rattle.std.specs.Prelude.{ℕ, ◌-◌, List, get_or, Err}
use Rattle.firing.specs.declared.Attempt.{Attempt}
use Rattle.firing.specs.Semantics.{Arcs, Restart, after}
use Rattle.firing.specs.Replay.{judged_by, renewed}

-- what a step says, and the marking and the restarts behind it
pub record Stepped : Type 0 where
  pub checked : Checked
  pub marking : List ℕ
  pub since : List ℕ

abbrev pub settled : Checked → List ℕ → List ℕ → List ℕ → List ℕ → Stepped
settled Passed m since m' since' = record { checked = Passed; marking = m'; since = since' }
settled (Err r) m since m' since' = record { checked = Err r; marking = m; since = since }

unfoldable pub stepped : Arcs → Restart → ℕ → Attempt → List ℕ → List ℕ → Stepped
stepped a restarts D f m since =
    settled (judged_by a f.interval D m (f.instant - get_or since f.t 0) f.t f.number) m since (after a m f.t)
    (renewed a restarts m since f.t f.instant)
