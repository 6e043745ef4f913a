-- What holds of a place's queue: its counts are those of its producers, and the producers before its head have no tokens left.
use Rattle.std.specs.Prelude.{ℕ, ◌≤◌, ◌<◌, ◌≡◌, get_or}
use Rattle.engine.specs.declared.process_text.Queue.TheInside.{Inside}

pub record IsQueue (q : Inside) : Type 0 where
  pub within : q.producers ≤ 65
  pub begun : q.head ≤ q.producers
  pub bare : (k : ℕ) → k < q.head → get_or q.counts k 0 ≡ 0
