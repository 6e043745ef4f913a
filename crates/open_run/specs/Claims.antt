-- Document 02, "The open run": the words of its sentences. Records that opening and accepted steps leave, steps in a row, and the run that they make.
use Rattle.std.specs.Prelude.{ℕ, ◌+◌, ◌≡◌, true, List, [], ◌∷◌, length, Err}
use Rattle.reply.specs.Respond.{Answered, Checked, Passed}
use Rattle.net.specs.declared.Net.{Net}
use Rattle.net.specs.Same.{writable_net}
use Rattle.run.specs.declared.Memory.{Memory}
use Rattle.run.specs.declared.Firing.{Firing}
use Rattle.run.specs.declared.Run.{Run}
use Rattle.run.specs.declared.Order.{Order}
use Rattle.run.specs.Run.{run_card, firings_of, fires_of, order_of}
use Rattle.run.specs.Same.{writable_run}
use Rattle.cards.specs.Cards.{input_of}
use Rattle.operations.specs.Replay.{replay_cards}
use Rattle.open_run.specs.declared.OpenRun.{OpenRun}
use Rattle.open_run.specs.declared.Entered.{Entered}
use Rattle.open_run.specs.Open.{is_open, open_of, wait_of, fire_of}

abbrev pub Open : OpenRun → Type 0
Open r = is_open r ≡ true

-- a run's card is accepted on a net: no number but 9 is found against it or in its replay. A number too long to write stands as 999,999,999
abbrev pub CardAccepted : Net → Run → Type 0
CardAccepted net q = Answered (replay_cards (input_of run_card (writable_net net) (writable_run q)))

-- what "opening and accepted steps" leave of an open run
pub data Reachable : OpenRun → Type 0 where
  opening : (net : Net) (memory : Memory) (D : ℕ) → (open_of net memory D).checked ≡ Passed → Reachable (open_of net memory D).run
  waiting : (r : OpenRun) (w : ℕ) → Reachable r → (wait_of r w).checked ≡ Passed → Reachable (wait_of r w).run
  firing : (r : OpenRun) (t : ℕ) → Reachable r → (fire_of r t).checked ≡ Passed → Reachable (fire_of r t).run

-- ---- steps in a row, refused ones among them
pub data RunStep : Type 0 where
  waits : ℕ → RunStep
  fires : ℕ → RunStep

abbrev pub step_of : OpenRun → RunStep → Entered
step_of r (waits w) = wait_of r w
step_of r (fires t) = fire_of r t

unfoldable pub behind : OpenRun → List RunStep → OpenRun
behind r [] = r
behind r (s ∷ ss) = behind (step_of r s).run ss

-- those of them that are accepted
abbrev pub kept_if : Checked → RunStep → List RunStep → List RunStep
kept_if Passed s ss = s ∷ ss
kept_if (Err e) s ss = ss

unfoldable pub accepted_of : OpenRun → List RunStep → List RunStep
accepted_of r [] = []
accepted_of r (s ∷ ss) = kept_if (step_of r s).checked s (accepted_of (step_of r s).run ss)

-- the firings of steps, with the waits before each of them added up, and the waits behind the last; before the first step there were p parts
unfoldable pub firings_by : ℕ → List RunStep → List Firing
firings_by p [] = []
firings_by p (waits w ∷ ss) = firings_by (p + w) ss
firings_by p (fires t ∷ ss) = record { wait = p; fire = t } ∷ firings_by 0 ss

unfoldable pub rest_by : ℕ → List RunStep → ℕ
rest_by p [] = p
rest_by p (waits w ∷ ss) = rest_by (p + w) ss
rest_by p (fires t ∷ ss) = rest_by 0 ss

-- q is the run of these steps on a net, and of no other
pub record RunOf (net : Net) (memory : Memory) (D : ℕ) (ss : List RunStep) (q : Run) : Type 0 where
  pub sheet : q.sheet ≡ net.sheet
  pub word : q.memory ≡ memory
  pub parts : q.denominator ≡ D
  pub count : q.count ≡ length (firings_by 0 ss)
  pub firings : firings_of q ≡ firings_by 0 ss
  pub rest : q.rest ≡ rest_by 0 ss

-- o is the order of a run's firings
pub record OrderIn (q : Run) (o : Order) : Type 0 where
  pub sheet : o.sheet ≡ q.sheet
  pub word : o.memory ≡ q.memory
  pub order : fires_of o ≡ order_of (firings_of q)
