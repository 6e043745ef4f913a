-- Document 02, "The open run": which records are open, and what opening, a wait, a firing, closing and the two calls come to.
use Rattle.std.specs.Prelude.{ℕ, suc, ◌+◌, Bool, true, false, cond, ◌&&◌, ◌||◌, List, length, get_or, set, replicate, ltb, eqb, Err, Ok}
use Rattle.laws.specs.Tests.{all_below}
use Rattle.reply.specs.declared.Refusal.TheVariants.{ClosedRun}
use Rattle.reply.specs.Respond.{Outcome, written_if, reply_to, Checked, Passed, Reply}
use Rattle.form.specs.Form.{also}
use Rattle.form.specs.Line.{ranged, listed}
use Rattle.net.specs.declared.Net.{Net}
use Rattle.net.specs.Net.{net_card}
use Rattle.run.specs.declared.Memory.{Memory}
use Rattle.run.specs.declared.Firing.{Firing}
use Rattle.run.specs.declared.Run.{Run}
use Rattle.run.specs.declared.Order.{Order}
use Rattle.run.specs.Run.{no_firing, run_card, order_of}
use Rattle.cards.specs.Cards.{card_of, run_checked}
use Rattle.operations.specs.Operation.{once_checked}
use Rattle.operations.specs.Replay.{replayed, replay_of}
use Rattle.operations.specs.Timetable.{timetable_of}
use Rattle.open_run.specs.declared.OpenRun.{OpenRun}
use Rattle.open_run.specs.declared.Entered.{Entered}
use Rattle.open_run.specs.declared.Closing.{Closing}

-- ---- open and closed records
abbrev pub passes : Checked → Bool
passes Passed = true
passes (Err e) = false

-- the slots past a run's count hold nothing: no step leaves anything there
abbrev pub blank : Firing → Bool
blank f = eqb f.wait 0 && eqb f.fire 0

unfoldable pub blank_behind : Run → Bool
blank_behind q = all_below (λ i. ltb i q.count || blank (get_or q.firings i no_firing)) 64

-- "A record that opening and accepted steps can't have left counts as closed": a record is open if it goes on, its run's card is accepted on its net, and
-- nothing stands past the count in its 64 slots (`ReachableExactly`)
unfoldable pub is_open : OpenRun → Bool
is_open r =
    r.running && (passes (run_checked r.net r.run) && (passes (replayed r.net r.run) && (eqb (length r.run.firings) 64 && blank_behind r.run)))

-- "a step or such a call on a closed run is refused as 15, place 0"
abbrev pub still : OpenRun → Checked
still r = cond (is_open r) Passed (Err ClosedRun)

-- ---- what a step makes of a record
abbrev pub with_run : OpenRun → Run → OpenRun
with_run r q = record { net = r.net; run = q; running = r.running }

abbrev pub halted : OpenRun → OpenRun
halted r = record { net = r.net; run = r.run; running = false }

-- the run without steps, on its net's sheet
abbrev pub no_steps : Net → Memory → ℕ → Run
no_steps net memory D = record { sheet = net.sheet; memory = memory; denominator = D; count = 0; firings = replicate 64 no_firing; rest = 0 }

abbrev pub opened : Net → Memory → ℕ → OpenRun
opened net memory D = record { net = net; run = no_steps net memory D; running = true }

-- "Waits before a firing add up", and "Waits since the last firing count into the rest"
abbrev pub wait_added : Run → ℕ → Run
wait_added q w =
    record { sheet = q.sheet; memory = q.memory; denominator = q.denominator; count = q.count; firings = q.firings; rest = q.rest + w }

abbrev pub fire_added : Run → ℕ → Run
fire_added q t =
    record {
      sheet = q.sheet;
      memory = q.memory;
      denominator = q.denominator;
      count = suc q.count;
      firings = set q.firings q.count (record { wait = q.rest; fire = t });
      rest = 0;
    }

-- ---- what is found against opening a run: the net's card, then 2 at 0
abbrev pub open_checked : Net → ℕ → Checked
open_checked net D = also (net_card.check net 1) (ranged 1 1000 D 0)

-- ---- what is found against a step: 15, then 2, 4, 5, 7 and 6 with the place of the firing being entered
-- "A sum past 10,000,000 .. is 2": of a wait, and of a rest
abbrev pub wait_checked : OpenRun → ℕ → Checked
wait_checked r w = also (still r) (ranged 0 10000000 (r.run.rest + w) (suc r.run.count))

-- "a 65th firing is 2, then a transition not in the net is 4, then come 5, 7 and 6": as the replay of the card with it added says
abbrev pub fire_checked : OpenRun → ℕ → Checked
fire_checked r t =
    also (still r)
    (also (ranged 0 63 r.run.count (suc r.run.count))
    (also (listed r.net.transitions t (suc r.run.count)) (replayed r.net (fire_added r.run t))))

-- "A refused step leaves the run as before it"
abbrev pub entering : Checked → OpenRun → OpenRun → Entered
entering Passed before after = record { checked = Passed; run = after }
entering (Err e) before after = record { checked = Err e; run = before }

-- "open it on an accepted net with a memory and a denominator": "A denominator outside its range is 2, place 0, and opens nothing"
abbrev pub open_of : Net → Memory → ℕ → Entered
open_of net memory D = entering (open_checked net D) (halted (opened net memory D)) (opened net memory D)

abbrev pub wait_of : OpenRun → ℕ → Entered
wait_of r w = entering (wait_checked r w) r (with_run r (wait_added r.run w))

abbrev pub fire_of : OpenRun → ℕ → Entered
fire_of r t = entering (fire_checked r t) r (with_run r (fire_added r.run t))

-- "closing writes the card of the accepted steps and no other"
abbrev pub close_of : OpenRun → ℕ → Outcome
close_of r w = written_if (wait_checked r w) ((card_of run_card r.net).text (wait_added r.run w))

-- "Closing into too short an output is 9 and leaves the run open"
abbrev pub left_by : Reply → OpenRun → OpenRun
left_by (Ok n) r = halted r
left_by (Err e) r = r

abbrev pub closing : OpenRun → ℕ → List ℕ → Closing
closing r w out = record { reply = reply_to (close_of r w) out; run = left_by (reply_to (close_of r w) out) r }

-- ---- the calls, "as if it closed there with rest 0"
abbrev pub state_of : OpenRun → Outcome
state_of r = once_checked (still r) (replay_of r.net r.run)

-- the order of the firings so far
abbrev pub order_so_far : Run → Order
order_so_far q = record { sheet = q.sheet; memory = q.memory; count = q.count; fires = order_of q.firings }

abbrev pub timetable_now : OpenRun → Outcome
timetable_now r = once_checked (still r) (timetable_of r.net (order_so_far r.run))
