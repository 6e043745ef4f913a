-- The starred cases of document 01, "A session on paper": one list, and one check that is computed over all of it. Each case is what an operation over
-- values comes to, the bytes of its answer included. Where 01 names no memory word, the case stands under all three. Behind them the cases of the change requests.
use Rattle.std.specs.Prelude.{ℕ, ◌≡◌, refl, Bool, true, false, ◌&&◌, List, [], ◌∷◌, ◌++◌, length, eqb, None, Option, Some}
use Rattle.laws.specs.Tests.{all_below}
use Rattle.laws.specs.Arrays.{filled}
use Rattle.laws.specs.Slots.{first_of, pad_to}
use Rattle.reply.specs.declared.Refusal.{Refusal}
use Rattle.reply.specs.declared.Refusal.TheVariants.{OutOfRange, NotEnabled, TooManyTokens, OutsideInterval, Untimable, AnotherSheet}
use Rattle.reply.specs.Refusal.{number_of, position_of}
use Rattle.reply.specs.Respond.{Outcome, answer, refusal}
use Rattle.text.specs.Key.{bytes}
use Rattle.text.specs.Decimal.{digits, width, decimal}
use Rattle.form.specs.Form.{texts, lines_of, checks}
use Rattle.form.specs.Line.{items_text, all_ranged}
use Rattle.net.specs.declared.Net.{Net}
use Rattle.net.specs.Net.{Row, no_row, take_of, give_of, rows_of, to_net}
use Rattle.run.specs.declared.Memory.{Memory}
use Rattle.run.specs.declared.Memory.TheVariants.{Intermediate, Atomic, Carry}
use Rattle.run.specs.declared.Run.{Run}
use Rattle.run.specs.declared.Order.{Order}
use Rattle.run.specs.Run.{no_firing, firings_of, fires_of, order_of, waits_of}
use Rattle.firing.specs.Semantics.{start_marking, enough, taken, after, rule_of}
use Rattle.firing.specs.Replay.{start_state, waited, clock_of, timely, limited, judged_by, renewed, fired, play, replay}
use Rattle.firing.specs.Tokens.{tokens_judged, tokens}
use Rattle.timing.specs.Windows.{windows_from, windows_of, instants}
use Rattle.timing.specs.Schedule.{verdict_of, waits_from, waits_between, schedule, rounded_from, rounded_waits}
use Rattle.timing.specs.Rounding.{zip_firings, last_instant, rounded_run, timetable_run}
use Rattle.operations.specs.Replay.{clocks_text, replay_values}
use Rattle.operations.specs.Round.{round_values}
use Rattle.operations.specs.Timetable.{timetable_values}

-- ---- values, with the slots of the arrays of the code
unfoldable pub row_for : ℕ → Option ℕ → List ℕ → List ℕ → Row
row_for earliest latest take give = record { interval = record { earliest = earliest; latest = latest }; take = pad_to 16 0 take; give = pad_to 16 0 give }

unfoldable pub net_for : ℕ → List ℕ → List Row → Net
net_for sheet start rs = to_net (sheet, (length start, (length rs, (pad_to 16 0 start, pad_to 32 no_row rs))))

order_for : ℕ → Memory → List ℕ → Order
order_for sheet memory order = record { sheet = sheet; memory = memory; count = length order; fires = pad_to 64 0 order }

run_for : ℕ → Memory → ℕ → List ℕ → List ℕ → Run
run_for sheet memory D waits order =
    record { sheet = sheet; memory = memory; denominator = D; count = length order; firings = pad_to 64 no_firing (zip_firings waits order); rest = 0 }

-- net A, on sheet 1: the motor pulse and the closing of the batch
unfoldable pub net_a : Net
net_a = net_for 1 (1 ∷ 1 ∷ []) (row_for 1 (Some 2) (1 ∷ 0 ∷ []) (1 ∷ 0 ∷ []) ∷ row_for 3 (Some 4) (1 ∷ 1 ∷ []) (0 ∷ 0 ∷ []) ∷ [])

unfoldable pub net_b : Net
net_b =
    net_for 2 (1 ∷ 0 ∷ 1 ∷ [])
    (row_for 0 None (1 ∷ 0 ∷ 0 ∷ []) (0 ∷ 1 ∷ 0 ∷ [])
    ∷ row_for 5 (Some 5) (0 ∷ 0 ∷ 1 ∷ []) (0 ∷ 0 ∷ 0 ∷ [])
    ∷ row_for 0 (Some 2) (0 ∷ 1 ∷ 0 ∷ []) (0 ∷ 0 ∷ 0 ∷ [])
    ∷ [])

-- one transition, 0 to inf, taking nothing and giving 255 to an empty place
giver : Net
giver = net_for 4 (0 ∷ []) (row_for 0 None (0 ∷ []) (255 ∷ []) ∷ [])

-- beside the cases of 01: one transition that stays enabled while its token is away, so that under intermediate memory it restarts as "u is t" alone
twice : Net
twice = net_for 5 (2 ∷ []) (row_for 1 (Some 2) (1 ∷ []) (1 ∷ []) ∷ [])

-- two transitions that give back the one token they take
loops : Net
loops = net_for 6 (1 ∷ []) (row_for 1 (Some 1) (1 ∷ []) (1 ∷ []) ∷ row_for 2 (Some 2) (1 ∷ []) (1 ∷ []) ∷ [])

-- ---- what an operation comes to, and what it should
pub record Case : Type 0 where
  pub comes_to : Outcome
  pub should : Outcome

-- an earliest timetable, and none
timed : Net → Memory → List ℕ → List ℕ → Case
timed net memory order text = record { comes_to = timetable_values net (order_for net.sheet memory order); should = answer text }

untimed : Net → Memory → List ℕ → Refusal → Case
untimed net memory order r = record { comes_to = timetable_values net (order_for net.sheet memory order); should = refusal r }

-- the replay of a run, and its rounding
accepted : Net → Memory → ℕ → List ℕ → List ℕ → List ℕ → Case
accepted net memory D waits order text = record { comes_to = replay_values net (run_for net.sheet memory D waits order); should = answer text }

refused : Net → Memory → ℕ → List ℕ → List ℕ → Refusal → Case
refused net memory D waits order r = record { comes_to = replay_values net (run_for net.sheet memory D waits order); should = refusal r }

-- an order, and the replay of a run, on a sheet that is not the net's
elsewhere : ℕ → Net → Memory → List ℕ → Refusal → Case
elsewhere sheet net memory order r = record { comes_to = timetable_values net (order_for sheet memory order); should = refusal r }

run_elsewhere : ℕ → Net → Memory → List ℕ → List ℕ → Refusal → Case
run_elsewhere sheet net memory waits order r = record { comes_to = replay_values net (run_for sheet memory 1 waits order); should = refusal r }

rounded : Net → Memory → ℕ → List ℕ → List ℕ → List ℕ → Case
rounded net memory D waits order text = record { comes_to = round_values net (run_for net.sheet memory D waits order); should = answer text }

pub starred : List Case
starred =
    timed net_a Intermediate (0 ∷ 0 ∷ 1 ∷ [])
    (bytes "sheet=1\nmemory=intermediate\ndenominator=1\nfirings=3\nwait=1\nfire=0\nwait=1\nfire=0\nwait=3\nfire=1\nrest=0\n")
    ∷ timed net_a Atomic (0 ∷ 0 ∷ 0 ∷ 0 ∷ 1 ∷ [])
    (bytes "sheet=1\nmemory=atomic\ndenominator=1\nfirings=5\nwait=1\nfire=0\nwait=1\nfire=0\nwait=1\nfire=0\nwait=1\nfire=0\nwait=0\nfire=1\nrest=0\n")
    ∷ untimed net_a Atomic (0 ∷ 0 ∷ 0 ∷ 0 ∷ 0 ∷ 1 ∷ []) (Untimable 6)
    ∷ timed net_a Intermediate (0 ∷ 0 ∷ 0 ∷ 0 ∷ 0 ∷ 1 ∷ [])
    (bytes "sheet=1\nmemory=intermediate\ndenominator=1\nfirings=6\nwait=1\nfire=0\nwait=1\nfire=0\nwait=1\nfire=0\n"
    ++ bytes "wait=1\nfire=0\nwait=1\nfire=0\nwait=3\nfire=1\nrest=0\n")
    ∷ untimed net_a Atomic (1 ∷ 0 ∷ []) (NotEnabled 2)
    ∷ untimed net_a Intermediate (1 ∷ 0 ∷ []) (NotEnabled 2)
    ∷ untimed net_a Carry (1 ∷ 0 ∷ []) (NotEnabled 2)
    ∷ timed net_a Atomic [] (bytes "sheet=1\nmemory=atomic\ndenominator=1\nfirings=0\nrest=0\n")
    ∷ timed net_a Intermediate [] (bytes "sheet=1\nmemory=intermediate\ndenominator=1\nfirings=0\nrest=0\n")
    ∷ timed net_a Carry [] (bytes "sheet=1\nmemory=carry\ndenominator=1\nfirings=0\nrest=0\n")
    ∷ accepted net_a Atomic 2 (3 ∷ 3 ∷ 0 ∷ []) (0 ∷ 0 ∷ 1 ∷ []) (bytes "end=0,0\nclock=off\nclock=off\n")
    ∷ rounded net_a Atomic 2 (3 ∷ 3 ∷ 0 ∷ []) (0 ∷ 0 ∷ 1 ∷ [])
    (bytes "sheet=1\nmemory=atomic\ndenominator=1\nfirings=3\nwait=1\nfire=0\nwait=2\nfire=0\nwait=0\nfire=1\nrest=0\n")
    ∷ refused net_a Intermediate 2 (3 ∷ 3 ∷ 0 ∷ []) (0 ∷ 0 ∷ 1 ∷ []) (OutsideInterval 3)
    ∷ timed net_b Atomic (0 ∷ 1 ∷ 2 ∷ []) (bytes "sheet=2\nmemory=atomic\ndenominator=1\nfirings=3\nwait=3\nfire=0\nwait=2\nfire=1\nwait=0\nfire=2\nrest=0\n")
    ∷ timed net_b Intermediate (0 ∷ 1 ∷ 2 ∷ [])
    (bytes "sheet=2\nmemory=intermediate\ndenominator=1\nfirings=3\nwait=3\nfire=0\nwait=2\nfire=1\nwait=0\nfire=2\nrest=0\n")
    ∷ timed net_b Carry (0 ∷ 1 ∷ 2 ∷ []) (bytes "sheet=2\nmemory=carry\ndenominator=1\nfirings=3\nwait=3\nfire=0\nwait=2\nfire=1\nwait=0\nfire=2\nrest=0\n")
    ∷ accepted giver Atomic 1 (0 ∷ []) (0 ∷ []) (bytes "end=255\nclock=0\n")
    ∷ accepted giver Intermediate 1 (0 ∷ []) (0 ∷ []) (bytes "end=255\nclock=0\n")
    ∷ accepted giver Carry 1 (0 ∷ []) (0 ∷ []) (bytes "end=255\nclock=0\n")
    ∷ refused giver Atomic 1 (0 ∷ 0 ∷ []) (0 ∷ 0 ∷ []) (TooManyTokens 2)
    ∷ refused giver Intermediate 1 (0 ∷ 0 ∷ []) (0 ∷ 0 ∷ []) (TooManyTokens 2)
    ∷ refused giver Carry 1 (0 ∷ 0 ∷ []) (0 ∷ 0 ∷ []) (TooManyTokens 2)
    ∷ timed twice Atomic (0 ∷ 0 ∷ []) (bytes "sheet=5\nmemory=atomic\ndenominator=1\nfirings=2\nwait=1\nfire=0\nwait=1\nfire=0\nrest=0\n")
    ∷ timed twice Intermediate (0 ∷ 0 ∷ []) (bytes "sheet=5\nmemory=intermediate\ndenominator=1\nfirings=2\nwait=1\nfire=0\nwait=1\nfire=0\nrest=0\n")
    ∷ refused twice Intermediate 1 (2 ∷ 0 ∷ []) (0 ∷ 0 ∷ []) (OutsideInterval 2)
    ∷ timed net_a Carry (0 ∷ 0 ∷ []) (bytes "sheet=1\nmemory=carry\ndenominator=1\nfirings=2\nwait=1\nfire=0\nwait=0\nfire=0\nrest=0\n")
    ∷ accepted net_a Carry 1 (1 ∷ 0 ∷ 1 ∷ []) (0 ∷ 0 ∷ 0 ∷ []) (bytes "end=1,1\nclock=2\nclock=2\n")
    ∷ refused net_a Carry 1 (1 ∷ 0 ∷ 2 ∷ []) (0 ∷ 0 ∷ 0 ∷ []) (OutsideInterval 3)
    ∷ untimed loops Carry (0 ∷ 1 ∷ 0 ∷ []) (Untimable 3)
    ∷ rounded net_a Carry 2 (3 ∷ 0 ∷ 1 ∷ []) (0 ∷ 0 ∷ 0 ∷ [])
    (bytes "sheet=1\nmemory=carry\ndenominator=1\nfirings=3\nwait=1\nfire=0\nwait=0\nfire=0\nwait=1\nfire=0\nrest=0\n")
    ∷ elsewhere 2 net_a Atomic (0 ∷ 0 ∷ 1 ∷ []) (AnotherSheet 1)
    ∷ elsewhere 10000 net_a Atomic (0 ∷ 0 ∷ 1 ∷ []) (OutOfRange 1)
    ∷ run_elsewhere 0 net_a Intermediate (9 ∷ []) (7 ∷ []) (AnotherSheet 1)
    ∷ []

-- ---- the check
unfoldable pub same_bytes : List ℕ → List ℕ → Bool
same_bytes [] [] = true
same_bytes [] (b ∷ bs) = false
same_bytes (a ∷ as') [] = false
same_bytes (a ∷ as') (b ∷ bs) = eqb a b && same_bytes as' bs

unfoldable pub same_outcome : Outcome → Outcome → Bool
same_outcome (answer text) (answer other) = same_bytes text other
same_outcome (answer text) (refusal q) = false
same_outcome (refusal r) (answer other) = false
same_outcome (refusal r) (refusal q) = eqb (number_of r) (number_of q) && eqb (position_of r) (position_of q)

unfoldable pub cases_hold : List Case → Bool
cases_hold [] = true
cases_hold (c ∷ cs) = same_outcome c.comes_to c.should && cases_hold cs

-- ---- the combined check
pub starred_hold : cases_hold starred ≡ true
unfolding row_for net_for order_for run_for net_a net_b giver twice loops timed untimed accepted refused elsewhere run_elsewhere rounded starred same_bytes same_outcome cases_hold
    filled first_of all_below decimal digits width texts lines_of checks items_text all_ranged take_of give_of rows_of firings_of fires_of order_of waits_of
    start_marking enough taken after rule_of start_state waited clock_of timely limited judged_by renewed fired play replay tokens_judged tokens
    windows_from windows_of instants verdict_of waits_from waits_between schedule rounded_from rounded_waits zip_firings last_instant rounded_run timetable_run clocks_text
starred_hold = refl
