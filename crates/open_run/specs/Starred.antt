-- Cases of document 02, "The open run": one list, and one check that is computed over all of it. What is entered stands as steps; a step's check stands as an
-- outcome, without bytes where it is accepted.
use Rattle.std.specs.Prelude.{ℕ, ◌≡◌, refl, Bool, true, false, List, [], ◌∷◌, ◌++◌, replicate, set, None}
use Rattle.laws.specs.Tests.{all_below}
use Rattle.laws.specs.Arrays.{filled}
use Rattle.laws.specs.Slots.{first_of}
use Rattle.reply.specs.declared.Refusal.{Refusal}
use Rattle.reply.specs.declared.Refusal.TheVariants.{OutOfRange, NoSuchTransition, NotEnabled, OutsideInterval, ClosedRun}
use Rattle.reply.specs.Respond.{Outcome, answer, refusal, written_if}
use Rattle.text.specs.Key.{bytes}
use Rattle.text.specs.Decimal.{digits, width, decimal}
use Rattle.form.specs.Form.{texts, lines_of, checks}
use Rattle.form.specs.Line.{items_text, all_ranged}
use Rattle.net.specs.declared.Net.{Net}
use Rattle.net.specs.Net.{take_of, give_of, rows_of}
use Rattle.run.specs.declared.Memory.TheVariants.{Intermediate, Atomic}
use Rattle.run.specs.declared.Firing.{Firing}
use Rattle.run.specs.Run.{no_firing, firings_of, fires_of, order_of}
use Rattle.firing.specs.Semantics.{start_marking, enough, taken, after, rule_of}
use Rattle.firing.specs.Replay.{start_state, waited, clock_of, timely, limited, judged_by, renewed, fired, play, replay}
use Rattle.firing.specs.Tokens.{tokens_judged, tokens}
use Rattle.timing.specs.Windows.{windows_from, windows_of, instants}
use Rattle.timing.specs.Schedule.{verdict_of, waits_from, waits_between, schedule}
use Rattle.timing.specs.Rounding.{zip_firings, timetable_run}
use Rattle.operations.specs.Replay.{clocks_text}
use Rattle.operations.specs.Starred.{Case, row_for, net_for, net_a, same_bytes, same_outcome, cases_hold}
use Rattle.open_run.specs.declared.OpenRun.{OpenRun}
use Rattle.open_run.specs.Open.{blank_behind, is_open, opened, halted, open_of, close_of, state_of, timetable_now}
use Rattle.open_run.specs.Claims.{RunStep, waits, fires, step_of, behind}

-- net A, under atomic memory and in halves of a tick; and a place whose token one transition takes and gives, at any time
entered_a : List RunStep → OpenRun
entered_a ss = behind (opened net_a Atomic 2) ss

net_f : Net
net_f = net_for 7 (1 ∷ []) (row_for 0 None (1 ∷ []) (1 ∷ []) ∷ [])

full : OpenRun
full = behind (opened net_f Intermediate 1) (replicate 64 (fires 0))

-- a record of net A that was made by hand
forged : ℕ → ℕ → ℕ → List Firing → ℕ → Bool → OpenRun
forged sheet D count firings rest running =
    record { net = net_a; run = record { sheet = sheet; memory = Atomic; denominator = D; count = count; firings = firings; rest = rest }; running = running }

slots : List Firing
slots = replicate 64 no_firing

-- ---- what is expected
stepped : OpenRun → RunStep → Outcome → Case
stepped r s o = record { comes_to = written_if (step_of r s).checked []; should = o }

shown : Outcome → List ℕ → Case
shown o text = record { comes_to = o; should = answer text }

refused : Outcome → Refusal → Case
refused o e = record { comes_to = o; should = refusal e }

closed_to : OpenRun → List Case
closed_to r =
    stepped r (waits 0) (refusal ClosedRun)
    ∷ stepped r (fires 0) (refusal ClosedRun)
    ∷ refused (close_of r 0) ClosedRun
    ∷ refused (state_of r) ClosedRun
    ∷ refused (timetable_now r) ClosedRun
    ∷ []

pub open_cases : List Case
open_cases =
    shown (state_of (entered_a (waits 3 ∷ []))) (bytes "end=1,1\nclock=3\nclock=3\n")
    ∷ shown (state_of (entered_a (waits 3 ∷ fires 0 ∷ waits 1 ∷ waits 2 ∷ []))) (bytes "end=1,1\nclock=3\nclock=6\n")
    ∷ stepped (entered_a (waits 3 ∷ fires 0 ∷ waits 3 ∷ fires 0 ∷ [])) (fires 9) (refusal (NoSuchTransition 3))
    ∷ shown (timetable_now (entered_a (waits 3 ∷ fires 0 ∷ waits 3 ∷ fires 0 ∷ fires 9 ∷ fires 1 ∷ waits 5 ∷ [])))
    (bytes "sheet=1\nmemory=atomic\ndenominator=1\nfirings=3\nwait=1\nfire=0\nwait=1\nfire=0\nwait=1\nfire=1\nrest=0\n")
    ∷ shown (close_of (entered_a (waits 3 ∷ fires 0 ∷ waits 3 ∷ fires 0 ∷ fires 9 ∷ fires 1 ∷ waits 5 ∷ [])) 2)
    (bytes "sheet=1\nmemory=atomic\ndenominator=2\nfirings=3\nwait=3\nfire=0\nwait=3\nfire=0\nwait=0\nfire=1\nrest=7\n")
    ∷ stepped (entered_a []) (fires 0) (refusal (OutsideInterval 1))
    ∷ stepped (entered_a (waits 6 ∷ fires 1 ∷ [])) (fires 0) (refusal (NotEnabled 2))
    ∷ stepped (entered_a (waits 6000000 ∷ [])) (waits 6000000) (refusal (OutOfRange 1))
    ∷ stepped (entered_a (waits 6000000 ∷ waits 6000000 ∷ [])) (waits 4000000) (answer [])
    ∷ stepped (entered_a (waits 6000000 ∷ [])) (waits 4294967295) (refusal (OutOfRange 1))
    ∷ stepped full (fires 99) (refusal (OutOfRange 65))
    ∷ stepped full (fires 0) (refusal (OutOfRange 65))
    ∷ stepped full (waits 1) (answer [])
    ∷ stepped full (waits 10000001) (refusal (OutOfRange 65))
    ∷ refused (close_of full 10000001) (OutOfRange 65)
    ∷ refused (written_if (open_of net_a Atomic 0).checked []) (OutOfRange 0)
    ∷ refused (written_if (open_of net_a Atomic 1001).checked []) (OutOfRange 0)
    ∷ refused (written_if (open_of (net_for 1 (replicate 17 1) []) Atomic 0).checked []) (OutOfRange 2)
    ∷ stepped (forged 1 2 0 slots 0 true) (waits 0) (answer [])
    ∷ closed_to (halted (entered_a []))
    ++ closed_to (open_of net_a Atomic 0).run
    ++ closed_to (forged 1 2 65 slots 0 true)
    ++ closed_to (forged 1 2 0 slots 10000001 true)
    ++ closed_to (forged 1 0 0 slots 0 true)
    ++ closed_to (forged 2 2 0 slots 0 true)
    ++ closed_to (forged 1 2 1 slots 0 true)
    ++ closed_to (forged 1 2 0 (set slots 63 (record { wait = 1; fire = 0 })) 0 true)
    ++ closed_to (forged 1 2 0 (set slots 0 (record { wait = 0; fire = 1 })) 0 true)
    ++ closed_to (forged 1 2 0 slots 0 false)

pub open_hold : cases_hold open_cases ≡ true
unfolding entered_a net_f full forged slots stepped shown refused closed_to open_cases row_for net_for net_a same_bytes same_outcome cases_hold
    filled first_of all_below decimal digits width texts lines_of checks items_text all_ranged take_of give_of rows_of firings_of fires_of order_of
    start_marking enough taken after rule_of start_state waited clock_of timely limited judged_by renewed fired play replay tokens_judged tokens
    windows_from windows_of instants verdict_of waits_from waits_between schedule zip_firings timetable_run clocks_text blank_behind is_open behind
open_hold = refl
