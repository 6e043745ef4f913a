-- A run entered by lines: each line, its byte 10 included, is a step, the closing or a call, and is answered by text.
use Rattle.std.specs.Prelude.{ℕ, cond, List, Err, Option, Some, None}
use Rattle.laws.specs.Tests.{same_numbers}
use Rattle.reply.specs.declared.Refusal.TheVariants.{Malformed}
use Rattle.reply.specs.Respond.{Outcome, answer, refusal, Checked, Passed}
use Rattle.text.specs.Key.{bytes}
use Rattle.form.specs.Form.{Found, found, refused, keyed, alone}
use Rattle.form.specs.Line.{ranged, number}
use Rattle.console.specs.Printed.{refusal_text}
use Rattle.open_run.specs.declared.OpenRun.{OpenRun}
use Rattle.open_run.specs.Open.{halted, wait_of, fire_of, close_of, state_of, timetable_now}
use Rattle.session.specs.declared.Entry.{Entry}
use Rattle.session.specs.declared.Entry.TheVariants.{Wait, Fire, Rest, State, Timetable}

-- ---- what a line asks for
-- the whole of a line as a key and a number, whatever its size
abbrev pub number_behind : List ℕ → List ℕ → Found ℕ
number_behind key s = alone (keyed key (number (ranged 0 999999999))) s

abbrev pub entry_if : Found ℕ → (ℕ → Entry) → Option Entry → Option Entry
entry_if (found n next) entry other = Some (entry n)
entry_if (refused e) entry other = other

-- `wait=W`, `fire=T`, `rest=R`, `state`, `timetable`
unfoldable pub entry_of : List ℕ → Option Entry
entry_of s =
    entry_if (number_behind (bytes "wait=") s) Wait
    (entry_if (number_behind (bytes "fire=") s) Fire
    (entry_if (number_behind (bytes "rest=") s) Rest
    (cond (same_numbers s (bytes "state\n")) (Some State) (cond (same_numbers s (bytes "timetable\n")) (Some Timetable) None))))

-- ---- what is answered: `ok` for an accepted step, an answer as it is, and the two lines of a refusal
abbrev pub told_text : Checked → List ℕ
told_text Passed = bytes "ok\n"
told_text (Err e) = refusal_text e

abbrev pub shown_text : Outcome → List ℕ
shown_text (answer text) = text
shown_text (refusal e) = refusal_text e

-- the answer to line number n: a line that asks for nothing is 1 at its number, whether or not the run is closed
abbrev pub entry_text : OpenRun → ℕ → Option Entry → List ℕ
entry_text r n (Some (Wait w)) = told_text (wait_of r w).checked
entry_text r n (Some (Fire t)) = told_text (fire_of r t).checked
entry_text r n (Some (Rest w)) = shown_text (close_of r w)
entry_text r n (Some State) = shown_text (state_of r)
entry_text r n (Some Timetable) = shown_text (timetable_now r)
entry_text r n None = refusal_text (Malformed n)

-- ---- the record behind a line
abbrev pub closed_by : Outcome → OpenRun → OpenRun
closed_by (answer text) r = halted r
closed_by (refusal e) r = r

abbrev pub entry_leaves : OpenRun → Option Entry → OpenRun
entry_leaves r (Some (Wait w)) = (wait_of r w).run
entry_leaves r (Some (Fire t)) = (fire_of r t).run
entry_leaves r (Some (Rest w)) = closed_by (close_of r w) r
entry_leaves r (Some State) = r
entry_leaves r (Some Timetable) = r
entry_leaves r None = r

abbrev pub line_text : OpenRun → ℕ → List ℕ → List ℕ
line_text r n s = entry_text r n (entry_of s)

abbrev pub line_leaves : OpenRun → List ℕ → OpenRun
line_leaves r s = entry_leaves r (entry_of s)
