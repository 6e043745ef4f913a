-- Each arm of the code is that of the definition, and every text fits the output.
use Rattle.std.proofs.Common.{sym, ap, ◌∙◌, Some, rules}
use Rattle.laws.specs.Tables.{length_mapped}
use Rattle.session.proofs.Fronts.{wait_line, fire_line, close_line, state_line, timetable_line, no_line}
use Rattle.session.proofs.answer_line.Goals as goal

pub returns-in-Wait : goal.returns-in-Wait
returns-in-Wait c = let a = c.args in
    wait_line a.run a.n a.line.now a.out.now (sym c.read_entry.ensures ∙ c.in-Some.is ∙ ap Some c.in-Wait.is) c.enter_wait-e.ensures c.told.ensures

pub returns-in-Fire : goal.returns-in-Fire
returns-in-Fire c = let a = c.args in
    fire_line a.run a.n a.line.now a.out.now (sym c.read_entry.ensures ∙ c.in-Some.is ∙ ap Some c.in-Fire.is) c.enter_fire-e.ensures c.told-in-Fire.ensures

pub returns-in-Rest : goal.returns-in-Rest
returns-in-Rest c = let a = c.args in
    close_line a.run a.n a.line.now a.out.now (search (rules, length_mapped))
    (sym c.read_entry.ensures ∙ c.in-Some.is ∙ ap Some c.in-Rest.is) c.finish-c.ensures c.shown.ensures

pub returns-in-State : goal.returns-in-State
returns-in-State c = let a = c.args in
    state_line a.run a.n a.line.now a.out.now (search (rules, length_mapped))
    (sym c.read_entry.ensures ∙ c.in-Some.is ∙ ap Some c.in-State.is) c.state-r.ensures c.shown-in-State.ensures

pub returns-in-Timetable : goal.returns-in-Timetable
returns-in-Timetable c = let a = c.args in
    timetable_line a.run a.n a.line.now a.out.now (search (rules, length_mapped))
    (sym c.read_entry.ensures ∙ c.in-Some.is ∙ ap Some c.in-Timetable.is) c.timetable-r.ensures c.shown-in-Timetable.ensures

pub returns-in_default : goal.returns-in_default
returns-in_default c = let a = c.args in
    no_line a.run a.n a.line.now a.out.now (sym c.read_entry.ensures ∙ c.in_default.is) c.put_refused-length.ensures
