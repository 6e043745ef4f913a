-- The reply is the operation's, and its result tells it, since lengths and places are small.
use lib.Dec.{lit<}
use Rattle.open_run.proofs.Bounds.{timetable_now_bounds}
use Rattle.tpn.proofs.Results.{reply_narrow, returned}
use Rattle.tpn.proofs.tpn_live_timetable.Goals as goal

pub result_of-requires : goal.result_of-requires
result_of-requires c = let a = c.args in
    reply_narrow (timetable_now_bounds a.input.now) (lit< tt) (lit< tt) c.timetable_cards-r.ensures

pub returns : goal.returns
returns c = let a = c.args in
    returned (timetable_now_bounds a.input.now) (lit< tt) (lit< tt) c.timetable_cards-r.ensures c.result_of.ensures
