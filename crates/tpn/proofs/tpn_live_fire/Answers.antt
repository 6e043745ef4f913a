-- The reply is the operation's, and its result tells it, since lengths and places are small.
use lib.Dec.{lit<}
use Rattle.open_run.proofs.Bounds.{fire_bounds}
use Rattle.tpn.proofs.Results.{reply_narrow, returned}
use Rattle.tpn.proofs.tpn_live_fire.Goals as goal

pub result_of-requires : goal.result_of-requires
result_of-requires c = let a = c.args in
    reply_narrow (fire_bounds a.input.now a.transition) (lit< tt) (lit< tt) c.fire_cards-r.ensures

pub returns : goal.returns
returns c = let a = c.args in
    returned (fire_bounds a.input.now a.transition) (lit< tt) (lit< tt) c.fire_cards-r.ensures c.result_of.ensures
