-- The reply is the operation's, and its result tells it, since lengths and places are small.
use lib.Dec.{lit<}
use Rattle.open_run.proofs.Bounds.{close_bounds}
use Rattle.tpn.proofs.Results.{reply_narrow, returned}
use Rattle.tpn.proofs.tpn_live_close.Goals as goal

pub result_of-requires : goal.result_of-requires
result_of-requires c = let a = c.args in
    reply_narrow (close_bounds a.input.now a.rest) (lit< tt) (lit< tt) c.close_cards-r.ensures

pub returns : goal.returns
returns c = let a = c.args in
    returned (close_bounds a.input.now a.rest) (lit< tt) (lit< tt) c.close_cards-r.ensures c.result_of.ensures
