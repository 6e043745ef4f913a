-- The reply is the operation's, and its result tells it, since lengths and places are small.
use lib.Dec.{lit<}
use Rattle.open_run.proofs.Bounds.{wait_bounds}
use Rattle.tpn.proofs.Results.{reply_narrow, returned}
use Rattle.tpn.proofs.tpn_live_wait.Goals as goal

pub result_of-requires : goal.result_of-requires
result_of-requires c = let a = c.args in
    reply_narrow (wait_bounds a.input.now a.parts) (lit< tt) (lit< tt) c.wait_cards-r.ensures

pub returns : goal.returns
returns c = let a = c.args in
    returned (wait_bounds a.input.now a.parts) (lit< tt) (lit< tt) c.wait_cards-r.ensures c.result_of.ensures
