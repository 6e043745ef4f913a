-- The reply is the operation's, and its result tells it, since lengths and places are small.
use lib.Dec.{lit<}
use Rattle.joining.proofs.Bounds.{join_bounds}
use Rattle.tpn.proofs.Results.{reply_narrow, returned}
use Rattle.tpn.proofs.tpn_join.Goals as goal

pub result_of-requires : goal.result_of-requires
result_of-requires c = let s = c.args.input.now in
    reply_narrow (join_bounds s) (lit< tt) (lit< tt) c.join_cards-r.ensures

pub returns : goal.returns
returns c = let s = c.args.input.now in
    returned (join_bounds s) (lit< tt) (lit< tt) c.join_cards-r.ensures c.result_of.ensures
