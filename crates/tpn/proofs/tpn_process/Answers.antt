-- The reply is the operation's, and its result tells it, since lengths and places are small.
use lib.Dec.{lit<}
use Rattle.operations.proofs.Lengths.{process_bounds}
use Rattle.tpn.proofs.Results.{reply_narrow, returned}
use Rattle.tpn.proofs.tpn_process.Goals as goal

pub result_of-requires : goal.result_of-requires
result_of-requires c = let s = c.args.input.now in
    reply_narrow (process_bounds s) (lit< tt) (lit< tt) c.process_cards-r.ensures

pub returns : goal.returns
returns c = let s = c.args.input.now in
    returned (process_bounds s) (lit< tt) (lit< tt) c.process_cards-r.ensures c.result_of.ensures
