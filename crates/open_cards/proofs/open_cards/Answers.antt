-- The net is read, and the run is opened by what is left.
use Rattle.std.proofs.Common.{refl, sym, ◌∙◌}
use Rattle.reply.proofs.Exit.{exits}
use Rattle.open_cards.proofs.Opening.{net_passed, net_answered}
use Rattle.open_cards.proofs.open_cards.Goals as goal

pub returns-in_err-net : goal.returns-in_err-net
returns-in_err-net c = rw (exits c.from_residual.ensures.1, sym c.read_net.ensures ∙ c.in_err-net.was) (record { reply = refl; output = refl })

pub open_behind-requires : goal.open_behind-requires
open_behind-requires c = net_passed c.args.input.now (sym c.read_net.ensures ∙ c.in_ok-net.was)

pub returns : goal.returns
returns c = net_answered c.args.input.now (sym c.read_net.ensures ∙ c.in_ok-net.was) c.remainder.ensures.0 c.open_behind.ensures
