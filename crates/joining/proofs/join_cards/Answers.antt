-- The first net is read, and what is left is joined with it.
use Rattle.std.proofs.Common.{sym, ◌∙◌}
use Rattle.joining.proofs.Inputs.{front_passed}
use Rattle.joining.proofs.join_cards.Goals as goal

pub join_behind-requires : goal.join_behind-requires
join_behind-requires c = front_passed c.args.input.now (sym c.read_net.ensures ∙ c.in_ok-a.was)
