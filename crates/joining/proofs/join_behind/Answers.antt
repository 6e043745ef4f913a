-- The second net is read, and the list from what is left.
use Rattle.std.proofs.Common.{sym, ◌∙◌}
use Rattle.joining.proofs.Inputs.{front_passed}
use Rattle.joining.proofs.join_behind.Goals as goal

pub join_by-requires : goal.join_by-requires
join_by-requires c = (c.requires, front_passed c.args.s.now (sym c.read_net.ensures ∙ c.in_ok-b.was))
