-- The list is read; more than 32 numbers cannot be right, and fewer are held.
use Rattle.std.proofs.Common.{refl, sym, ◌∙◌}
use Rattle.joining.proofs.Checking.{longer_list}
use Rattle.joining.proofs.Inputs.{list_held, list_longer}
use Rattle.joining.proofs.join_by.Goals as goal

pub returns-then-pairs-gt32 : goal.returns-then-pairs-gt32
returns-then-pairs-gt32 c =
    let (list, next, long, e) = list_longer c.args.s.now (sym c.read_pairs.ensures ∙ c.in_ok-pairs.was) c.if-pairs-gt32.true in
    rw (e, longer_list c.args.a c.args.b list c.requires.0 c.requires.1 long) (record { reply = refl; output = refl })

pub returns : goal.returns
returns c =
    rw (list_held c.args.s.now (sym c.read_pairs.ensures ∙ c.in_ok-pairs.was) c.if-pairs-gt32.false).1 c.join_nets.ensures
