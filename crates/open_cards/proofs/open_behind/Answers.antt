-- The lines are read, nothing follows them, and the run that they open is open; each way out is one case of that.
use Rattle.std.proofs.Common.{refl, sym, ◌∙◌}
use Rattle.reply.proofs.Exit.{exits}
use Rattle.open_run.specs.Open.{opened, halted, open_checked}
use Rattle.open_run.proofs.Accepted.{open_opened}
use Rattle.open_cards.proofs.Opening.{lines_stopped, lines_followed, lines_answered}
use Rattle.open_cards.proofs.Records.{entered_card}
use Rattle.open_cards.proofs.open_behind.Goals as goal

pub returns-in_err-memory : goal.returns-in_err-memory
returns-in_err-memory c = let a = c.args in
    rw (exits c.from_residual.ensures.1, lines_stopped a.net a.s.now (sym c.read_opening.ensures ∙ c.in_err-memory.was)) (record { reply = refl; output = refl })

pub returns-then-next-s : goal.returns-then-next-s
returns-then-next-s c = let a = c.args in
    rw (lines_followed a.net a.s.now (sym c.read_opening.ensures ∙ c.in_ok-memory.was) c.if-next-s.true) (record { reply = refl; output = refl })

pub respond_entered-requires : goal.respond_entered-requires
respond_entered-requires c = let net = c.args.net in
    let o = c.in_ok-memory in
    let run = opened net o.memory o.denominator in
    entered_card (halted run) run (open_checked net o.denominator) (open_opened net o.denominator o.memory) c.open_on.ensures

pub returns : goal.returns
returns c = let a = c.args in
    lines_answered a.net a.s.now (sym c.read_opening.ensures ∙ c.in_ok-memory.was) c.requires c.if-next-s.false c.open_on.ensures c.respond_entered.ensures
