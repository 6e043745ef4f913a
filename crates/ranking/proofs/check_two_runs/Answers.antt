-- The net and X are checked first: a refusal is the answer, and behind a check that passes the lines of Y decide.
use Rattle.std.proofs.Common.{sym, ◌∙◌}
use Rattle.reply.proofs.Exit.{exits}
use Rattle.ranking.proofs.Comparing.{two_runs_lem}
use Rattle.ranking.proofs.check_two_runs.Goals as goal

pub returns : goal.returns
returns c = let a = c.args in
    c.check_lines.ensures ∙ rw (two_runs_lem a.net a.x a.y, sym c.check.ensures ∙ c.in_ok-check.was)

pub returns-in_err-check : goal.returns-in_err-check
returns-in_err-check c = let a = c.args in
    exits c.from_residual.ensures.1 ∙ rw (two_runs_lem a.net a.x a.y, sym c.check.ensures ∙ c.in_err-check.was)
