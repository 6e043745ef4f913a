-- X is replayed, then Y: a refusal is the answer, and behind two replays that pass the orders decide.
use Rattle.std.proofs.Common.{◌∙◌, true, false}
use Rattle.reply.proofs.Exit.{exits}
use Rattle.ranking.proofs.Comparing.{replay_says, x_stops, y_stops, one_order_lem}
use Rattle.ranking.proofs.check_rankable.Goals as goal

pub returns-in_err-play : goal.returns-in_err-play
returns-in_err-play c = let a = c.args in
    exits c.from_residual.ensures.1 ∙ x_stops a.net a.x a.y (replay_says a.net a.x c.play.ensures ∙ c.in_err-play.was)

pub returns-in_err-play-2 : goal.returns-in_err-play-2
returns-in_err-play-2 c = let a = c.args in
    exits c.from_residual-in_err-play-2.ensures.1
    ∙ y_stops a.net a.x a.y (replay_says a.net a.x c.play.ensures ∙ c.in_ok-play.was) (replay_says a.net a.y c.play-2.ensures ∙ c.in_err-play-2.was)

pub returns-then-same_memory-same_firings : goal.returns-then-same_memory-same_firings
returns-then-same_memory-same_firings c = let a = c.args in
    one_order_lem a.net a.x a.y (replay_says a.net a.x c.play.ensures ∙ c.in_ok-play.was) {b = true} (replay_says a.net a.y c.play-2.ensures ∙ c.in_ok-play-2.was)
    (rw (← c.same_memory.ensures, ← c.same_firings.ensures) c.if-same_memory-same_firings.true)

pub returns : goal.returns
returns c = let a = c.args in
    one_order_lem a.net a.x a.y (replay_says a.net a.x c.play.ensures ∙ c.in_ok-play.was) {b = false} (replay_says a.net a.y c.play-2.ensures ∙ c.in_ok-play-2.was)
    (rw (← c.same_memory.ensures, ← c.same_firings.ensures) c.if-same_memory-same_firings.false)
