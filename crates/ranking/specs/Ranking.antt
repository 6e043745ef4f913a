-- Document 02, "Ranking two answers": what ranking two runs of a net comes to, over values and over cards. Both are read, then replayed, X before Y; runs that
-- are not of one order are refused after that.
use Rattle.std.specs.Prelude.{ℕ, suc, cond, List, ◌∷◌, ◌++◌, ℤ, pos, negsuc, Result, Ok, Err}
use Rattle.reply.specs.declared.Refusal.{Refusal}
use Rattle.reply.specs.declared.Refusal.TheVariants.{OtherOrder}
use Rattle.reply.specs.Respond.{Outcome, answer, refusal, Checked, Passed}
use Rattle.text.specs.Key.{bytes}
use Rattle.text.specs.Decimal.{decimal}
use Rattle.form.specs.Form.{also}
use Rattle.net.specs.declared.Net.{Net}
use Rattle.run.specs.declared.Run.{Run}
use Rattle.cards.specs.Cards.{two_runs, two_runs_checked}
use Rattle.operations.specs.Operation.{once_read}
use Rattle.operations.specs.Replay.{replayed}
use Rattle.ranking.specs.declared.Ranking.{Ranking}
use Rattle.ranking.specs.Lead.{of_one_order, lead_of, sign_of}

-- why two runs are not ranked: X's replay, then Y's, then 10
abbrev pub rankable : Net → Run → Run → Checked
rankable net x y = also (replayed net x) (also (replayed net y) (cond (of_one_order x y) Passed (Err OtherOrder)))

-- what ranking tells: a rank and a lead, or why there is none
abbrev pub Told : Type 0
Told = Result Ranking Refusal

abbrev pub Ranked : ℤ → ℤ → Told
Ranked rank lead = Ok (record { rank = rank; lead = lead })

-- a ranking that counts once a check is passed
abbrev pub ranked_if : Checked → Told → Told
ranked_if Passed r = r
ranked_if (Err e) r = Err e

abbrev pub rank_of : Net → Run → Run → Told
rank_of net x y = ranked_if (rankable net x y) (Ranked (sign_of (lead_of x y)) (lead_of x y))

abbrev pub rank_values : Net → Run → Run → Told
rank_values net x y = ranked_if (two_runs_checked net x y) (rank_of net x y)

-- a number with its sign: a minus and no plus
abbrev pub signed : ℤ → List ℕ
signed (pos n) = decimal n
signed (negsuc n) = 45 ∷ decimal (suc n)

-- the lines `rank` and `lead`, or the refusal
abbrev pub lead_lines : ℤ → ℤ → List ℕ
lead_lines rank lead = (bytes "rank=" ++ (signed rank ++ bytes "\n")) ++ (bytes "lead=" ++ (signed lead ++ bytes "\n"))

abbrev pub printed : Told → Outcome
printed (Ok r) = answer (lead_lines r.rank r.lead)
printed (Err e) = refusal e

abbrev pub rank_cards : List ℕ → Outcome
rank_cards s = once_read (two_runs s) (λ v. printed (rank_of v.0 v.1.0 v.1.1))
