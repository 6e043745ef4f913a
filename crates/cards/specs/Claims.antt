-- Document 02, Q-3: what a run or order on another sheet is, over bytes.
use Rattle.reply.specs.Respond.{Passed}
use Rattle.std.specs.Prelude.{ℕ, ◌≤◌, ◌≡◌, List, ◌++◌}
use Rattle.form.specs.Sheet.{sheet}
use Rattle.net.specs.declared.Net.{Net}
use Rattle.net.specs.Net.{net_card}
use Rattle.run.specs.declared.Run.{Run}
use Rattle.run.specs.Run.{run_card}
use Rattle.cards.specs.Cards.{card_of, run_checked}

-- a line with another sheet within the range, whatever stands behind it
abbrev pub AnotherAhead : ℕ → List ℕ → Type 0
AnotherAhead own s = (n : ℕ) × (rest : List ℕ) × (n ≤ 9999) × (n ≡ own → ⊥) × (s ≡ sheet.text n ++ rest)

-- the card of a net, and behind it such a line
abbrev pub OnAnotherSheet : List ℕ → Type 0
OnAnotherSheet s = (net : Net) × (behind : List ℕ) × (net_card.check net 1 ≡ Passed) × (s ≡ net_card.text net ++ behind) × AnotherAhead net.sheet behind

-- the cards of a net and of a run of it, and behind them such a line
abbrev pub SecondOnAnother : List ℕ → Type 0
SecondOnAnother s =
    (net : Net) × (x : Run) × (behind : List ℕ) × (run_checked net x ≡ Passed) × (s ≡ net_card.text net ++ ((card_of run_card net).text x ++ behind))
    × AnotherAhead net.sheet behind
