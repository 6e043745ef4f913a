-- Document 02, Q-3: the first line of a net, run or order card, `sheet` (0 to 9,999).
use Rattle.reply.specs.Respond.{Checked, Passed}
use Rattle.std.specs.Prelude.{ℕ, cond, eqb, Err}
use Rattle.reply.specs.declared.Refusal.TheVariants.{AnotherSheet}
use Rattle.text.specs.Key.{bytes}
use Rattle.form.specs.Form.{also, Form, keyed, chain}
use Rattle.form.specs.Line.{ranged, number}

-- a sheet that is not the net's own is 11, once it is in range
abbrev pub sheet_checked : ℕ → ℕ → ℕ → Checked
sheet_checked own n line = also (ranged 0 9999 n line) (cond (eqb n own) Passed (Err (AnotherSheet line)))

-- the line of a net card, and that of a card of a net on its own sheet
abbrev pub sheet : Form ℕ
sheet = keyed (bytes "sheet=") (number (ranged 0 9999))

abbrev pub sheet_of : ℕ → Form ℕ
sheet_of own = keyed (bytes "sheet=") (number (sheet_checked own))

-- the lines of a card behind the line of its net's sheet
abbrev pub on_sheet : {A : Type 0} → ℕ → Form A → Form (ℕ × A)
on_sheet own f = chain (sheet_of own) (λ _. f)
