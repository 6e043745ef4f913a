-- A digit with the separator right behind it is a number of one digit; any other zero is a leading one.
use Rattle.std.proofs.Common.{sym, ◌∙◌}
use Rattle.text.proofs.ReadNumber.{digits_stop, digits_end, field_nothing, field_one, field_zero}
use Rattle.text.proofs.field_at.Goals as goal
use Rattle.text.proofs.field_at.Goals.{then-s-at-via-then-s-at, then-s-at-via-else-s-at+then-not-is_digit}

pub returns-then-s-at : goal.returns-then-s-at
returns-then-s-at c = let a = c.args in
    elim c.then-s-at.branch [
      | then-s-at-via-then-s-at w ↦ field_nothing a.s.now a.at a.last (digits_end a.s.now a.at w.if-s-at.true)
      | then-s-at-via-else-s-at+then-not-is_digit w ↦
          field_nothing a.s.now a.at a.last
          (digits_stop a.s.now a.at w.if-s-at.false (sym w.is_digit.ensures ∙ w.if-not-is_digit.true))
    ]

pub returns-then-separated : goal.returns-then-separated
returns-then-separated c = let a = c.args in
    field_one a.s.now a.at a.last c.if-s-at.false (sym c.is_digit.ensures ∙ c.if-not-is_digit.false) (sym c.separated.ensures ∙ c.if-separated.true)

pub returns-in-Zero : goal.returns-in-Zero
returns-in-Zero c = let a = c.args in
    field_zero a.s.now a.at a.last c.if-s-at.false (sym c.class_of.ensures ∙ c.in-Zero.is) (sym c.separated.ensures ∙ c.if-separated.false)
