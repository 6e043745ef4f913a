-- The class of the byte at the position says whether it is the separator (`ends_by`).
use Rattle.std.proofs.Common.{sym, ◌∙◌}
use Rattle.text.specs.declared.ByteClass.TheVariants.{Comma, LineEnd}
use Rattle.text.proofs.ReadNumber.{separated_short, separated_class, ends_none}
use Rattle.text.proofs.separated.Goals as goal

pub returns-then-s-at : goal.returns-then-s-at
returns-then-s-at c = let a = c.args in separated_short a.s.now a.at a.last c.if-s-at.true

pub returns-in-LineEnd : goal.returns-in-LineEnd
returns-in-LineEnd c = let a = c.args in
    separated_class a.s.now a.at a.last LineEnd c.if-s-at.false (sym c.class_of.ensures ∙ c.in-LineEnd.is)

pub returns-in-Comma : goal.returns-in-Comma
returns-in-Comma c = let a = c.args in
    separated_class a.s.now a.at a.last Comma c.if-s-at.false (sym c.class_of.ensures ∙ c.in-Comma.is)

pub returns-in_default : goal.returns-in_default
returns-in_default c = let a = c.args in
    ends_none a.last c.class_of.result c.in_default.not-Comma c.in_default.not-LineEnd
    ∙ separated_class a.s.now a.at a.last c.class_of.result c.if-s-at.false (sym c.class_of.ensures)
