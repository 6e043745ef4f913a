-- The keys are tried in the definition's order, then the words.
use Rattle.std.proofs.Common.{refl, sym, ◌∙◌}
use Rattle.session.proofs.Lines.{entry_wait, entry_fire, entry_rest, entry_word}
use Rattle.session.proofs.read_entry.Goals as goal

pub returns-in-Ok : goal.returns-in-Ok
returns-in-Ok c = sym (entry_wait c.args.line.now (sym c.in-Ok.ensures))

pub returns-in-Ok-number_behind : goal.returns-in-Ok-number_behind
returns-in-Ok-number_behind c = sym (entry_fire c.args.line.now (_, sym c.in_default.ensures) (sym c.in-Ok-number_behind.ensures))

pub returns-in-Ok-number_behind-2 : goal.returns-in-Ok-number_behind-2
returns-in-Ok-number_behind-2 c =
    sym (entry_rest c.args.line.now (_, sym c.in_default.ensures) (_, sym c.in_default-number_behind.ensures) (sym c.in-Ok-number_behind-2.ensures))

pub returns-then-is_word : goal.returns-then-is_word
returns-then-is_word c =
    let w = entry_word c.args.line.now (_, sym c.in_default.ensures) (_, sym c.in_default-number_behind.ensures) (_, sym c.in_default-number_behind-2.ensures) in
    sym (w ∙ rw (sym c.is_word.ensures ∙ c.if-is_word.true) refl)

pub returns-then-is_word-2 : goal.returns-then-is_word-2
returns-then-is_word-2 c =
    let w = entry_word c.args.line.now (_, sym c.in_default.ensures) (_, sym c.in_default-number_behind.ensures) (_, sym c.in_default-number_behind-2.ensures) in
    sym (w ∙ rw (sym c.is_word.ensures ∙ c.if-is_word.false, sym c.is_word-2.ensures ∙ c.if-is_word-2.true) refl)

pub returns : goal.returns
returns c =
    let w = entry_word c.args.line.now (_, sym c.in_default.ensures) (_, sym c.in_default-number_behind.ensures) (_, sym c.in_default-number_behind-2.ensures) in
    sym (w ∙ rw (sym c.is_word.ensures ∙ c.if-is_word.false, sym c.is_word-2.ensures ∙ c.if-is_word-2.false) refl)
