-- A line is a word where each byte is.
use Prim.Native.Nat.{ℕ}
use mathlib.Core.Path.{◌≡◌, refl, ap, ◌∙◌}
use mathlib.Core.Bool.{Bool, ◌&&◌}
use mathlib.Core.List.{List, [], ◌∷◌}
use lib.Dec.{eqb}
use lib.Pointwise.{pointwise}
use Rattle.laws.specs.Tests.{same_numbers}
use Rattle.session.proofs.is_word.Goals as goal

same : (s word : List ℕ) → pointwise eqb s word ≡ same_numbers s word
unfolding same_numbers
same [] [] = refl
same [] (b ∷ word) = refl
same (a ∷ s) [] = refl
same (a ∷ s) (b ∷ word) = ap (λ (t : Bool). eqb a b && t) (same s word)

pub returns : goal.returns
returns c = c.eq.ensures ∙ same c.args.line.now c.args.word.now
