-- Document 01, "Process": neighbours that are free of each other.
use Rattle.std.specs.Prelude.{ℕ, suc, Bool, false, cond, ◌||◌, List, [], ◌∷◌, eqb, drop}
use Rattle.causal.specs.Process.{Item, Event}

-- some of the items are tokens that firing i gave
unfoldable pub took_from : ℕ → List Item → Bool
took_from i [] = false
took_from i (x ∷ items) = eqb x.producer i || took_from i items

-- the firings after firing i are at hand: firing i is in the list where the next took nothing of it
unfoldable pub free_from : ℕ → List Event → List ℕ
free_from i [] = []
free_from i (e ∷ later) = let more = free_from (suc i) later in cond (took_from i e.from) more (i ∷ more)

-- "ascending, each i for which firing i+1 exists and took no token given by firing i"
unfoldable pub free : List Event → List ℕ
free firings = free_from 1 (drop 1 firings)
