-- A read stands right behind what was read before it.
use Rattle.std.proofs.Common.{ℕ, ◌+◌, ◌≤◌, ◌≡◌, List, ◌++◌, length, take, length-take-le, rules, sym, ap, subst, ◌∙◌}
use Rattle.std.proofs.KnownBytes.{Consumes-trans}
use Rattle.std.specs.Io.KnownBytes.{Consumes}
use lib.Seq.{take-append-add, take-append-le}
use Rattle.console.proofs.read_full.Goals as goal

front_grows : (n more : ℕ) (xs ys rest : List ℕ) → n ≤ length xs → more ≤ length ys → take (n + more) (take n xs ++ (ys ++ rest)) ≡ take n xs ++ take more ys
front_grows n more xs ys rest within fits =
    ap (λ k. take (k + more) (take n xs ++ (ys ++ rest))) (sym (length-take-le n xs within))
    ∙ take-append-add (take n xs) (ys ++ rest) more
    ∙ ap (λ l. take n xs ++ l) (take-append-le more ys rest fits)

pub loop-n-preserved : goal.loop-n-preserved
loop-n-preserved g c =
    let read = c.in-Ok.ensures in
    let front = front_grows c.loop-n.n c.in-Ok.more c.loop-n.buffer c.read.new.buf _ c.loop-n.invariant.0 read.bound.0 in
    (search rules, search rules, subst (Consumes _ _) (sym front) (Consumes-trans _ _ _ _ _ c.loop-n.invariant.2 read.bytes.0))
