-- A text that fits is copied to its place, which is a splice into the whole; any other is put byte by byte.
use Rattle.std.proofs.Common.{[], ◌∷◌, length, get_or}
use Rattle.text.proofs.Writing.{WritesFirst}
use Rattle.text.proofs.Writer.put_bytes.Given as goal

abbrev pub invariant-loop-b : goal.invariant-loop-b
invariant-loop-b l = WritesFirst l.text (λ k. get_or l.text k 0 ∷ []) (length l.text) l.initial.self l.b-index l.self
