-- Both lines together are shorter than the buffer.
use Rattle.std.specs.Prelude.{◌+◌, ◌≤◌, true, ◌++◌, length}
use Rattle.std.proofs.Common.{arith}
use Rattle.std.proofs.lemmas.List.{length-append}
use Rattle.reply.specs.declared.Refusal.{Refusal}
use Rattle.reply.specs.Refusal.{number_of, position_of}
use Rattle.text.specs.Key.{bytes}
use Rattle.text.specs.Decimal.{field}
use Rattle.text.proofs.DecimalLaws.{field_short}
use Rattle.console.specs.Printed.{refusal_text}

pub short : (r : Refusal) → 0 + length (refusal_text r) ≤ 64
short r =
    let first = field (number_of r) true in
    let second = field (position_of r) true in
    omega (
      arith,
      length-append (bytes "refused=" ++ first) (bytes "place=" ++ second),
      length-append (bytes "refused=") first,
      length-append (bytes "place=") second,
      field_short (number_of r) true,
      field_short (position_of r) true,
    )
