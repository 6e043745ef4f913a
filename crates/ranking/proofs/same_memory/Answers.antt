-- The bytes of each two words are compared by computation.
use Rattle.std.proofs.Common.{◌≡◌, refl, ◌∙◌}
use Rattle.laws.specs.Tests.{same_numbers}
use Rattle.run.specs.declared.Memory.{Memory}
use Rattle.run.specs.declared.Memory.TheVariants.{Intermediate, Atomic, Carry}
use Rattle.run.specs.contracts.Memory.{the_type}
use Rattle.run.specs.Run.{memory_text}
use denote.Enum.Bare.{sameb}
use Rattle.ranking.proofs.same_memory.Goals as goal

same : (a b : Memory) → sameb the_type a b ≡ same_numbers (memory_text a) (memory_text b)
unfolding same_numbers
same Intermediate Intermediate = refl
same Intermediate Atomic = refl
same Intermediate Carry = refl
same Atomic Intermediate = refl
same Atomic Atomic = refl
same Atomic Carry = refl
same Carry Intermediate = refl
same Carry Atomic = refl
same Carry Carry = refl

pub returns : goal.returns
returns c = c.eq.ensures ∙ same c.args.a c.args.b
