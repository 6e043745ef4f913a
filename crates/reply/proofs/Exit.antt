-- The exit of a `?`: the refusal that a call returned is returned.
use Rattle.std.specs.Prelude.{Result, Err, ◌≡◌}
use Rattle.std.specs.Result.{IsErrAnd}
use Rattle.std.proofs.Common.{ap, ◌∙◌}
use Rattle.std.proofs.lemmas.Result.{err_from_is_err_and}
use Rattle.reply.specs.declared.Refusal.{Refusal}

pub exits : {A : Type 0} {r : Result A Refusal} {q : Refusal} → IsErrAnd r (λ x. x ≡ q) → r ≡ Err q
exits {A} {r} {q} h = let p = err_from_is_err_and r h in p.1 ∙ ap (λ (x : Refusal). Err x) p.2
