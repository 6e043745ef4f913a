-- Pairs in an `Option` or a `Result`: where two are one, so are their parts.
use Rattle.std.specs.Prelude.{Option, Some, Result, Ok, ◌≡◌}
use Rattle.std.proofs.Common.{ap}

module _ {A B : Type 0} {a c : A} {b d : B} where
  pub some_parts : ◌≡◌ {A = Option (A × B)} (Some (a, b)) (Some (c, d)) → (a ≡ c) × (b ≡ d)
  some_parts e = let h : ◌≡◌ {A = A × B} (a, b) (c, d) = cc in (ap (λ (v : A × B). v.0) h, ap (λ (v : A × B). v.1) h)

  pub ok_parts : {E : Type 0} → ◌≡◌ {A = Result (A × B) E} (Ok (a, b)) (Ok (c, d)) → (a ≡ c) × (b ≡ d)
  ok_parts e = let h : ◌≡◌ {A = A × B} (a, b) (c, d) = cc in (ap (λ (v : A × B). v.0) h, ap (λ (v : A × B). v.1) h)
