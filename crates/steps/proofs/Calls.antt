-- An array that calls of a closure gave, where the closure changes nothing.
use Rattle.std.proofs.Common.{◌≡◌, ℕ, zero, suc, ◌+◌, ◌<◌, ◌≤◌, Bool, true, false, ◌&&◌, eqb, ltb, List, length, get_or, replicate, sym, refl, ◌∙◌, arith, eqb-true, le-ltb, lt-ltb, ext_get_or}
use Rattle.std.proofs.lemmas.Bool.{eqb-false}
use Rattle.std.proofs.lemmas.List.{get_or-replicate, length-replicate}
use Rattle.std.proofs.Math.Decide.{dec_lt}
use Rattle.std.proofs.Math.Path.{subst}
use Rattle.std.specs.Array.{IsFromFnResultFrom}
use Rattle.std.specs.Fn.{Called, Mut}
use Rattle.laws.specs.Arrays.{filled, length_filled, filled_at, filled_past}

module _ {F B : Type 0} (g : Mut F (ℕ × Unit {0}) B) (h : ℕ → B) (f : F)
    (says : (k : ℕ) (y : B) (q : F) → Called g f (k, tt) y q → (y ≡ h k) × (q ≡ f)) (ys : List B) where
  -- the slots from i on hold what the calls say
  pub made_at : (n i : ℕ) → IsFromFnResultFrom g f ys i n → (k : ℕ) (d : B) → i ≤ k → k < i + n → get_or ys k d ≡ h k
  made_at zero i s k d a b = absurd (omega arith)
  made_at (suc n) i s k d a b =
      let step = says i s.1 s.0 s.3 in
      go (eqb k i) refl s (λ c. made_at n (i + 1) (subst (λ (x : F). IsFromFnResultFrom g x ys (i + 1) n) step.1 s.4) k d c (omega arith))
    where
      go : (b : Bool) → eqb k i ≡ b → IsFromFnResultFrom g f ys i (suc n) → (i + 1 ≤ k → get_or ys k d ≡ h k) → get_or ys k d ≡ h k
      go true e s later = rw (eqb-true k i e) (s.2.1 d ∙ (says i s.1 s.0 s.3).0)
      go false e s later = later (omega (arith, eqb-false k i e))

-- flags of the first n numbers that pass a test
pub flags_filled : (test : ℕ → Bool) (n size : ℕ) (flags : List Bool) → length flags ≡ size
    → ((k : ℕ) → k < size → get_or flags k false ≡ (ltb k n && test k)) → flags ≡ filled test n (replicate size false)
flags_filled test n size flags long each =
    let none = replicate size false in
    ext_get_or false flags (filled test n none) (long ∙ sym (length-replicate size false) ∙ sym (length_filled test none n)) (λ k b. at k (omega arith) (dec_lt k n))
  where
    at : (k : ℕ) → k < size → Dec (k < n) → get_or flags k false ≡ get_or (filled test n (replicate size false)) k false
    at k b (yes c) =
        rw (each k b, lt-ltb k n c) (sym (filled_at test (replicate size false) false n k c (omega (arith, length-replicate size false))))
    at k b (no c) =
        rw (each k b, le-ltb k n (omega arith))
        (sym (filled_past test (replicate size false) false n k (omega arith) ∙ get_or-replicate size k false false b))
