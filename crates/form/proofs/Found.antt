-- What a reading that found something, or a check that passed, says of its parts: a refusal of any part would be the refusal of the whole.
use Rattle.reply.specs.Respond.{Checked, Passed}
use Rattle.std.specs.Prelude.{Err}
use Prim.Native.Nat.{ℕ, ◌+◌}
use native.Mathlib.Omega.{arith}
use mathlib.Core.Path.{◌≡◌, refl, ap}
use mathlib.Core.Bool.{Bool, true, false, cond}
use mathlib.Core.List.{List, [], ◌∷◌}
use Rattle.laws.specs.Each.{Each}
use Rattle.laws.specs.Pairs.{ok_parts}
use Rattle.reply.specs.declared.Refusal.{Refusal}
use Rattle.form.specs.Form.{Found, found, refused, and_then, found_if, also, Form, checks}

-- the values that a reading in two steps went through
pub record Went {A B : Type 0} (m : Found A) (more : A → ℕ → Found B) (b : B) (end : ℕ) : Type 0 where
  pub value : A
  pub place : ℕ
  pub first : m ≡ found value place
  pub then : more value place ≡ found b end

pub not_both : {A : Type 0} {r : Refusal} {a : A} {next : ℕ} → refused r ≡ found a next → ⊥
not_both e = let z : ◌≡◌ {A = ℕ} 0 1 = cc in omega arith

pub then_found : {A B : Type 0} (m : Found A) (more : A → ℕ → Found B) {b : B} {end : ℕ} → and_then m more ≡ found b end → Went m more b end
then_found (found a next) more e = record { value = a; place = next; first = refl; then = e }
then_found (refused r) more e = absurd (not_both e)

pub refused_same : {A : Type 0} {r q : Refusal} → ◌≡◌ {A = Found A} (refused r) (refused q) → r ≡ q
refused_same e = cc

-- a reading in two steps that refuses: the first step refuses, or the second behind what the first found
pub then_refused : {A B : Type 0} {P : Type 0} {r : Refusal} (m : Found A) (more : A → ℕ → Found B) → (m ≡ refused r → P)
    → ((a : A) (next : ℕ) → m ≡ found a next → more a next ≡ refused r → P) → and_then m more ≡ refused r → P
then_refused (found a next) more first then e = then a next refl e
then_refused (refused q) more first then e = first (ap refused (refused_same e))

-- two readings whose second steps agree where the first found something
pub then_same : {A B : Type 0} (m : Found A) (more more' : A → ℕ → Found B) → ((a : A) (next : ℕ) → m ≡ found a next → more a next ≡ more' a next)
    → and_then m more ≡ and_then m more'
then_same (found a next) more more' h = h a next refl
then_same (refused r) more more' h = refl

-- a second step that does nothing
pub then_nothing : {A : Type 0} (m : Found A) → and_then m (λ a next. found a next) ≡ m
then_nothing (found a next) = refl
then_nothing (refused r) = refl

-- three steps, grouped either way
pub then_then : {A B C : Type 0} (m : Found A) (f : A → ℕ → Found B) (g : B → ℕ → Found C)
    → and_then (and_then m f) g ≡ and_then m (λ a next. and_then (f a next) g)
then_then (found a next) f g = refl
then_then (refused r) f g = refl

pub found_value : {A : Type 0} {a b : A} {next end : ℕ} → found a next ≡ found b end → a ≡ b
found_value e = (ok_parts e).0

pub found_place : {A : Type 0} {a b : A} {next end : ℕ} → found a next ≡ found b end → next ≡ end
found_place e = (ok_parts e).1

pub also_first : (c c' : Checked) → also c c' ≡ Passed → c ≡ Passed
also_first Passed c' e = refl
also_first (Err r) c' e = e

pub also_second : (c c' : Checked) → also c c' ≡ Passed → c' ≡ Passed
also_second Passed c' e = e
also_second (Err r) c' e = cc

-- three checks, grouped either way
-- two checks that refuse: the first does, or it passes and the second does
pub also_refused : {P : Type 0} {r : Refusal} (c c' : Checked) → (c ≡ Err r → P) → (c ≡ Passed → c' ≡ Err r → P) → also c c' ≡ Err r → P
also_refused Passed c' first then e = then refl e
also_refused (Err q) c' first then e = first e

pub also_also : (a b c : Checked) → also a (also b c) ≡ also (also a b) c
also_also Passed b c = refl
also_also (Err r) b c = refl

-- a fact that each part has which passes
pub checks_each : {A : Type 0} (f : Form A) (P : A → Type 0) → ((a : A) (line : ℕ) → f.check a line ≡ Passed → P a)
    → (l : List A) (line : ℕ) → checks f l line ≡ Passed → Each P l
unfolding checks
checks_each f P h [] line e = tt
checks_each f P h (a ∷ l) line e =
    let here = f.check a line in
    let rest = checks f l (line + f.lines a) in
    (h a line (also_first here rest e), checks_each f P h l (line + f.lines a) (also_second here rest e))

pub judged_passed : {A : Type 0} (c : Checked) (a : A) (next : ℕ) {b : A} {end : ℕ} → found_if c a next ≡ found b end → c ≡ Passed
judged_passed Passed a next e = refl
judged_passed (Err r) a next e = absurd (not_both e)

pub judged_found : {A : Type 0} (c : Checked) (a : A) (next : ℕ) {b : A} {end : ℕ} → found_if c a next ≡ found b end → found a next ≡ found b end
judged_found Passed a next e = e
judged_found (Err r) a next e = absurd (not_both e)

-- a test that decides a check
pub test_passed : (t : Bool) (r : Refusal) → cond t Passed (Err r) ≡ Passed → t ≡ true
test_passed true r e = refl
test_passed false r e = cc

pub test_refused : (t : Bool) (r : Refusal) {q : Refusal} → cond t Passed (Err r) ≡ Err q → r ≡ q
test_refused true r e = let z : ◌≡◌ {A = ℕ} 0 1 = cc in absurd (omega arith)
test_refused false r e = cc

pub judged_refused : {A : Type 0} (c : Checked) (a : A) (next : ℕ) {r : Refusal} → found_if c a next ≡ refused r → c ≡ Err r
judged_refused Passed a next e = let z : ◌≡◌ {A = ℕ} 0 1 = cc in absurd (omega arith)
judged_refused (Err q) a next e = cc

-- a reading that goes on where a check passes, to a second check: the first refusal counts
pub judged_then : {A B : Type 0} (c c' : Checked) (a : A) (next : ℕ) (b : B) (end : ℕ) (more : A → ℕ → Found B)
    → (c ≡ Passed → more a next ≡ found_if c' b end) → and_then (found_if c a next) more ≡ found_if (also c c') b end
judged_then Passed c' a next b end more h = h refl
judged_then (Err r) c' a next b end more h = refl

-- or to no check
pub judged_more : {A B : Type 0} (c : Checked) (a : A) (next : ℕ) (b : B) (end : ℕ) (more : A → ℕ → Found B) → (c ≡ Passed → more a next ≡ found b end)
    → and_then (found_if c a next) more ≡ found_if c b end
judged_more Passed a next b end more h = h refl
judged_more (Err r) a next b end more h = refl

-- what stands there counts only where the check passes
pub judged_same : {A : Type 0} (c : Checked) (a b : A) (next end : ℕ) → (c ≡ Passed → found a next ≡ found b end) → found_if c a next ≡ found_if c b end
judged_same Passed a b next end h = h refl
judged_same (Err r) a b next end h = refl
