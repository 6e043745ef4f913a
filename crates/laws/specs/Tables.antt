-- Lists that a function fills: the entry at each index is the value of the function there.
use Rattle.std.specs.Prelude.{ℕ, zero, suc, ◌+◌, ◌<◌, ◌≡◌, refl, List, [], ◌∷◌, map, length, get_or, set}
use Rattle.std.proofs.Common.{add-zero, zero-add, add-suc, suc-add, le_of_suc-le-suc, not-suc-le-zero, ap, sym, ◌∙◌, arith, ext_get_or}
use Rattle.std.proofs.lemmas.List.{length-map}

-- ---- A table that a function fills: the entry at each index is the function's value there, whatever the function and the number of entries.

-- n entries: of f at i, at the next number, and so on
abbrev pub tabled : (ℕ → ℕ) → ℕ → ℕ → List ℕ
tabled f i zero = []
tabled f i (suc n) = f i ∷ tabled f (suc i) n

entry_from : (f : ℕ → ℕ) (i n k : ℕ) → k < n → get_or (tabled f i n) k 0 ≡ f (i + k)
entry_from f i zero k h = absurd (not-suc-le-zero h)
entry_from f i (suc n) zero h = ap f (sym (add-zero i))
entry_from f i (suc n) (suc k) h = entry_from f (suc i) n k (le_of_suc-le-suc h) ∙ ap f (suc-add i k ∙ sym (add-suc i k))

pub tabled_at : (f : ℕ → ℕ) (n k : ℕ) → k < n → get_or (tabled f 0 n) k 0 ≡ f k
tabled_at f n k h = entry_from f 0 n k h ∙ ap f (zero-add k)

pub length_tabled : (f : ℕ → ℕ) (i n : ℕ) → length (tabled f i n) ≡ n
length_tabled f i zero = refl
length_tabled f i (suc n) = ap suc (length_tabled f (suc i) n)

-- functions that agree below the count fill the same table
pub tabled_same : (f g : ℕ → ℕ) (n : ℕ) → ((k : ℕ) → k < n → f k ≡ g k) → tabled f 0 n ≡ tabled g 0 n
tabled_same f g n h =
    ext_get_or 0 (tabled f 0 n) (tabled g 0 n) (length_tabled f 0 n ∙ sym (length_tabled g 0 n))
    (λ k l. let m : k < n = omega (arith, length_tabled f 0 n) in tabled_at f n k m ∙ h k m ∙ sym (tabled_at g n k m))

-- ---- A list is as long as what a function makes of its elements: an array of records in a record is known by the values of its elements.

pub length_mapped : (A B : Type 0) (f : A → B) (l : List A) (n : ℕ) → length (map f l) ≡ n → length l ≡ n
length_mapped A B f l n e = sym (length-map l f) ∙ e

-- a store, after each element was changed by f
pub map_set : {A B : Type 0} (f : A → B) (l : List A) (i : ℕ) (a : A) → map f (set l i a) ≡ set (map f l) i (f a)
map_set f [] i a = refl
map_set f (x ∷ l) zero a = refl
map_set {B = B} f (x ∷ l) (suc i) a = ap (λ (m : List B). f x ∷ m) (map_set f l i a)
