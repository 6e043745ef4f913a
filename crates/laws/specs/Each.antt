-- A fact of every element of a list.
use Rattle.std.specs.Prelude.{ℕ, zero, suc, ◌<◌, List, [], ◌∷◌, ◌++◌, map, replicate, length, get_or}
use Rattle.std.proofs.Common.{suc-le-suc, not-suc-le-zero, le_of_suc-le-suc, arith}

-- ---- A fact of every element of a list, element by element.

module _ {ℓ} {A : Type ℓ} where
  abbrev pub Each : (A → Type 0) → List A → Type 0
  Each P [] = Unit {0}
  Each P (a ∷ l) = P a × Each P l

  pub each_map : {P Q : A → Type 0} → ((a : A) → P a → Q a) → (l : List A) → Each P l → Each Q l
  each_map f [] p = tt
  each_map f (a ∷ l) p = (f a p.0, each_map f l p.1)

  pub each_zip : {P Q R : A → Type 0} → ((a : A) → P a → Q a → R a) → (l : List A) → Each P l → Each Q l → Each R l
  each_zip f [] p q = tt
  each_zip f (a ∷ l) p q = (f a p.0 q.0, each_zip f l p.1 q.1)

-- of the images of a list
pub each_mapped : {A B : Type 0} (P : B → Type 0) (f : A → B) (l : List A) → Each (λ a. P (f a)) l → Each P (map f l)
each_mapped P f [] h = tt
each_mapped P f (a ∷ l) h = (h.0, each_mapped P f l h.1)

-- of the images of any list, of two lists in a row, and of one element many times
pub each_image : {A B : Type 0} (P : B → Type 0) (f : A → B) → ((a : A) → P (f a)) → (l : List A) → Each P (map f l)
each_image P f h [] = tt
each_image P f h (a ∷ l) = (h a, each_image P f h l)

pub each_append : {A : Type 0} (P : A → Type 0) (l m : List A) → Each P l → Each P m → Each P (l ++ m)
each_append P [] m h k = k
each_append P (a ∷ l) m h k = (h.0, each_append P l m h.1 k)

pub each_last : {A : Type 0} (P : A → Type 0) (l : List A) (a : A) → Each P (l ++ (a ∷ [])) → P a
each_last P [] a h = h.0
each_last P (b ∷ l) a h = each_last P l a h.1

pub each_replicate : {A : Type 0} (P : A → Type 0) (a : A) → P a → (n : ℕ) → Each P (replicate n a)
each_replicate P a h zero = tt
each_replicate P a h (suc n) = (h, each_replicate P a h n)

-- ---- A fact of every element of a list, told by the index, and found by it.

pub each_of {ℓ} : {A : Type ℓ} (P : A → Type 0) (d : A) (l : List A) → ((i : ℕ) → i < length l → P (get_or l i d)) → Each P l
each_of P d [] h = tt
each_of P d (a ∷ l) h = (h 0 (omega arith), each_of P d l (λ i b. h (suc i) (suc-le-suc b)))

pub each_at {ℓ} : {A : Type ℓ} (P : A → Type 0) (d : A) (l : List A) → Each P l → (i : ℕ) → i < length l → P (get_or l i d)
each_at P d [] h i b = absurd (not-suc-le-zero b)
each_at P d (a ∷ l) h zero b = h.0
each_at P d (a ∷ l) h (suc i) b = each_at P d l h.1 i (le_of_suc-le-suc b)
