-- What is written behind one another by one writer.
use Rattle.std.proofs.Common.{ℕ, ◌+◌, ◌≤◌, ◌<◌, ◌≡◌, List, [], ◌++◌, refl, ◌∙◌}
use Rattle.laws.specs.Writing.{puts_none, puts_then, joined, Putting, putting_start, putting_more, putting_done}
use Rattle.text.specs.declared.Writer.{Writer}
use Rattle.text.specs.Writer.{Writes}

pub writes_none : (w : Writer) → Writes w [] w
writes_none w = record { same = refl; puts = puts_none w.out.now w.at }

-- one text behind another
pub writes_then : {a b c : Writer} {t u : List ℕ} → Writes a t b → Writes b u c → Writes a (t ++ u) c
writes_then h k = record { same = k.same ∙ h.same; puts = puts_then h.puts k.puts }

-- ---- Texts written in a loop: of n texts, which are one whole, the first i are written.
pub record WritesFirst (whole : List ℕ) (f : ℕ → List ℕ) (n : ℕ) (before : Writer) (i : ℕ) (after : Writer) : Type 0 where
  pub same : after.out.ghost_name ≡ before.out.ghost_name
  pub first : Putting whole f n before.out.now before.at after.out.now i after.at

pub first_none : {whole : List ℕ} {f : ℕ → List ℕ} {n : ℕ} (w : Writer) → whole ≡ joined f n → WritesFirst whole f n w 0 w
first_none w e = record { same = refl; first = putting_start w.out.now w.at e }

module _ {whole : List ℕ} {f : ℕ → List ℕ} {n : ℕ} {a : Writer} {i : ℕ} {b : Writer} (w : WritesFirst whole f n a i b) where
  pub first_more : i < n → {c : Writer} → Writes b (f i) c → WritesFirst whole f n a (i + 1) c
  first_more h p = record { same = p.same ∙ w.same; first = putting_more w.first h p.puts }

  pub first_all : n ≤ i → Writes a whole b
  first_all h = record { same = w.same; puts = putting_done w.first h }
