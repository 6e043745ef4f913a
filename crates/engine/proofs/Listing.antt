-- A list's line, written text by text: what is left of it follows from what is left of the texts, and two writers in a row are one.
use Prim.Native.Nat.{ℕ}
use mathlib.Core.Path.{◌≡◌, refl, sym, ap, ◌∙◌}
use mathlib.Core.Bool.{Bool, true, false}
use mathlib.Core.List.{List, [], ◌∷◌, ◌++◌, append_assoc, append-nil}
use Rattle.laws.specs.Writing.{Output, put, put_append}
use Rattle.text.specs.Decimal.{decimal}
use Rattle.text.specs.declared.Writer.{Writer}
use Rattle.text.specs.Writer.{Writes}
use Rattle.causal.specs.Print.{item_text, joined_by, list_text}
use Rattle.engine.specs.Counts.{comma, list_end, line_from, lined, Listing}

-- an item is a comma, two numbers with a dot each, and a number
pub item_parts : (first : Bool) (p i n : ℕ)
    → comma first ++ (decimal p ++ (46 ∷ [])) ++ (decimal i ++ (46 ∷ [])) ++ decimal n ≡ comma first ++ item_text (record { place = p; producer = i; count = n })
item_parts first p i n = simp append_assoc

-- the line of a list is all that is left at its start
line_rest : (texts : List (List ℕ)) → joined_by false texts ++ (10 ∷ []) ≡ line_from false texts
unfolding joined_by line_from
line_rest [] = refl
line_rest (x ∷ texts) = append_assoc (44 ∷ x) (joined_by false texts) (10 ∷ []) ∙ ap (λ (l : List ℕ). 44 ∷ x ++ l) (line_rest texts)

line_whole : (texts : List (List ℕ)) → list_text texts ≡ line_from true texts
unfolding list_text joined_by line_from
line_whole [] = refl
line_whole (x ∷ texts) = append_assoc x (joined_by false texts) (10 ∷ []) ∙ ap (λ (l : List ℕ). x ++ l) (line_rest texts)

-- ---- the writer
pub listing_start : (w : Writer) (first : Bool) (texts : List (List ℕ)) → Listing w first texts w first texts
listing_start w first texts = record { output = refl; same = λ later. refl }

module _ {a : Writer} {first : Bool} {texts : List (List ℕ)} {b : Writer} {none : Bool} where
  -- one text more
  pub listing_one : {x : List ℕ} {more : List (List ℕ)} → Listing a first texts b none (x ∷ more) → {c : Writer} → Writes b (comma none ++ x) c
      → Listing a first texts c false more
  unfolding line_from
  listing_one {x} {more} w p =
      record {
        output = p.same ∙ w.output;
        same = λ later.
            w.same later ∙ put_append (record { to = b.at; bytes = b.out.now }) (comma none ++ x) (line_from false (more ++ later))
            ∙ ap (λ (o : Output). put o (line_from false (more ++ later))) (sym p.puts.same);
      }

  -- the texts of another writer behind them
  pub listing_then : Listing a first texts b none [] → {more : List (List ℕ)} {c : Writer} {none' : Bool} → Listing b none more c none' []
      → Listing a first (texts ++ more) c none' []
  listing_then w {more} v =
      record {
        output = v.output ∙ w.output;
        same = λ later. ap (lined a first) (append_assoc texts more later) ∙ w.same (more ++ later) ∙ v.same later;
      }

-- the end of the line
pub line_done : {a : Writer} {texts : List (List ℕ)} {b : Writer} {none : Bool} → Listing a true texts b none [] → {c : Writer} → Writes b (list_end none) c
    → Writes a (list_text texts) c
unfolding line_from
line_done {a} {texts} w p =
    record {
      same = p.same ∙ w.output;
      puts = record { same = p.puts.same ∙ sym (w.same []) ∙ ap (lined a true) (append-nil texts) ∙ rw (line_whole texts) refl };
    }
