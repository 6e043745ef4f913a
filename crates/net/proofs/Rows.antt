-- The rows of a net and the arrays that hold them: each weight is found again where it was put, so that rows of full length come back.
use Prim.Native.Nat.{ℕ, ◌+◌, ◌*◌, ◌/◌, ◌%◌, ◌<◌}
use native.Mathlib.Omega.{arith}
use mathlib.Core.Path.{◌≡◌, refl, sym, ◌∙◌}
use mathlib.Core.List.{List}
use lib.ListN.{length, get_or, replicate, length-replicate, get_or-map}
use lib.Seq.{ext_get_or}
use Rattle.laws.specs.Arrays.{filled, length_filled, filled_at}
use Rattle.laws.specs.Each.{Each, each_at}
use Rattle.net.specs.declared.Net.{Net}
use Rattle.net.specs.Net.{Row, no_row, takes_in, gives_in, take_of, give_of, row_at, rows_of, to_net}

module _ (rs : List Row) (t p : ℕ) (l : t < 32) (h : p < 16) where
  -- a weight stands where it is looked for
  pub take_there : takes_in (take_of rs) t p ≡ get_or (get_or rs t no_row).take p 0
  unfolding take_of
  take_there =
      let a : (32 * p + t) % 32 ≡ t = omega arith in
      let b : (32 * p + t) / 32 ≡ p = omega arith in
      filled_at (λ i. get_or (get_or rs (i % 32) no_row).take (i / 32) 0) (replicate 512 0) 0 512 (32 * p + t) (omega arith)
      (omega (arith, length-replicate {A = ℕ} 512 0))
      ∙ rw (a, b) refl

  pub give_there : gives_in (give_of rs) t p ≡ get_or (get_or rs t no_row).give p 0
  unfolding give_of
  give_there =
      let a : (16 * t + p) / 16 ≡ t = omega arith in
      let b : (16 * t + p) % 16 ≡ p = omega arith in
      filled_at (λ i. get_or (get_or rs (i / 16) no_row).give (i % 16) 0) (replicate 512 0) 0 512 (16 * t + p) (omega arith)
      (omega (arith, length-replicate {A = ℕ} 512 0))
      ∙ rw (a, b) refl

-- a row whose lists are full
abbrev pub Full : Row → Type 0
Full r = (length r.take ≡ 16) × (length r.give ≡ 16)

-- sixteen numbers told one by one
pub sixteen_at : (f : ℕ → ℕ) (p : ℕ) → p < 16 → get_or (filled f 16 (replicate 16 0)) p 0 ≡ f p
sixteen_at f p h = filled_at f (replicate 16 0) 0 16 p h (omega (arith, length-replicate {A = ℕ} 16 0))

sixteen : (f : ℕ → ℕ) (l : List ℕ) → length l ≡ 16 → ((p : ℕ) → p < 16 → f p ≡ get_or l p 0) → filled f 16 (replicate 16 0) ≡ l
sixteen f l e h =
    let long : length (filled f 16 (replicate 16 0)) ≡ 16 = length_filled f (replicate 16 0) 16 ∙ length-replicate {A = ℕ} 16 0 in
    ext_get_or 0 (filled f 16 (replicate 16 0)) l (long ∙ sym e)
    (λ p b. let m : p < 16 = omega arith in sixteen_at f p m ∙ h p m)

-- the row of a transition among all rows
pub row_there : (n : Net) (t : ℕ) → t < 32 → get_or (rows_of n) t no_row ≡ row_at n t
unfolding rows_of
row_there n t h = filled_at (row_at n) (replicate 32 no_row) no_row 32 t h (omega (arith, length-replicate 32 no_row))

module _ (sheet places transitions : ℕ) (start : List ℕ) (rs : List Row) (long : length rs ≡ 32) (full : Each Full rs) where
  row_back : (t : ℕ) → t < 32 → row_at (to_net (sheet, (places, (transitions, (start, rs))))) t ≡ get_or rs t no_row
  row_back t l =
      let f = each_at Full no_row rs full t (omega arith) in
      let i = get_or-map (λ (r : Row). r.interval) rs t no_row in
      let a = sixteen (takes_in (take_of rs) t) (get_or rs t no_row).take f.0 (λ p h. take_there rs t p l h) in
      let b = sixteen (gives_in (give_of rs) t) (get_or rs t no_row).give f.1 (λ p h. give_there rs t p l h) in
      λ k. record { interval = i k; take = a k; give = b k }

  -- the rows of a net that was made of rows
  pub rows_back : rows_of (to_net (sheet, (places, (transitions, (start, rs))))) ≡ rs
  unfolding rows_of
  rows_back =
      let f = row_at (to_net (sheet, (places, (transitions, (start, rs))))) in
      let many : length (filled f 32 (replicate 32 no_row)) ≡ 32 = length_filled f (replicate 32 no_row) 32 ∙ length-replicate 32 no_row in
      ext_get_or no_row (filled f 32 (replicate 32 no_row)) rs (many ∙ sym long)
      (λ t b. let m : t < 32 = omega arith in row_there (to_net (sheet, (places, (transitions, (start, rs))))) t m ∙ row_back t m)
