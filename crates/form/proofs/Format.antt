-- One law for each way to put forms together: all that makes a form a format is kept, and the reach and the lines of the parts add up.
use Rattle.reply.specs.Respond.{Checked, Passed}
use Prim.Native.Nat.{ℕ, ◌+◌, ◌*◌, ◌^◌, ◌≤◌, ◌<◌, min}
use native.Mathlib.Nat.{mul-le-mul_right, min-le_right}
use native.Mathlib.Omega.{arith}
use mathlib.Core.Path.{◌≡◌, refl}
use mathlib.Core.List.{List}
use lib.ListN.{length}
use Rattle.form.specs.Form.{Form, keyed, chain, times, held}
use Rattle.form.specs.Line.{ranged, listed, number, items}
use Rattle.form.specs.Inverse.{Format}
use Rattle.form.proofs.Combine.{reaches_more, keyed_inverse, keyed_settled, keyed_reaches, chain_inverse, chain_settled, chain_reaches, held_inverse}
use Rattle.form.proofs.Combine.{held_settled, held_reaches, exactly_inverse, exactly_settled, exactly_reaches}
use Rattle.form.proofs.Lines.{ranged_within, ranged_small, listed_small, number_inverse, number_settled, number_reaches, items_inverse, items_settled}
use Rattle.form.proofs.Lines.{items_reaches}
use Rattle.form.proofs.Places.{OwnLine, placed_more, ranged_own, listed_own, number_placed, items_placed, keyed_placed, chain_placed, held_placed}
use Rattle.form.proofs.Places.{exactly_placed}

-- ---- the ways to put forms together
pub keyed_format : (key : List ℕ) {A : Type 0} {f : Form A} {P : Type 0} {r : ℕ} → Format P f r 1 → Format P (keyed key f) (length key + r) 1
keyed_format key {f = f} w =
    record {
      settled = keyed_settled key f w.settled;
      inverse = λ p. keyed_inverse key f (w.inverse p);
      reaches = λ p. keyed_reaches key f (w.reaches p);
      placed = λ p. keyed_placed key (omega arith) (w.placed p);
    }

module _ {A : Type 0} {f : Form A} {P : Type 0} {r n : ℕ} where
  -- a part, and behind it the part that its value asks for, of which more is known where the value passes
  pub chain_format : {B : Type 0} {g : A → Form B} {Q : A → Type 0} {q m : ℕ} → ((a : A) → g (f.clean a) ≡ g a) → Format P f r n
      → ((a : A) → Format (Q a) (g a) q m)
      → ((a : A) (line : ℕ) → f.check a line ≡ Passed → P → Q a) → Format P (chain f g) (r + q) (n + m)
  chain_format {g = g} same w z more =
      record {
        settled = chain_settled f g same w.settled (λ a. (z a).settled);
        inverse = λ p. chain_inverse f g same (w.inverse p) w.settled (λ a line c. (z a).inverse (more a line c p));
        reaches =
            λ p. chain_reaches f g (w.reaches p) (λ a s at next line e. (z a).reaches (more a line ((w.inverse p).written_read a s at next line e).passed p));
        placed = λ p. chain_placed (w.placed p) (λ a s at next line e. (z a).placed (more a line ((w.inverse p).written_read a s at next line e).passed p));
      }

  -- a part, and behind it another whatever the value of the first
  pub pair_format : {B : Type 0} {g : Form B} {q m : ℕ} → Format P f r n → Format P g q m → Format P (chain f (λ _. g)) (r + q) (n + m)
  pair_format w z = chain_format (λ a. refl) w (λ a. z) (λ a line c p. p)

  -- the same part in another type, from which what is clean comes back
  pub held_format : {B : Type 0} (to : A → B) (from : B → A) → ((a : A) → from (to (f.clean a)) ≡ f.clean a) → Format P f r n → Format P (held to from f) r n
  held_format to from back w =
      record {
        settled = held_settled to from f back w.settled;
        inverse = λ p. held_inverse to from f back (w.inverse p);
        reaches = λ p. held_reaches to from f (w.reaches p);
        placed = λ p. held_placed to from back (w.inverse p) (w.placed p);
      }

  pub times_format : (k size : ℕ) (d : A) → Format P f r n → Format P (times k size d f) (size * r) (size * n)
  times_format k size d w =
      let m = min k size in
      record {
        settled = exactly_settled m size d f w.settled;
        inverse = λ p. exactly_inverse m size d f (w.inverse p) w.settled;
        reaches = λ p. reaches_more (mul-le-mul_right r (min-le_right k size)) (exactly_reaches m size d f (w.reaches p));
        placed = λ p. placed_more (mul-le-mul_right n (min-le_right k size)) (exactly_placed (w.placed p) m size d);
      }

-- ---- lines
module _ {P : Type 0} where
  pub number_format : (key : List ℕ) (judge : ℕ → ℕ → Checked) → OwnLine judge → (P → (n line : ℕ) → judge n line ≡ Passed → n < 10 ^ 9)
      → Format P (keyed key (number judge)) (length key + 10) 1
  number_format key judge own small =
      keyed_format key
      (record {
        settled = number_settled judge;
        inverse = λ p. number_inverse judge (small p);
        reaches = λ p. number_reaches judge;
        placed = λ p. number_placed judge own;
      })

  pub ranged_format : (key : List ℕ) (low high : ℕ) → high < 10 ^ 9 → Format P (keyed key (number (ranged low high))) (length key + 10) 1
  ranged_format key low high h = number_format key (ranged low high) (ranged_own low high) (λ p. ranged_small low high h)

  pub listed_format : (key : List ℕ) (transitions : ℕ) → (P → transitions < 10 ^ 9) → Format P (keyed key (number (listed transitions))) (length key + 10) 1
  listed_format key transitions h = number_format key (listed transitions) (listed_own transitions) (λ p. listed_small transitions (h p))

  pub items_format : (key : List ℕ) (k size low high : ℕ) → high < 10 ^ 9 → Format P (keyed key (items k size low high)) (length key + size * 10) 1
  items_format key k size low high h =
      let m = min k size in
      keyed_format key
      (record {
        settled = items_settled m size low high;
        inverse = λ p. items_inverse m size low high h;
        reaches = λ p. reaches_more (mul-le-mul_right 10 (min-le_right k size)) (items_reaches m size low high);
        placed = λ p. items_placed m size low high;
      })

  -- a number of a range, and behind it what it asks for
  pub counted_format : (key : List ℕ) (low high : ℕ) → high < 10 ^ 9 → {A : Type 0} {g : ℕ → Form A} {Q : ℕ → Type 0} {q m : ℕ}
      → ((n : ℕ) → Format (Q n) (g n) q m)
      → ((n : ℕ) → n ≤ high → P → Q n) → Format P (chain (keyed key (number (ranged low high))) g) (length key + 10 + q) (1 + m)
  counted_format key low high h w more =
      chain_format (λ n. refl) (ranged_format key low high h) w (λ n line c. more n (ranged_within low high n line c).1)
