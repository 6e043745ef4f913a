-- Run cards and order cards are formats: each of their lines is one, and the count of firings bounds how many follow. No memory word
-- begins like another.
use Rattle.reply.specs.Respond.{Passed}
use Prim.Native.Nat.{ℕ, ◌+◌, ◌≤◌}
use native.Mathlib.Omega.{arith}
use mathlib.Core.Path.{◌≡◌, refl, sym, ap, ◌∙◌}
use mathlib.Core.Bool.{Bool, true, false, cond}
use mathlib.Core.List.{List, ◌++◌}
use lib.ListN.{length, drop}
use lib.Dec.{lit<}
use Rattle.reply.specs.declared.Refusal.{Refusal}
use Rattle.reply.specs.declared.Refusal.TheVariants.{Malformed}
use Rattle.reply.specs.Refusal.{position_of}
use Rattle.text.specs.Key.{bytes, begins_with}
use Rattle.text.proofs.KeyLaws.{begins_text, begins_take}
use Rattle.form.specs.Form.{Found, found, refused, times}
use Rattle.form.specs.Inverse.{WasRead, Placed, Format}
use Rattle.form.proofs.Found.{not_both, refused_same}
use Rattle.form.proofs.Combine.{was_same}
use Rattle.form.proofs.Lines.{word_was}
use Rattle.form.proofs.Places.{line_placed}
use Rattle.form.proofs.Sheets.{sheet_format}
use Rattle.form.proofs.Format.{keyed_format, pair_format, held_format, times_format, ranged_format, listed_format, counted_format}
use Rattle.run.specs.declared.Memory.{Memory}
use Rattle.run.specs.declared.Memory.TheVariants.{Intermediate, Atomic, Carry}
use Rattle.run.specs.Run.{memory_text, memory, fire, to_firing, from_firing, firing, no_firing, steps, run_lines, to_run, from_run, run_card, order_lines, to_order, from_order, order_card}

pub memory_back : (m : Memory) (s rest : List ℕ) (at line : ℕ) → memory.check m line ≡ Passed → drop at s ≡ memory.text m ++ rest
    → memory.read s at line ≡ found m (at + length (memory.text m))
unfolding begins_with
memory_back Intermediate s rest at line p e = rw (ap (begins_with (bytes "intermediate\n")) e ∙ begins_text (bytes "intermediate\n") rest) refl
memory_back Atomic s rest at line p e =
    let first : begins_with (bytes "intermediate\n") (drop at s) ≡ false = ap (begins_with (bytes "intermediate\n")) e in
    rw (first, ap (begins_with (bytes "atomic\n")) e ∙ begins_text (bytes "atomic\n") rest) refl
memory_back Carry s rest at line p e =
    let first : begins_with (bytes "intermediate\n") (drop at s) ≡ false = ap (begins_with (bytes "intermediate\n")) e in
    let second : begins_with (bytes "atomic\n") (drop at s) ≡ false = ap (begins_with (bytes "atomic\n")) e in
    rw (first, second, ap (begins_with (bytes "carry\n")) e ∙ begins_text (bytes "carry\n") rest) refl

module _ (m : Memory) (s : List ℕ) (at next line : ℕ) where
  -- a word that is tried was read, or what is tried behind it
  tried : (w : Memory) (later : Found Memory) → (later ≡ found m next → WasRead memory m s at next line)
      → cond (begins_with (memory_text w) (drop at s)) (found w (at + length (memory_text w))) later ≡ found m next → WasRead memory m s at next line
  tried w later h = go (begins_with (memory_text w) (drop at s)) refl
    where
      go : (t : Bool) → begins_with (memory_text w) (drop at s) ≡ t → cond t (found w (at + length (memory_text w))) later ≡ found m next
          → WasRead memory m s at next line
      go true t e = was_same memory e (word_was memory w s at line refl refl t)
      go false t e = h e

  memory_was : memory.read s at line ≡ found m next → WasRead memory m s at next line
  memory_was = tried Intermediate _ (tried Atomic _ (tried Carry _ (λ e. absurd (not_both e))))

memory_short : (m : Memory) → length (memory.text m) ≤ 13
memory_short Intermediate = omega arith
memory_short Atomic = omega arith
memory_short Carry = omega arith

module _ (r : Refusal) (s : List ℕ) (at line : ℕ) where
  -- where nothing is found, the word that is tried is not there
  missed : (w : Memory) (later : Found Memory) → (later ≡ refused r → position_of r ≡ line)
      → cond (begins_with (memory_text w) (drop at s)) (found w (at + length (memory_text w))) later ≡ refused r → position_of r ≡ line
  missed w later h = go (begins_with (memory_text w) (drop at s))
    where
      go : (t : Bool) → cond t (found w (at + length (memory_text w))) later ≡ refused r → position_of r ≡ line
      go true e = absurd (not_both (sym e))
      go false e = h e

  memory_refused : memory.read s at line ≡ refused r → position_of r ≡ line
  memory_refused = missed Intermediate _ (missed Atomic _ (missed Carry _ (λ e. ap position_of (sym (refused_same {r = Malformed line} e)))))

memory_placed : Placed memory 1
memory_placed = line_placed memory_refused (λ m. refl)

pub memory_format : {P : Type 0} → Format P memory 13 1
memory_format =
    record {
      settled = record { same_text = λ m. refl; same_lines = λ m. refl; same_check = λ m line. refl };
      inverse = λ p. record { read_written = memory_back; written_read = memory_was };
      reaches = λ p.
          record {
            near = λ m s at next line e. omega (arith, (memory_was m s at next line e).end, memory_short m);
            prefix = λ s k at line h.
                rw (
                  begins_take (bytes "intermediate\n") s k at (omega arith),
                  begins_take (bytes "atomic\n") s k at (omega arith),
                  begins_take (bytes "carry\n") s k at (omega arith),
                ) refl;
          };
      placed = λ p. memory_placed;
    }

-- ---- the lines put together
fire_format : (transitions : ℕ) → Format (transitions ≤ 32) (fire transitions) 15 1
fire_format transitions = listed_format (bytes "fire=") transitions (λ h. omega arith)

pub firing_format : (transitions : ℕ) → Format (transitions ≤ 32) (firing transitions) 30 2
firing_format transitions =
    held_format to_firing from_firing (λ v. refl) (pair_format (ranged_format (bytes "wait=") 0 10000000 (lit< tt)) (fire_format transitions))

steps_format : (transitions count : ℕ) → Format (transitions ≤ 32) (steps transitions count) 1935 129
steps_format transitions count = pair_format (times_format count 64 no_firing (firing_format transitions)) (ranged_format (bytes "rest=") 0 10000000 (lit< tt))

fires_format : (transitions count : ℕ) → Format (transitions ≤ 32) (times count 64 0 (fire transitions)) 960 64
fires_format transitions count = times_format count 64 0 (fire_format transitions)

-- as many bytes as a reading of a run card, and of an order card, looks at
abbrev pub run_reach : ℕ
run_reach = 2011

abbrev pub order_reach : ℕ
order_reach = 1014

-- a run card has 133 lines at most, two for each of 64 firings and five more, and an order card 67
pub run_lines_format : (transitions : ℕ) → Format (transitions ≤ 32) (run_lines transitions) 1995 132
run_lines_format transitions =
    pair_format (keyed_format (bytes "memory=") memory_format)
    (pair_format (ranged_format (bytes "denominator=") 1 1000 (lit< tt))
    (counted_format (bytes "firings=") 0 64 (lit< tt) (steps_format transitions) (λ count few h. h)))

pub run_format : (sheet transitions : ℕ) → Format (transitions ≤ 32) (run_card sheet transitions) run_reach 133
run_format sheet transitions = held_format to_run from_run (λ v. refl) (sheet_format sheet (run_lines_format transitions))

pub order_lines_format : (transitions : ℕ) → Format (transitions ≤ 32) (order_lines transitions) 998 66
order_lines_format transitions =
    pair_format (keyed_format (bytes "memory=") memory_format)
    (counted_format (bytes "firings=") 0 64 (lit< tt) (fires_format transitions) (λ count few h. h))

pub order_format : (sheet transitions : ℕ) → Format (transitions ≤ 32) (order_card sheet transitions) order_reach 67
order_format sheet transitions = held_format to_order from_order (λ v. refl) (sheet_format sheet (order_lines_format transitions))
