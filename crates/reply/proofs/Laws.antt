-- Demand 1 for every operation at once: what a reply says of the output, whatever the operation.
use Rattle.std.specs.Prelude.{Err, Ok}
use Prim.Native.Nat.{ℕ, ◌<◌, ◌≤◌}
use native.Mathlib.Omega.{arith}
use mathlib.Core.Path.{◌≡◌, refl, sym, ◌∙◌}
use mathlib.Core.Bool.{Bool, true, false, cond}
use mathlib.Core.Logic.{◌↔◌}
use mathlib.Core.List.{List, ◌++◌}
use lib.ListN.{length, drop}
use lib.Seq.{take-append_seam, drop-append_seam}
use lib.Dec.{ltb}
use borrow.Author.Tests.{ltb-true, ltb-false, lt-ltb, le-ltb}
use Rattle.reply.specs.declared.Refusal.{Refusal}
use Rattle.reply.specs.declared.Refusal.TheVariants.{OutputTooShort}
use Rattle.reply.specs.Respond.{Outcome, answer, refusal, written_if, reply_to, output_of, Responded, Filled, Checked, Passed}
use Rattle.reply.specs.Demanded.{Demanded}

-- the output where the reply is a refusal
refused_alters_nothing : (o : Outcome) (out : List ℕ) (r : Refusal) → reply_to o out ≡ Err r → output_of o out ≡ out
refused_alters_nothing (answer bytes) out r = go (ltb (length out) (length bytes))
  where
    go : (t : Bool) → cond t (Err OutputTooShort) (Ok (length bytes)) ≡ Err r → cond t out (bytes ++ drop (length bytes) out) ≡ out
    go true e = refl
    go false e = let z : ◌≡◌ {A = ℕ} 0 1 = cc in absurd (omega arith)
refused_alters_nothing (refusal r') out r = λ e. refl

pub written_fills : (bytes out : List ℕ) (n : ℕ) → reply_to (answer bytes) out ≡ Ok n → Filled bytes out (output_of (answer bytes) out) n
written_fills bytes out n = go (ltb (length out) (length bytes)) refl
  where
    go : (t : Bool) → ltb (length out) (length bytes) ≡ t → cond t (Err OutputTooShort) (Ok (length bytes)) ≡ Ok n
        → Filled bytes out (cond t out (bytes ++ drop (length bytes) out)) n
    go true q e = let z : ◌≡◌ {A = ℕ} 0 1 = cc in absurd (omega arith)
    go false q e =
        let k : length bytes ≡ n = cc in
        record {
          all = sym k;
          fits = rw k at (ltb-false (length out) (length bytes) q);
          front = rw (← k) (take-append_seam bytes (drop (length bytes) out));
          behind = rw (← k) (drop-append_seam bytes (drop (length bytes) out));
        }

-- 9 exactly when there is an answer and it is longer than the output, of an operation that finds no 9 of its own
too_short_exactly : (o : Outcome) → (o ≡ refusal OutputTooShort → ⊥) → (out : List ℕ)
    → (reply_to o out ≡ Err OutputTooShort) ↔ ((bytes : List ℕ) × (o ≡ answer bytes) × (length out < length bytes))
too_short_exactly o own out = (there o own, λ h. rw (h.1, lt-ltb (length out) (length h.0) h.2) refl)
  where
    there : (o : Outcome) → (o ≡ refusal OutputTooShort → ⊥) → reply_to o out ≡ Err OutputTooShort
        → (bytes : List ℕ) × (o ≡ answer bytes) × (length out < length bytes)
    there (answer bytes) own = go (ltb (length out) (length bytes)) refl
      where
        go : (t : Bool) → ltb (length out) (length bytes) ≡ t → cond t (Err OutputTooShort) (Ok (length bytes)) ≡ Err OutputTooShort
            → (b : List ℕ) × (answer bytes ≡ answer b) × (length out < length b)
        go true q e = (bytes, refl, ltb-true (length out) (length bytes) q)
        go false q e = let z : ◌≡◌ {A = ℕ} 0 1 = cc in absurd (omega arith)
    there (refusal r) own = λ e. absurd (own (cc))

-- any other refusal is told whatever the output, and of no answer
pub refused_exactly : (o : Outcome) (r : Refusal) → (r ≡ OutputTooShort → ⊥) → (out : List ℕ) → (reply_to o out ≡ Err r) ↔ (o ≡ refusal r)
refused_exactly (answer bytes) r other out = (go (ltb (length out) (length bytes)), λ e. let z : ◌≡◌ {A = ℕ} 0 1 = cc in absurd (omega arith))
  where
    go : (t : Bool) → cond t (Err OutputTooShort) (Ok (length bytes)) ≡ Err r → answer bytes ≡ refusal r
    go true e = absurd (other (cc))
    go false e = let z : ◌≡◌ {A = ℕ} 0 1 = cc in absurd (omega arith)
refused_exactly (refusal r') r other out = (λ e. cc, λ e. cc)

-- n bytes are written exactly where there is an answer of n bytes and the output holds them
written_exactly : (o : Outcome) (out : List ℕ) (n : ℕ)
    → (reply_to o out ≡ Ok n) ↔ ((bytes : List ℕ) × (o ≡ answer bytes) × (n ≡ length bytes) × (n ≤ length out))
written_exactly o out n = (there o, λ h. rw (h.1, h.2, le-ltb (length out) (length h.0) (rw h.2 at h.3)) refl)
  where
    there : (o : Outcome) → reply_to o out ≡ Ok n → (bytes : List ℕ) × (o ≡ answer bytes) × (n ≡ length bytes) × (n ≤ length out)
    there (answer bytes) e = let w = written_fills bytes out n e in (bytes, refl, w.all, w.fits)
    there (refusal r) e = let z : ◌≡◌ {A = ℕ} 0 1 = cc in absurd (omega arith)

-- what is written stands at the front, and the bytes behind it stay
bytes_settled : (o : Outcome) (out after : List ℕ) (n : ℕ) → Responded o out (Ok n) after
    → (bytes : List ℕ) × (o ≡ answer bytes) × Filled bytes out after n
bytes_settled o out after n w = go o (sym w.reply) w.output
  where
    go : (o : Outcome) → reply_to o out ≡ Ok n → after ≡ output_of o out → (bytes : List ℕ) × (o ≡ answer bytes) × Filled bytes out after n
    go (answer bytes) e h = (bytes, refl, rw h (written_fills bytes out n e))
    go (refusal r) e h = let z : ◌≡◌ {A = ℕ} 0 1 = cc in absurd (omega arith)

-- nothing is altered by a refusal
nothing_altered : (o : Outcome) (out after : List ℕ) (r : Refusal) → Responded o out (Err r) after → after ≡ out
nothing_altered o out after r w = w.output ∙ refused_alters_nothing o out r (sym w.reply)

-- all that demand 1 asks, of an operation that finds no 9 of its own
pub demanded : (o : Outcome) → (o ≡ refusal OutputTooShort → ⊥) → Demanded o
demanded o own =
    record {
      written_exactly = written_exactly o;
      bytes_settled = bytes_settled o;
      refused_exactly = λ out r other. refused_exactly o r other out;
      too_short_exactly = too_short_exactly o own;
      nothing_altered = nothing_altered o;
    }

-- a text that was written is that of a value that passed
pub written_answer : (c : Checked) (text : List ℕ) {bytes : List ℕ} → written_if c text ≡ answer bytes → (c ≡ Passed) × (text ≡ bytes)
written_answer Passed text e = (refl, cc)
written_answer (Err r) text e = let z : ◌≡◌ {A = ℕ} 0 1 = cc in absurd (omega arith)

-- and a value whose text is refused did not pass
pub checked_refused : (c : Checked) (text : List ℕ) {r : Refusal} → written_if c text ≡ refusal r → c ≡ Err r
checked_refused Passed text e = let z : ◌≡◌ {A = ℕ} 0 1 = cc in absurd (omega arith)
checked_refused (Err q) text e = cc

-- the reply where the check refuses
pub check_refused : {c : Checked} (text s : List ℕ) {r : Refusal} → c ≡ Err r → Responded (written_if c text) s (Err r) s
check_refused text s p = rw p (record { reply = refl; output = refl })
