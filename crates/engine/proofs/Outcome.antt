-- What is replied: an operation answers the first refusal of what it reads or checks; a text put to the front of an output that holds every such text is the
-- answer, and so is one that was made in a buffer.
use Rattle.std.specs.Prelude.{Err, Ok}
use Prim.Native.Nat.{ℕ, ◌≤◌}
use native.Mathlib.Nat.{zero-add}
use native.Mathlib.Omega.{arith}
use mathlib.Core.Path.{◌≡◌, refl}
use mathlib.Core.Bool.{false}
use mathlib.Core.List.{List}
use lib.ListN.{length}
use lib.Dec.{ltb}
use borrow.Author.Tests.{le-ltb}
use Rattle.laws.specs.Writing.{Puts, wrote_puts}
use Rattle.reply.specs.declared.Refusal.{Refusal}
use Rattle.reply.specs.Respond.{Outcome, answer, refusal, Responded, Checked, Passed, Reply}
use Rattle.form.specs.Form.{Found, found, refused}
use Rattle.operations.specs.Operation.{once_checked, once_read}

-- a refusal leaves the output as it was
pub refusal_answered : (r : Refusal) (out : List ℕ) → Responded (refusal r) out (Err r) out
refusal_answered r out = record { reply = refl; output = refl }

-- ---- an operation on values: c is what their check says
module _ {c : Checked} (o : Outcome) where
  pub check_refused : {r : Refusal} (out : List ℕ) → c ≡ Err r → Responded (once_checked c o) out (Err r) out
  check_refused {r} out e = rw e (refusal_answered r out)

  pub check_passed : {entry : List ℕ} {r : Reply} {exit : List ℕ} → c ≡ Passed → Responded o entry r exit → Responded (once_checked c o) entry r exit
  check_passed e v = rw e v

-- ---- an operation on cards: f is what was found in them
module _ {A : Type 0} {f : Found A} (o : A → Outcome) where
  pub cards_refused : {r : Refusal} (out : List ℕ) → f ≡ refused r → Responded (once_read f o) out (Err r) out
  cards_refused {r} out e = rw e (refusal_answered r out)

  pub cards_found : {a : A} {next : ℕ} {entry : List ℕ} {r : Reply} {exit : List ℕ} → f ≡ found a next → Responded (o a) entry r exit
      → Responded (once_read f o) entry r exit
  cards_found e v = rw e v

-- ---- a text put straight to the front of an output that holds it
pub put_answered : {text out : List ℕ} {n : ℕ} {exit : List ℕ} → length text ≤ length out → Puts out 0 text n exit
    → Responded (answer text) out (Ok n) exit
put_answered {text} {out} h p =
    let w = wrote_puts {s = out} {at = 0} {text = text} (omega arith) p in
    let fits : ltb (length out) (length text) ≡ false = le-ltb (length out) (length text) h in
    let none = zero-add (length text) in
    record { reply = rw (fits, w.end, none) refl; output = rw (fits, w.bytes, none) refl }
