-- The answer at the front of the output: a text that was put there, or one that an operation wrote, which is short enough for the output; and the record
-- behind it.
use Prim.Native.Nat.{ℕ, ◌+◌, ◌≤◌}
use native.Mathlib.Omega.{arith}
use mathlib.Core.Path.{◌≡◌, refl, ap, ◌∙◌}
use mathlib.Core.List.{List, ◌++◌}
use lib.ListN.{length, drop}
use borrow.Author.Tests.{le-ltb}
use Rattle.std.specs.Prelude.{Option, Some, None}
use Rattle.laws.specs.Writing.{Puts, wrote_puts}
use Rattle.reply.specs.declared.Refusal.TheVariants.{Malformed}
use Rattle.reply.specs.Respond.{Outcome, answer, refusal, reply_to, output_of, Responded, Reply}
use Rattle.open_run.specs.declared.OpenRun.{OpenRun}
use Rattle.open_run.specs.declared.Entered.{Entered}
use Rattle.open_run.specs.declared.Closing.{Closing}
use Rattle.open_run.specs.Open.{left_by, wait_of, fire_of, close_of, closing, state_of, timetable_now}
use Rattle.console.specs.Printed.{refusal_text}
use Rattle.session.specs.declared.Entry.{Entry}
use Rattle.session.specs.declared.Entry.TheVariants.{Wait, Fire, Rest, State, Timetable}
use Rattle.session.specs.declared.Answered.{Answered}
use Rattle.session.specs.Session.{entry_of, told_text, shown_text, entry_text, closed_by, entry_leaves, line_text, line_leaves}
use Rattle.session.specs.Code.{shown_length, shown_output}
use Rattle.session.proofs.Short.{Short, close_short, state_short, timetable_short}

-- n bytes of text at the front of an output
abbrev pub AtFront : List ℕ → List ℕ → ℕ → List ℕ → Type 0
AtFront text out n after = (n ≡ length text) × (after ≡ text ++ drop (length text) out)

pub put_front : {text out after : List ℕ} {n : ℕ} → length text ≤ length out → Puts out 0 text n after → AtFront text out n after
put_front {text} {out} h p =
    let w = wrote_puts (omega arith) p in
    let none : 0 + length text ≡ length text = omega arith in
    (w.end ∙ none, w.bytes ∙ ap (λ (k : ℕ). text ++ drop k out) none)

pub as_answered : {n m : ℕ} (run : OpenRun) → n ≡ m → ◌≡◌ {A = Answered} (record { length = n; run = run }) (record { length = m; run = run })
as_answered run e = λ k. record { length = e k; run = run }

-- ---- what an operation wrote
module _ (out : List ℕ) (room : length out ≡ 2048) where
  fits : {text : List ℕ} {o : Outcome} → Short o → o ≡ answer text → length text ≤ length out
  fits {text} short e = omega (arith, short text e)

  shown_front : (o : Outcome) → Short o → AtFront (shown_text o) out (shown_length (reply_to o out)) (shown_output (reply_to o out) (output_of o out))
  shown_front (answer text) short = rw (le-ltb (length out) (length text) (fits short refl)) (refl, refl)
  shown_front (refusal e) short = (refl, refl)

  left_closed : (o : Outcome) → Short o → (r : OpenRun) → left_by (reply_to o out) r ≡ closed_by o r
  left_closed (answer text) short r = rw (le-ltb (length out) (length text) (fits short refl)) refl
  left_closed (refusal e) short r = refl

-- ---- the answer to a line, by what it asks for
module _ (r : OpenRun) (n : ℕ) (s out : List ℕ) where
  abbrev Line : Answered → List ℕ → Type 0
  Line a after =
      (a ≡ record { length = length (line_text r n s); run = line_leaves r s })
      × (after ≡ line_text r n s ++ drop (length (line_text r n s)) out)

  answers : {entry : Option Entry} {text : List ℕ} {left : OpenRun} {a : Answered} {after : List ℕ} → entry_of s ≡ entry → text ≡ entry_text r n entry
      → left ≡ entry_leaves r entry → a ≡ record { length = length text; run = left } → after ≡ text ++ drop (length text) out → Line a after
  answers e p q h k = rw (e, ← p, ← q) (h, k)

  -- a step
  abbrev Told : Entered → Answered → List ℕ → Type 0
  Told e a after =
      (a ≡ record { length = length (told_text e.checked); run = e.run })
      × (after ≡ told_text e.checked ++ drop (length (told_text e.checked)) out)

  pub wait_line : {w : ℕ} {e : Entered} {a : Answered} {after : List ℕ} → entry_of s ≡ Some (Wait w) → e ≡ wait_of r w → Told e a after → Line a after
  wait_line q p t = answers q (ap (λ (x : Entered). told_text x.checked) p) (ap (λ (x : Entered). x.run) p) t.0 t.1

  pub fire_line : {w : ℕ} {e : Entered} {a : Answered} {after : List ℕ} → entry_of s ≡ Some (Fire w) → e ≡ fire_of r w → Told e a after → Line a after
  fire_line q p t = answers q (ap (λ (x : Entered). told_text x.checked) p) (ap (λ (x : Entered). x.run) p) t.0 t.1

  -- no entry
  pub no_line : {k : ℕ} {after : List ℕ} → entry_of s ≡ None → AtFront (refusal_text (Malformed n)) out k after
      → Line (record { length = k; run = r }) after
  no_line q h = answers q refl refl (as_answered r h.0) h.1

  -- the closing and the calls
  module _ (room : length out ≡ 2048) where
    shown : {entry : Option Entry} {left : OpenRun} {reply : Reply} {mid : List ℕ} {a : Answered} {after : List ℕ} (o : Outcome) → Short o → entry_of s ≡ entry
        → shown_text o ≡ entry_text r n entry → left ≡ entry_leaves r entry → Responded o out reply mid
        → (a ≡ record { length = shown_length reply; run = left }) × (after ≡ shown_output reply mid) → Line a after
    shown {left = left} {mid = mid} o short q p e d t =
        let f = shown_front out room o short in
        answers q p e
        (t.0 ∙ as_answered left (ap shown_length d.reply ∙ f.0))
        (t.1 ∙ ap (λ (x : Reply). shown_output x mid) d.reply ∙ ap (λ (x : List ℕ). shown_output (reply_to o out) x) d.output ∙ f.1)

    pub close_line : {w : ℕ} {c : Closing} {mid : List ℕ} {a : Answered} {after : List ℕ} → entry_of s ≡ Some (Rest w)
        → (c ≡ closing r w out) × (mid ≡ output_of (close_of r w) out)
        → (a ≡ record { length = shown_length c.reply; run = c.run }) × (after ≡ shown_output c.reply mid) → Line a after
    close_line {w} q d t =
        shown (close_of r w) (close_short r w) q refl (ap (λ (x : Closing). x.run) d.0 ∙ left_closed out room (close_of r w) (close_short r w) r)
        (record { reply = ap (λ (x : Closing). x.reply) d.0; output = d.1 }) t

    pub state_line : {reply : Reply} {mid : List ℕ} {a : Answered} {after : List ℕ} → entry_of s ≡ Some State → Responded (state_of r) out reply mid
        → (a ≡ record { length = shown_length reply; run = r }) × (after ≡ shown_output reply mid) → Line a after
    state_line q d t = shown (state_of r) (state_short r) q refl refl d t

    pub timetable_line : {reply : Reply} {mid : List ℕ} {a : Answered} {after : List ℕ} → entry_of s ≡ Some Timetable → Responded (timetable_now r) out reply mid
        → (a ≡ record { length = shown_length reply; run = r }) × (after ≡ shown_output reply mid) → Line a after
    timetable_line q d t = shown (timetable_now r) (timetable_short r) q refl refl d t
