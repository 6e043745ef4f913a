-- A record that stands as two cards: a step or a call on it comes to what it comes to over the cards. Where these are refused, the record is closed.
use Rattle.std.proofs.Common.{ℕ, ◌≡◌, arith}
use Prim.Native.Nat.{ℕ}
use mathlib.Core.Path.{◌≡◌, refl, sym, ap, subst, ◌∙◌}
use mathlib.Core.Bool.{true}
use mathlib.Core.List.{List}
use Rattle.std.specs.Prelude.{Ok, Err}
use Rattle.reply.specs.declared.Refusal.{Refusal}
use Rattle.reply.specs.declared.Refusal.TheVariants.{ClosedRun}
use Rattle.reply.specs.Respond.{Outcome, refusal, Responded, output_of, Checked, Passed, Reply}
use Rattle.form.specs.Form.{Found, found, refused}
use Rattle.net.specs.declared.Net.{Net}
use Rattle.run.specs.declared.Run.{Run}
use Rattle.cards.specs.Cards.{run_cards, run_checked, run_text}
use Rattle.open_run.specs.declared.OpenRun.{OpenRun}
use Rattle.open_run.specs.declared.Entered.{Entered}
use Rattle.open_run.specs.declared.Closing.{Closing}
use Rattle.open_run.specs.Open.{is_open, entering, close_of, closing}
use Rattle.open_run.specs.Cards.{on_record, card_after}
use Rattle.open_run.proofs.Opened.{open_parts}
use Rattle.open_run.proofs.Accepted.{entering_accepts}
use Rattle.open_cards.specs.Code.{record_of}

-- ---- the card behind a step that leaves an open record
pub entered_card : (before after : OpenRun) (c : Checked) → (c ≡ Passed → is_open after ≡ true) → {e : Entered} → e ≡ entering c before after
    → e.checked ≡ Passed → run_checked e.run.net e.run.run ≡ Passed
entered_card before after c stays is p =
    let (passed, same) = entering_accepts before after c (ap (λ (x : Entered). x.checked) (sym is) ∙ p) in
    rw (ap (λ (x : Entered). x.run) is ∙ same) ((open_parts after).0 (stays passed)).checked

pub entered_answered : (e : Entered) {entry : List ℕ} {q : Reply} {exit : List ℕ} → e.checked ≡ Passed → run_checked e.run.net e.run.run ≡ Passed
    → Responded (run_text e.run.net e.run.run) entry q exit → Responded (card_after e) entry q exit
entered_answered e p h v = rw p (rw h at v)

-- ---- steps and calls on the record that was read
module _ (s : List ℕ) where
  -- no open run
  pub no_record : {e : Refusal} → record_of (run_cards s) ≡ Err e → (f : OpenRun → Outcome) → on_record (run_cards s) f ≡ refusal e
  no_record {e} = go (run_cards s)
    where
      go : (x : Found (Net × Run)) → record_of x ≡ Err e → (f : OpenRun → Outcome) → on_record x f ≡ refusal e
      go (found v next) p f = let z : ◌≡◌ {A = ℕ} 0 1 = cc in absurd (omega arith)
      go (refused q) p f = let same : ClosedRun ≡ e = cc in rw same refl

  pub on_record_lem : {r : OpenRun} → record_of (run_cards s) ≡ Ok r → (f : OpenRun → Outcome) → on_record (run_cards s) f ≡ f r
  on_record_lem {r} = go (run_cards s)
    where
      go : (x : Found (Net × Run)) → record_of x ≡ Ok r → (f : OpenRun → Outcome) → on_record x f ≡ f r
      go (found v next) p f = let same : ◌≡◌ {A = OpenRun} (record { net = v.0; run = v.1; running = true }) r = cc in ap f same
      go (refused q) p f = let z : ◌≡◌ {A = ℕ} 0 1 = cc in absurd (omega arith)

  pub record_refused : {e : Refusal} → record_of (run_cards s) ≡ Err e → (f : OpenRun → Outcome) (out : List ℕ)
      → Responded (on_record (run_cards s) f) out (Err e) out
  record_refused p f out = rw (no_record p f) (record { reply = refl; output = refl })

  pub record_answered : {r : OpenRun} → record_of (run_cards s) ≡ Ok r → (f : OpenRun → Outcome) {o : Outcome} {entry : List ℕ} {q : Reply} {exit : List ℕ}
      → o ≡ f r → Responded o entry q exit → Responded (on_record (run_cards s) f) entry q exit
  record_answered p f {o} {entry} {q} {exit} is v = subst (λ (x : Outcome). Responded x entry q exit) (is ∙ sym (on_record_lem p f)) v

pub closing_answered : (r : OpenRun) (w : ℕ) {c : Closing} {entry exit : List ℕ} → (c ≡ closing r w entry) × (exit ≡ output_of (close_of r w) entry)
    → Responded (close_of r w) entry c.reply exit
closing_answered r w is = record { reply = ap (λ (x : Closing). x.reply) is.0; output = is.1 }
