-- What each way out of a step says: refused by 5, 7 or 6, or fired.
use Rattle.reply.specs.Respond.{Passed}
use Rattle.std.specs.Prelude.{Err}
use Rattle.std.proofs.Common.{◌≡◌, ℕ, ◌-◌, min, true, false, List, get_or, Some, None, sym, refl, ap, ◌∙◌}
use Rattle.reply.specs.declared.Refusal.{Refusal}
use Rattle.reply.specs.declared.Refusal.TheVariants.{NotEnabled, OutsideInterval, TooManyTokens}
use Rattle.firing.specs.declared.Attempt.{Attempt}
use Rattle.firing.specs.Semantics.{Arcs, enabled, looked_at, restarts_fired, rule_of}
use Rattle.firing.specs.Replay.{timely, judged_by}
use Rattle.firing.specs.Step.{Stepped, stepped}
use Rattle.steps.specs.declared.Takes.{Takes}
use Rattle.steps.specs.declared.Terms.{Terms}
use Rattle.steps.specs.declared.Moved.{Moved}
use Rattle.steps.specs.Code.{arcs_in, moved, renewed_by}
use Rattle.steps.proofs.Places.{moved_none, moved_some}
use Rattle.steps.proofs.Restarts.{renewed_is}

module _ (terms : Terms) (f : Attempt) (m since : List ℕ)
    (s : Takes) (w : s.weights.now ≡ terms.take.now) (p : s.places ≡ min terms.places 16) (n : s.transitions ≡ min terms.transitions 32) where
  -- the net, and the same as the code sees it
  abbrev net : Arcs
  net = arcs_in terms

  abbrev seen : Arcs
  seen = record { places = s.places; transitions = s.transitions; take = s.weights.now; give = terms.give.now }

  same : seen ≡ net
  same =
      ap (λ (x : List ℕ). record { places = s.places; transitions = s.transitions; take = x; give = terms.give.now }) w
      ∙ ap (λ (x : ℕ). record { places = x; transitions = s.transitions; take = terms.take.now; give = terms.give.now }) p
      ∙ ap (λ (x : ℕ). record { places = min terms.places 16; transitions = x; take = terms.take.now; give = terms.give.now }) n

  -- what the step says, a refusal, and the clock
  abbrev says : Stepped → Type 0
  says r = r ≡ stepped net (rule_of net terms.memory) terms.denominator f m since

  abbrev refused : Refusal → Stepped
  refused r = record { checked = Err r; marking = m; since = since }

  abbrev clock : ℕ
  clock = f.instant - get_or since f.t 0

  pub says_disabled : enabled seen m f.t ≡ false → says (refused (NotEnabled f.number))
  unfolding stepped judged_by
  says_disabled e = rw (sym (ap (λ (x : Arcs). enabled x m f.t) same) ∙ e) refl

  module _ (e : enabled seen m f.t ≡ true) where
    enabled_is : enabled net m f.t ≡ true
    enabled_is = sym (ap (λ (x : Arcs). enabled x m f.t) same) ∙ e

    pub says_early : timely f.interval terms.denominator clock ≡ false → says (refused (OutsideInterval f.number))
    unfolding stepped judged_by
    says_early l = rw (enabled_is, l) refl

    module _ (l : timely f.interval terms.denominator clock ≡ true) where
      pub says_over : moved seen m f.t ≡ None → says (refused (TooManyTokens f.number))
      unfolding stepped judged_by
      says_over o = rw (enabled_is, l, moved_none net m f.t (sym (ap (λ (x : Arcs). moved x m f.t) same) ∙ o)) refl

      pub says_fired : {r : Moved} → moved seen m f.t ≡ Some r → {looked next : List ℕ} → looked ≡ looked_at terms.memory m r.middle
          → next ≡ renewed_by seen (restarts_fired terms.memory) looked r.later f.t f.instant since
          → says (record { checked = Passed; marking = r.later; since = next })
      unfolding stepped judged_by
      says_fired {r} o {looked} {next} see new =
          let to = moved_some net m f.t {r = r} (sym (ap (λ (x : Arcs). moved x m f.t) same) ∙ o) in
          let there = ap (λ (x : Arcs). renewed_by x (restarts_fired terms.memory) looked r.later f.t f.instant since) same in
          rw (enabled_is, l, to.within, new, there, see, to.middle, to.later, renewed_is net terms.memory m f.t since f.instant) refl
