-- A step is accepted exactly if the run with it added is: its check has the parts of the card's check and of the replay that the record does not have already.
-- What an accepted step leaves is open again, and what is found against a step has the number of its part and the place of the firing being entered.
use Rattle.reply.specs.Respond.{Checked, Passed}
use Rattle.std.specs.Prelude.{Err}
use Prim.Native.Nat.{ℕ, ◌≤◌, ◌<◌}
use native.Mathlib.Omega.{arith}
use mathlib.Core.Path.{◌≡◌, refl, sym, ap, ◌∙◌}
use mathlib.Core.Bool.{true}
use mathlib.Core.Logic.{◌↔◌}
use mathlib.Core.List.{List, []}
use lib.ListN.{length-set, length-replicate, get_or-replicate}
use lib.Seq.{get_or-set_other}
use Rattle.laws.specs.Slots.{first_of}
use Rattle.reply.specs.declared.Refusal.{Refusal}
use Rattle.form.proofs.Found.{also_first, also_second}
use Rattle.form.proofs.Lines.{ranged_within}
use Rattle.net.specs.declared.Net.{Net}
use Rattle.net.specs.Net.{net_card}
use Rattle.net.proofs.Card.{net_sheet}
use Rattle.run.specs.declared.Memory.{Memory}
use Rattle.run.specs.declared.Firing.{Firing}
use Rattle.run.specs.declared.Run.{Run}
use Rattle.run.specs.Run.{no_firing, firings_of}
use Rattle.run.proofs.Ranges.{ranged_passes, run_in_ranges}
use Rattle.firing.specs.Semantics.{arcs_of, rule_of}
use Rattle.firing.specs.Replay.{start_state, play, replay}
use Rattle.cards.specs.Cards.{run_checked}
use Rattle.operations.specs.Replay.{replayed}
use Rattle.operations.specs.Outcomes.{replaying}
use Rattle.operations.proofs.Answers.{once_answered, work_answered}
use Rattle.operations.proofs.Demands.{run_as_cards}
use Rattle.open_run.specs.declared.OpenRun.{OpenRun}
use Rattle.open_run.specs.Open.{is_open, with_run, opened, no_steps, wait_added, fire_added, open_checked, wait_checked, fire_checked, entering}
use Rattle.open_run.specs.Claims.{CardAccepted}
use Rattle.open_run.proofs.Opened.{open_parts, open_fits, open_net, fits_checked}
use Rattle.open_run.proofs.Opened.{wait_fits, wait_passes, replayed_waited, blank_waited, wait_card, fits_fired, fire_fits, fire_passes, blank_exactly}

-- ---- what a step leaves
module _ (before after : OpenRun) where
  pub entering_accepts : (c : Checked) → (entering c before after).checked ≡ Passed → (c ≡ Passed) × ((entering c before after).run ≡ after)
  entering_accepts Passed p = (refl, refl)
  entering_accepts (Err e) p = let z : ◌≡◌ {A = ℕ} 0 1 = cc in absurd (omega arith)

  pub entering_refuses : (c : Checked) {e : Refusal} → (entering c before after).checked ≡ Err e
      → (c ≡ Err e) × ((entering c before after).run ≡ before)
  entering_refuses Passed p = let z : ◌≡◌ {A = ℕ} 0 1 = cc in absurd (omega arith)
  entering_refuses (Err e) p = (p, refl)

  pub entering_told : (c : Checked) → (entering c before after).checked ≡ c
  entering_told Passed = refl
  entering_told (Err e) = refl

-- ---- an accepted step leaves an open record
pub open_waited : (r : OpenRun) (w : ℕ) → wait_checked r w ≡ Passed → is_open (with_run r (wait_added r.run w)) ≡ true
open_waited r w e =
    let p = (open_parts r).0 (wait_fits r w e).0 in
    (open_parts (with_run r (wait_added r.run w))).1
    (record {
      running = p.running;
      checked = wait_card r w e;
      accepted = replayed_waited r.net r.run w ∙ p.accepted;
      slots = p.slots;
      blank = blank_waited r.run w ∙ p.blank;
    })

pub open_fired : (r : OpenRun) (t : ℕ) → fire_checked r t ≡ Passed → is_open (with_run r (fire_added r.run t)) ≡ true
open_fired r t e =
    let (o, few, inside, accepted) = fire_fits r t e in
    let p = (open_parts r).0 o in
    let q = fire_added r.run t in
    (open_parts (with_run r q)).1
    (record {
      running = p.running;
      checked = fits_checked r.net q (open_net r o) ((fits_fired r.run t r.net.sheet r.net.transitions few p.slots (open_fits r o)).1 inside);
      accepted = accepted;
      slots = length-set r.run.firings r.run.count _ ∙ p.slots;
      blank = (blank_exactly q).1 (λ i h l.
          get_or-set_other r.run.firings r.run.count i _ no_firing (λ z. omega arith) ∙ (blank_exactly r.run).0 p.blank i (omega arith) l);
    })

-- ---- opening
pub no_firings : (q : Run) → q.count ≡ 0 → firings_of q ≡ []
unfolding firings_of first_of
no_firings q e = rw e refl

nothing_played : (net : Net) (q : Run) → q.count ≡ 0 → replayed net q ≡ Passed
unfolding replay play
nothing_played net q e =
    ap (λ (fs : List Firing). (play net (rule_of (arcs_of net) q.memory) q.denominator fs (start_state net) 0).checked) (no_firings q e)

module _ (net : Net) (D : ℕ) where
  pub opened_exactly : (open_checked net D ≡ Passed) ↔ ((net_card.check net 1 ≡ Passed) × (1 ≤ D) × (D ≤ 1000))
  opened_exactly = (
    λ e.
        let h = ranged_within 1 1000 D 0 (also_second (net_card.check net 1) _ e) in
        (also_first (net_card.check net 1) _ e, h.0, h.1),
    λ h. rw h.0 (ranged_passes 1 1000 D 0 h.1 h.2),
  )

  pub open_opened : (memory : Memory) → open_checked net D ≡ Passed → is_open (opened net memory D) ≡ true
  open_opened memory e =
      let (n, some, few) = opened_exactly.0 e in
      (open_parts (opened net memory D)).1
      (record {
        running = refl;
        checked = fits_checked net (no_steps net memory D) n
            (record {
              own = refl;
              sheet_small = net_sheet net n;
              some_parts = some;
              few_parts = few;
              few = omega arith;
              each = rw (no_firings (no_steps net memory D) refl) tt;
              rest = omega arith;
            });
        accepted = nothing_played net (no_steps net memory D) refl;
        slots = length-replicate 64 no_firing;
        blank = (blank_exactly (no_steps net memory D)).1 (λ i h l. get_or-replicate 64 i no_firing no_firing l);
      })

-- ---- the card with a step added
-- a run's card is accepted exactly if it passes its check and its replay
pub card_accepted : (net : Net) (q : Run) → CardAccepted net q ↔ ((run_checked net q ≡ Passed) × (replayed net q ≡ Passed))
card_accepted net q =
    rw (sym (run_as_cards replaying net q))
    (let once = once_answered (run_checked net q) _ in
    let work = work_answered net q replaying in
    (λ a. let h = once.0 a in (h.0, work.0 h.1), λ h. once.1 (h.0, work.1 h.1)))

pub wait_exactly : (r : OpenRun) (w : ℕ) → is_open r ≡ true → (wait_checked r w ≡ Passed) ↔ CardAccepted r.net (wait_added r.run w)
wait_exactly r w o =
    let q = wait_added r.run w in
    let card = card_accepted r.net q in (
      λ e. card.1 (wait_card r w e, replayed_waited r.net r.run w ∙ ((open_parts r).0 o).accepted),
      λ a.
          let inside = also_second (net_card.check r.net 1) _ (card.0 a).0 in
          wait_passes r w o ((run_in_ranges r.net.sheet r.net.transitions q).0 inside).rest,
    )

pub fire_exactly : (r : OpenRun) (t : ℕ) → is_open r ≡ true → (fire_checked r t ≡ Passed) ↔ CardAccepted r.net (fire_added r.run t)
fire_exactly r t o =
    let q = fire_added r.run t in
    let card = card_accepted r.net q in (
      λ e. card.1 (((open_parts (with_run r q)).0 (open_fired r t e)).checked, (fire_fits r t e).3),
      λ a.
          let f = (run_in_ranges r.net.sheet r.net.transitions q).0 (also_second (net_card.check r.net 1) _ (card.0 a).0) in
          let few : r.run.count < 64 = f.few in
          let inside = (fits_fired r.run t r.net.sheet r.net.transitions few ((open_parts r).0 o).slots (open_fits r o)).0 f in
          fire_passes r t o few inside ∙ (card.0 a).1,
    )
