-- Steps in a row: an accepted one adds itself to the run, a refused one leaves the record, so that the accepted ones alone are in it, by induction on the steps.
use Rattle.reply.specs.Respond.{Checked, Passed}
use Rattle.std.specs.Prelude.{Err}
use Prim.Native.Nat.{ℕ, ◌+◌}
use native.Mathlib.Nat.{min-eq_left}
use mathlib.Core.Path.{◌≡◌, refl, sym, ap, ◌∙◌}
use mathlib.Core.Bool.{true}
use mathlib.Core.List.{List, [], ◌∷◌, ◌++◌, append-nil}
use lib.ListN.{length}
use lib.Seq.{append_snoc}
use Rattle.net.specs.declared.Net.{Net}
use Rattle.run.specs.declared.Memory.{Memory}
use Rattle.run.specs.declared.Firing.{Firing}
use Rattle.run.specs.Run.{firings_of}
use Rattle.run.proofs.Firings.{length_firings}
use Rattle.open_run.specs.declared.OpenRun.{OpenRun}
use Rattle.open_run.specs.Open.{is_open, with_run, opened, no_steps, wait_added, fire_added, open_checked, wait_checked, fire_checked, entering}
use Rattle.open_run.specs.Claims.{RunStep, waits, fires, behind, kept_if, accepted_of, firings_by, rest_by, RunOf}
use Rattle.open_run.proofs.Opened.{open_parts, open_fits, firings_waited, firings_fired, fire_fits}
use Rattle.open_run.proofs.Accepted.{no_firings, open_opened, open_waited, open_fired}

-- between a record and a later one lie these steps, all of them accepted
record Kept (r last : OpenRun) (ss : List RunStep) : Type 0 where
  still_open : is_open last ≡ true
  net : last.net ≡ r.net
  sheet : last.run.sheet ≡ r.run.sheet
  word : last.run.memory ≡ r.run.memory
  parts : last.run.denominator ≡ r.run.denominator
  firings : firings_of last.run ≡ firings_of r.run ++ firings_by r.run.rest ss
  rest : last.run.rest ≡ rest_by r.run.rest ss

none_kept : (r : OpenRun) → is_open r ≡ true → Kept r r []
unfolding firings_by rest_by
none_kept r o =
    record { still_open = o; net = refl; sheet = refl; word = refl; parts = refl; firings = sym (append-nil (firings_of r.run)); rest = refl }

wait_kept : (r last : OpenRun) (w : ℕ) (ss : List RunStep) → Kept (with_run r (wait_added r.run w)) last ss → Kept r last (waits w ∷ ss)
unfolding firings_by rest_by
wait_kept r last w ss k =
    record {
      still_open = k.still_open;
      net = k.net;
      sheet = k.sheet;
      word = k.word;
      parts = k.parts;
      firings = k.firings ∙ ap (λ (l : List Firing). l ++ firings_by (r.run.rest + w) ss) (firings_waited r.run w);
      rest = k.rest;
    }

fire_kept : (r last : OpenRun) (t : ℕ) (ss : List RunStep) → fire_checked r t ≡ Passed → Kept (with_run r (fire_added r.run t)) last ss
    → Kept r last (fires t ∷ ss)
unfolding firings_by rest_by
fire_kept r last t ss e k =
    let (o, few, inside, accepted) = fire_fits r t e in
    record {
      still_open = k.still_open;
      net = k.net;
      sheet = k.sheet;
      word = k.word;
      parts = k.parts;
      firings = k.firings ∙ ap (λ (l : List Firing). l ++ firings_by 0 ss) (firings_fired r.run t few ((open_parts r).0 o).slots)
          ∙ append_snoc (firings_of r.run) (record { wait = r.run.rest; fire = t }) (firings_by 0 ss);
      rest = k.rest;
    }

-- a step that is accepted or refused
step_kept : (r later : OpenRun) (s : RunStep) (ss : List RunStep) (c : Checked) → (c ≡ Passed → Kept r (behind later ss) (s ∷ accepted_of later ss))
    → Kept r (behind r ss) (accepted_of r ss)
    → let e = entering c r later in Kept r (behind e.run ss) (kept_if e.checked s (accepted_of e.run ss))
step_kept r later s ss Passed then k = then refl
step_kept r later s ss (Err q) then k = k

all_kept : (ss : List RunStep) (r : OpenRun) → is_open r ≡ true → Kept r (behind r ss) (accepted_of r ss)
unfolding behind accepted_of
all_kept [] r o = none_kept r o
all_kept (waits w ∷ ss) r o =
    let later = with_run r (wait_added r.run w) in
    step_kept r later (waits w) ss (wait_checked r w)
    (λ p. wait_kept r (behind later ss) w (accepted_of later ss) (all_kept ss later (open_waited r w p))) (all_kept ss r o)
all_kept (fires t ∷ ss) r o =
    let later = with_run r (fire_added r.run t) in
    step_kept r later (fires t) ss (fire_checked r t)
    (λ p. fire_kept r (behind later ss) t (accepted_of later ss) p (all_kept ss later (open_fired r t p))) (all_kept ss r o)

-- from opening on
module _ (net : Net) (memory : Memory) (D : ℕ) (ss : List RunStep) (e : open_checked net D ≡ Passed) where
  abbrev start : OpenRun
  start = opened net memory D

  kept : Kept start (behind start ss) (accepted_of start ss)
  kept = all_kept ss start (open_opened net D memory e)

  pub steps_open : is_open (behind start ss) ≡ true
  steps_open = kept.still_open

  pub steps_net : (behind start ss).net ≡ net
  steps_net = kept.net

  pub steps_run : RunOf net memory D (accepted_of start ss) (behind start ss).run
  steps_run =
      let q = (behind start ss).run in
      let all = kept.firings ∙ ap (λ (l : List Firing). l ++ firings_by 0 (accepted_of start ss)) (no_firings (no_steps net memory D) refl) in
      record {
        sheet = kept.sheet;
        word = kept.word;
        parts = kept.parts;
        count = sym (min-eq_left (open_fits (behind start ss) steps_open).few) ∙ sym (length_firings q) ∙ ap length all;
        firings = all;
        rest = kept.rest;
      }
