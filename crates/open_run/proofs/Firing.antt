-- A firing entered behind an open run is judged where the run stands: those before it pass again, so that the replay of the run with it added comes to it alone.
use Rattle.reply.specs.Respond.{Checked, Passed}
use Rattle.std.specs.Prelude.{Err}
use Prim.Native.Nat.{ℕ, suc, ◌+◌, ◌<◌, min}
use native.Mathlib.Nat.{min-eq_left}
use native.Mathlib.Omega.{arith}
use mathlib.Core.Path.{◌≡◌, refl, ap, ◌∙◌}
use mathlib.Core.Bool.{true}
use mathlib.Core.List.{List, [], ◌∷◌, ◌++◌}
use lib.ListN.{length}
use Rattle.laws.specs.Each.{Each, each_mapped, each_map}
use Rattle.laws.specs.Slots.{first_mapped}
use Rattle.net.specs.declared.Net.{Net}
use Rattle.run.specs.declared.Firing.{Firing}
use Rattle.run.specs.declared.Run.{Run}
use Rattle.run.specs.Run.{no_firing, firings_of, fires_of, order_of}
use Rattle.run.proofs.Firings.{length_firings}
use Rattle.run.proofs.Ranges.{order_passes}
use Rattle.firing.specs.declared.State.{State}
use Rattle.firing.specs.declared.Played.{Played}
use Rattle.firing.specs.Semantics.{arcs_of, Restart, rule_of}
use Rattle.firing.specs.Replay.{start_state, waited, judged, step_on, play, replay}
use Rattle.firing.proofs.Accept.{play_on}
use Rattle.cards.specs.Cards.{order_checked}
use Rattle.operations.specs.Replay.{replayed}
use Rattle.open_run.specs.declared.OpenRun.{OpenRun}
use Rattle.open_run.specs.Open.{is_open, fire_added, order_so_far}
use Rattle.open_run.proofs.Opened.{open_parts, open_fits, open_net, added, firings_fired}

-- one firing is judged, and nothing comes behind it
step_told : (c : Checked) (st : State) (later : Played) → later.checked ≡ Passed → (step_on c st later).checked ≡ c
step_told Passed st later e = e
step_told (Err r) st later e = refl

module _ (net : Net) (restarts : Restart) (D : ℕ) where
  play_one : (f : Firing) (st : State) (n : ℕ) → (play net restarts D (f ∷ []) st n).checked ≡ judged net D (waited st f.wait) f.fire (n + 1)
  unfolding play
  play_one f st n = step_told (judged net D (waited st f.wait) f.fire (n + 1)) st _ refl

  -- the last of firings of which the others pass
  play_last : (fs : List Firing) (f : Firing) → (play net restarts D fs (start_state net) 0).checked ≡ Passed
      → (play net restarts D (fs ++ (f ∷ [])) (start_state net) 0).checked
      ≡ judged net D (waited (play net restarts D fs (start_state net) 0).state f.wait) f.fire (suc (length fs))
  play_last fs f e =
      let p = play net restarts D fs (start_state net) 0 in
      let n : 0 + length fs + 1 ≡ suc (length fs) = omega arith in
      ap (λ (x : Played). x.checked) (play_on net restarts D fs (f ∷ []) (start_state net) p.state 0 (λ i. record { checked = e i; state = p.state }))
      ∙ play_one f p.state (0 + length fs) ∙ ap (judged net D (waited p.state f.wait) f.fire) n

module _ (r : OpenRun) (o : is_open r ≡ true) where
  abbrev rule : Restart
  rule = rule_of (arcs_of r.net) r.run.memory

  count_firings : length (firings_of r.run) ≡ r.run.count
  count_firings = length_firings r.run ∙ min-eq_left (open_fits r o).few

  pub fire_judged : (t : ℕ) → r.run.count < 64
      → replayed r.net (fire_added r.run t)
      ≡ judged r.net r.run.denominator (replay r.net rule r.run).state t (suc r.run.count)
  unfolding replay
  fire_judged t few =
      let p = (open_parts r).0 o in
      let D = r.run.denominator in
      ap (λ (fs : List Firing). (play r.net rule D fs (start_state r.net) 0).checked) (firings_fired r.run t few p.slots)
      ∙ play_last r.net rule D (firings_of r.run) (added r.run t) p.accepted
      ∙ ap (λ (n : ℕ). judged r.net D (replay r.net rule r.run).state t (suc n)) count_firings

-- ---- the order of the firings so far
pub fires_so_far : (q : Run) → fires_of (order_so_far q) ≡ order_of (firings_of q)
unfolding fires_of order_of firings_of
fires_so_far q = first_mapped (λ (f : Firing). f.fire) (min q.count 64) no_firing refl q.firings

listed_fires : (n : ℕ) (fs : List Firing) → Each (λ (f : Firing). f.fire < n) fs → Each (λ t. t < n) (order_of fs)
unfolding order_of
listed_fires n fs h = each_mapped (λ t. t < n) (λ (f : Firing). f.fire) fs h

pub order_card_lem : (r : OpenRun) → is_open r ≡ true → order_checked r.net (order_so_far r.run) ≡ Passed
order_card_lem r o =
    let f = open_fits r o in
    let fs = firings_of r.run in
    rw (open_net r o)
    (order_passes r.net.sheet r.net.transitions (order_so_far r.run)
    (record {
      own = f.own;
      sheet_small = f.sheet_small;
      few = f.few;
      each = rw (fires_so_far r.run) (listed_fires r.net.transitions fs (each_map (λ g h. h.1) fs f.each));
    }))
