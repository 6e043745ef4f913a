-- The firings of a run by its slots: how many count, and what stands in each of them.
use Prim.Native.Nat.{ℕ, ◌<◌, min}
use mathlib.Core.Path.{◌≡◌, ap, ◌∙◌}
use lib.ListN.{length, get_or, get_or-map}
use Rattle.laws.specs.Slots.{length_first, get_d_first}
use Rattle.run.specs.declared.Firing.{Firing}
use Rattle.run.specs.declared.Run.{Run}
use Rattle.run.specs.Run.{no_firing, firings_of, order_of, waits_of}

pub length_firings : (r : Run) → length (firings_of r) ≡ min r.count 64
unfolding firings_of
length_firings r = length_first (min r.count 64) no_firing r.firings

module _ (r : Run) (i : ℕ) (l : i < min r.count 64) where
  pub firing_at : get_or (firings_of r) i no_firing ≡ get_or r.firings i no_firing
  unfolding firings_of
  firing_at = get_d_first (min r.count 64) no_firing r.firings i l

  pub wait_at : get_or (waits_of (firings_of r)) i 0 ≡ (get_or r.firings i no_firing).wait
  unfolding waits_of
  wait_at = get_or-map (λ (f : Firing). f.wait) (firings_of r) i no_firing ∙ ap (λ (f : Firing). f.wait) firing_at

  pub fire_at_lem : get_or (order_of (firings_of r)) i 0 ≡ (get_or r.firings i no_firing).fire
  unfolding order_of
  fire_at_lem = get_or-map (λ (f : Firing). f.fire) (firings_of r) i no_firing ∙ ap (λ (f : Firing). f.fire) firing_at
