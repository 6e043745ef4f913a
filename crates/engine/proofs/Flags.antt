-- The numbers whose flag is down: from i on they are those from the next on, and i where its flag is down. With the flags of firings they are the free ones.
use Prim.Native.Nat.{ℕ, suc, ◌+◌, ◌-◌, ◌≤◌, ◌<◌, suc-le-suc}
use native.Mathlib.Nat.{add-zero, add-suc, suc-add}
use native.Mathlib.Numerals.{add-one}
use native.Mathlib.Omega.{arith}
use mathlib.Core.Path.{◌≡◌, refl, sym, ap, ◌∙◌}
use mathlib.Core.Bool.{Bool, true, false}
use mathlib.Core.List.{List, [], ◌∷◌, map}
use lib.ListN.{length, get_or, drop, length-drop}
use lib.Seq.{get_or-drop}
use Rattle.text.specs.Decimal.{decimal}
use Rattle.causal.specs.Process.{Event}
use Rattle.causal.specs.Free.{took_from, free_from, free}
use Rattle.causal.specs.Claims.{no_event}
use Rattle.engine.specs.Counts.{unset}

module _ (flags : List Bool) (count : ℕ) where
  -- the numbers from i on, as texts
  abbrev pub numbers_from : ℕ → List (List ℕ)
  numbers_from i = map decimal (unset flags i (count - i))

  pub numbers_none : (i : ℕ) → count ≤ i → numbers_from i ≡ []
  unfolding unset
  numbers_none i h = let none : count - i ≡ 0 = omega arith in rw none refl

  module _ (i : ℕ) (l : i < count) where
    pub number_up : get_or flags i false ≡ true → numbers_from i ≡ numbers_from (i + 1)
    unfolding unset
    number_up e = let one : count - i ≡ suc (count - (i + 1)) = omega arith in rw (one, e, add-one) refl

    pub number_down : get_or flags i false ≡ false → numbers_from i ≡ decimal i ∷ numbers_from (i + 1)
    unfolding unset
    number_down e = let one : count - i ≡ suc (count - (i + 1)) = omega arith in rw (one, e, add-one) refl

-- ---- flags that tell which firings took of the one before
flags_from : (flags : List Bool) (i : ℕ) (later : List Event)
    → ((k : ℕ) → k < length later → get_or flags (i + k) false ≡ took_from (i + k) (get_or later k no_event).from)
    → unset flags i (length later) ≡ free_from i later
unfolding unset free_from
flags_from flags i [] h = refl
flags_from flags i (e ∷ later) h =
    let here : get_or flags i false ≡ took_from i e.from = rw add-zero at (h 0 (omega arith)) in
    rw (here, flags_from flags (suc i) later (λ k b. rw (suc-add i k, ← add-suc i k) (h (suc k) (suc-le-suc b)))) refl

pub flags_free : (flags : List Bool) (firings : List Event) (n : ℕ) → length firings ≡ n
    → ((k : ℕ) → k < n → get_or flags k false ≡ took_from k (get_or firings k no_event).from) → unset flags 1 (n - 1) ≡ free firings
unfolding free
flags_free flags firings n e h =
    let rest : length (drop 1 firings) ≡ n - 1 = length-drop 1 firings ∙ ap (λ (k : ℕ). k - 1) e in
    rw (← rest)
    (flags_from flags 1 (drop 1 firings)
    (λ k b. h (1 + k) (omega arith) ∙ ap (λ (x : Event). took_from (1 + k) x.from) (sym (get_or-drop 1 firings k no_event))))
