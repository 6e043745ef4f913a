-- Free neighbours: the list has exactly the firings of which the next took no token, and it ascends.
use Prim.Native.Nat.{ℕ, zero, suc, ◌+◌, ◌-◌, ◌≤◌, ◌<◌}
use native.Mathlib.Nat.{le_refl, not-suc-le-zero, le_of_suc-le-suc}
use native.Mathlib.Omega.{arith}
use mathlib.Core.Path.{◌≡◌, refl, sym, ap, ◌∙◌}
use mathlib.Core.Bool.{Bool, true, false, cond, ◌||◌}
use mathlib.Core.Logic.{◌↔◌}
use mathlib.Core.List.{List, [], ◌∷◌}
use lib.Dec.{eqb}
use lib.ListN.{length, get_or, drop, length-drop}
use lib.Seq.{get_or-drop}
use borrow.Author.Tests.{eqb-false, ne_eqb}
use Rattle.laws.specs.Each.{Each, each_map, each_at}
use Rattle.net.specs.declared.Net.{Net}
use Rattle.causal.specs.Process.{Item, Event, events}
use Rattle.causal.specs.Free.{took_from, free_from, free}
use Rattle.causal.specs.Claims.{no_event, from_at, Listed}
use Rattle.causal.proofs.Ascending.{later_listed}
use Rattle.causal.proofs.Tokens.{length_events}

-- ---- items of which none is from firing i
module _ (i : ℕ) where
  abbrev Other : Item → Type 0
  Other x = x.producer ≡ i → ⊥

  took_none : (items : List Item) → took_from i items ≡ false → Each Other items
  unfolding took_from
  took_none [] e = tt
  took_none (x ∷ items) e = go (eqb x.producer i) refl (took_none items) e
    where
      go : (b : Bool) → eqb x.producer i ≡ b → (took_from i items ≡ false → Each Other items) → (b || took_from i items) ≡ false → Other x × Each Other items
      go true q h z = let c : ◌≡◌ {A = ℕ} 0 1 = cc in absurd (omega arith)
      go false q h z = (eqb-false x.producer i q, h z)

  none_took : (items : List Item) → Each Other items → took_from i items ≡ false
  unfolding took_from
  none_took [] h = refl
  none_took (x ∷ items) h = rw (ne_eqb x.producer i h.0, none_took items h.1) refl

  -- ---- the list, from firing k + 1 on
  record Unused (k : ℕ) (es : List Event) : Type 0 where
    at : ℕ
    inside : at < length es
    number : i ≡ k + at
    unused : took_from i (get_or es at no_event).from ≡ false

  next : (k : ℕ) (e : Event) (es : List Event) → Unused (suc k) es → Unused k (e ∷ es)
  next k e es u = record { at = suc u.at; inside = omega (arith, u.inside); number = omega (arith, u.number); unused = u.unused }

  listed : (k : ℕ) (es : List Event) → Listed i (free_from k es) → Unused k es
  unfolding free_from
  listed k [] m = absurd (not-suc-le-zero m.1)
  listed k (e ∷ es) m = go (took_from k e.from) refl (listed (suc k) es) m
    where
      go : (b : Bool) → took_from k e.from ≡ b → (Listed i (free_from (suc k) es) → Unused (suc k) es)
          → Listed i (cond b (free_from (suc k) es) (k ∷ free_from (suc k) es)) → Unused k (e ∷ es)
      go true q h m = next k e es (h m)
      go false q h (zero, b, same) = record { at = 0; inside = omega arith; number = omega arith; unused = rw (← same) q }
      go false q h (suc n, b, same) = next k e es (h (n, le_of_suc-le-suc b, same))

  is_listed : (k j : ℕ) (es : List Event) → j < length es → i ≡ k + j → took_from i (get_or es j no_event).from ≡ false → Listed i (free_from k es)
  unfolding free_from
  is_listed k j [] l e h = absurd (not-suc-le-zero l)
  is_listed k zero (x ∷ es) l e h =
      let same : i ≡ k = omega arith in
      let here : took_from k x.from ≡ false = rw same at h in
      rw here (0, omega arith, sym same)
  is_listed k (suc j) (x ∷ es) l e h = go (took_from k x.from) (is_listed (suc k) j es (le_of_suc-le-suc l) (omega arith) h)
    where
      go : (b : Bool) → Listed i (free_from (suc k) es) → Listed i (cond b (free_from (suc k) es) (k ∷ free_from (suc k) es))
      go true m = m
      go false m = later_listed k (free_from (suc k) es) i m

-- ---- the list ascends
least_listed : (k : ℕ) (es : List Event) → Each (λ i. k ≤ i) (free_from k es)
unfolding free_from
least_listed k [] = tt
least_listed k (e ∷ es) = go (took_from k e.from) (each_map (λ i h. omega arith) (free_from (suc k) es) (least_listed (suc k) es))
  where
    go : (b : Bool) → Each (λ i. k ≤ i) (free_from (suc k) es) → Each (λ i. k ≤ i) (cond b (free_from (suc k) es) (k ∷ free_from (suc k) es))
    go true h = h
    go false h = (le_refl k, h)

listed_ascends : (k : ℕ) (es : List Event) (i j : ℕ) → i < j → j < length (free_from k es) → get_or (free_from k es) i 0 < get_or (free_from k es) j 0
unfolding free_from
listed_ascends k [] i j l b = absurd (not-suc-le-zero b)
listed_ascends k (e ∷ es) i j l b = go (took_from k e.from) i j (listed_ascends (suc k) es) l b
  where
    more : List ℕ
    more = free_from (suc k) es

    go : (b : Bool) (i j : ℕ) → ((i j : ℕ) → i < j → j < length more → get_or more i 0 < get_or more j 0) → i < j → j < length (cond b more (k ∷ more))
        → get_or (cond b more (k ∷ more)) i 0 < get_or (cond b more (k ∷ more)) j 0
    go true i j h l b = h i j l b
    go false i zero h l b = absurd (not-suc-le-zero l)
    go false zero (suc j) h l b = each_at (λ x. suc k ≤ x) 0 more (least_listed (suc k) es) j (le_of_suc-le-suc b)
    go false (suc i) (suc j) h l b = h i j (le_of_suc-le-suc l) (le_of_suc-le-suc b)

pub free_ascends : (firings : List Event) (i j : ℕ) → i < j → j < length (free firings) → get_or (free firings) i 0 < get_or (free firings) j 0
unfolding free
free_ascends firings = listed_ascends _ (drop 1 firings)

module _ (net : Net) (order : List ℕ) (i : ℕ) where
  behind : (k : ℕ) → i ≡ 1 + k → get_or (drop 1 (events net order)) k no_event ≡ get_or (events net order) i no_event
  behind k e = get_or-drop 1 (events net order) k no_event ∙ ap (λ (j : ℕ). get_or (events net order) j no_event) (sym e)

  behind_length : length (drop 1 (events net order)) ≡ length order - 1
  behind_length = omega (arith, length-drop 1 (events net order), length_events net order)

  -- i is in the list exactly when firing i + 1 exists and took no token of firing i
  pub free_exactly : Listed i (free (events net order)) ↔ ((1 ≤ i) × (i < length order) × Each (Other i) (from_at net order i))
  unfolding free
  free_exactly = (
    λ m.
        let u = listed i 1 (drop 1 (events net order)) m in
        let none = took_none i (from_at net order i) (rw (behind u.at u.number) at u.unused) in
        (omega (arith, u.number), omega (arith, u.inside, u.number, behind_length), none),
    λ h.
        let number : i ≡ 1 + (i - 1) = omega (arith, h.0) in
        is_listed i 1 (i - 1) (drop 1 (events net order)) (omega (arith, h.0, h.1, behind_length)) number
        (rw (behind (i - 1) number) (none_took i (from_at net order i) h.2)),
  )
