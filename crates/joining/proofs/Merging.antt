-- Firings and their instants: firings are known by their instants, a list of instants is merged of its two sides and of no other lists, and a side of firings
-- stands at the instants of those that are its own.
use Prim.Native.Nat.{ℕ, suc, ◌+◌, ◌-◌, ◌≤◌, ◌<◌}
use native.Mathlib.Omega.{arith}
use mathlib.Core.Path.{◌≡◌, refl, sym, ap, subst, ◌∙◌}
use mathlib.Core.Bool.{Bool, true, false}
use mathlib.Core.List.{List, [], ◌∷◌}
use mathlib.Core.Option.{Option, none, some}
use lib.ListN.{length}
use lib.Dec.{ltb}
use borrow.Author.Tests.{lt-ltb, le-ltb, ltb-false}
use Rattle.laws.specs.Each.{Each}
use Rattle.run.specs.declared.Firing.{Firing}
use Rattle.run.specs.Run.{waits_of}
use Rattle.timing.specs.Windows.{instants}
use Rattle.joining.specs.Interleaving.{timed, Merged, done, first, second, of_first, of_second, side_from, waited_from}

-- ---- firings by their instants
-- a firing's wait is its instant less the one before
pub timed_next : (s : ℕ) (f : Firing) (fs : List Firing) {v : ℕ × ℕ} {vs : List (ℕ × ℕ)} → timed s (f ∷ fs) ≡ v ∷ vs
    → (f.wait ≡ v.0 - s) × (f.fire ≡ v.1) × (timed v.0 fs ≡ vs)
unfolding timed
timed_next s f fs {v} {vs} e =
    let head : (s + f.wait, f.fire) ≡ v = cc in
    let here : s + f.wait ≡ v.0 = ap (λ (u : ℕ × ℕ). u.0) head in
    let tail : timed (s + f.wait) fs ≡ vs = cc in
    (omega arith, ap (λ (u : ℕ × ℕ). u.1) head, rw here at tail)

pub timed_same : (s : ℕ) (fs gs : List Firing) → timed s fs ≡ timed s gs → fs ≡ gs
unfolding timed
timed_same s [] [] e = refl
timed_same s [] (g ∷ gs) e = cc
timed_same s (f ∷ fs) [] e = cc
timed_same s (f ∷ fs) (g ∷ gs) e =
    let next = timed_next s f fs {v = (s + g.wait, g.fire)} e in
    let wait : f.wait ≡ g.wait = omega arith in
    let later = timed_same (s + g.wait) fs gs next.2 in
    λ i. record { wait = wait i; fire = next.1 i } ∷ later i

-- as many instants as firings, and the same transitions
pub length_timed : (s : ℕ) (fs : List Firing) → length (timed s fs) ≡ length fs
unfolding timed
length_timed s [] = refl
length_timed s (f ∷ fs) = ap suc (length_timed (s + f.wait) fs)

pub timed_each : (P : ℕ → Type 0) (s : ℕ) (fs : List Firing) → Each (λ f. P f.fire) fs → Each (λ v. P v.1) (timed s fs)
unfolding timed
timed_each P s [] h = tt
timed_each P s (f ∷ fs) h = (h.0, timed_each P (s + f.wait) fs h.1)

-- ---- the instants of one side: `own` gives a transition's number there
abbrev put_on : Option ℕ → ℕ → List (ℕ × ℕ) → List (ℕ × ℕ)
put_on (some t) s vs = (s, t) ∷ vs
put_on none s vs = vs

unfoldable part_of : (ℕ → Option ℕ) → List (ℕ × ℕ) → List (ℕ × ℕ)
part_of own [] = []
part_of own (v ∷ vs) = put_on (own v.1) v.0 (part_of own vs)

-- the firings of a side stand at the instants of the firings that are its own
timed_side : (own : ℕ → Option ℕ) (s w n : ℕ) (fs : List Firing) → s + w ≡ n → timed s (side_from own w fs) ≡ part_of own (timed n fs)
unfolding timed side_from part_of
timed_side own s w n [] e = refl
timed_side own s w n (f ∷ fs) e =
    go (own f.fire) refl (timed_side own (n + f.wait) 0 (n + f.wait) fs (omega arith)) (timed_side own s (w + f.wait) (n + f.wait) fs (omega arith))
  where
    same : s + (w + f.wait) ≡ n + f.wait
    same = omega arith

    go : (o : Option ℕ) → own f.fire ≡ o
        → timed (n + f.wait) (side_from own 0 fs) ≡ part_of own (timed (n + f.wait) fs)
        → timed s (side_from own (w + f.wait) fs) ≡ part_of own (timed (n + f.wait) fs)
        → timed s (side_from own w (f ∷ fs)) ≡ part_of own (timed n (f ∷ fs))
    go (some t) o mine others = rw (o, same, mine) refl
    go none o mine others = rw o others

-- a list of instants is merged of its two sides
parts_merged : (T : ℕ) (vs : List (ℕ × ℕ)) → Merged T (part_of (of_first T) vs) (part_of (of_second T) vs) vs
unfolding part_of
parts_merged T [] = done
parts_merged T (v ∷ vs) = go (ltb v.1 T) refl (parts_merged T vs)
  where
    go : (t : Bool) → ltb v.1 T ≡ t → Merged T (part_of (of_first T) vs) (part_of (of_second T) vs) vs
        → Merged T (part_of (of_first T) (v ∷ vs)) (part_of (of_second T) (v ∷ vs)) (v ∷ vs)
    go true e m = rw e (first m)
    go false e m =
        let own : T + (v.1 - T) ≡ v.1 = omega (arith, ltb-false v.1 T e) in
        rw e (subst (λ (n : ℕ). Merged T (part_of (of_first T) vs) ((v.0, v.1 - T) ∷ part_of (of_second T) vs) ((v.0, n) ∷ vs)) own (second m))

-- and of no other lists
merged_parts : {T : ℕ} {xs ys zs : List (ℕ × ℕ)} → Merged T xs ys zs → Each (λ v. v.1 < T) xs → (xs ≡ part_of (of_first T) zs) × (ys ≡ part_of (of_second T) zs)
unfolding part_of
merged_parts done h = (refl, refl)
merged_parts {T} (first {s} {t} m) h =
    let ih = merged_parts m h.1 in
    rw (lt-ltb t T h.0) (ap (λ (l : List (ℕ × ℕ)). (s, t) ∷ l) ih.0, ih.1)
merged_parts {T} (second {s} {t} m) h =
    let ih = merged_parts m h in
    let behind : T + t - T ≡ t = omega arith in
    rw (le-ltb (T + t) T (omega arith), behind) (ih.0, ap (λ (l : List (ℕ × ℕ)). (s, t) ∷ l) ih.1)

-- ---- the two sides of firings: s and s' are the instants of the last firing on each, and w and w' parts have been waited since
module _ (T s w s' w' n : ℕ) (e : s + w ≡ n) (e' : s' + w' ≡ n) where
  pub sides_merged : (fs : List Firing) → Merged T (timed s (side_from (of_first T) w fs)) (timed s' (side_from (of_second T) w' fs)) (timed n fs)
  sides_merged fs = rw (timed_side (of_first T) s w n fs e, timed_side (of_second T) s' w' n fs e') (parts_merged T (timed n fs))

  pub merged_sides : (fs gs hs : List Firing) → Merged T (timed s fs) (timed s' gs) (timed n hs) → Each (λ f. f.fire < T) fs
      → (fs ≡ side_from (of_first T) w hs) × (gs ≡ side_from (of_second T) w' hs)
  merged_sides fs gs hs m h =
      let parts = merged_parts m (timed_each (λ t. t < T) s fs h) in (
        timed_same s fs (side_from (of_first T) w hs) (parts.0 ∙ sym (timed_side (of_first T) s w n hs e)),
        timed_same s' gs (side_from (of_second T) w' hs) (parts.1 ∙ sym (timed_side (of_second T) s' w' n hs e')),
      )

-- ---- how many
merged_length : {T : ℕ} {xs ys zs : List (ℕ × ℕ)} → Merged T xs ys zs → length xs + length ys ≡ length zs
merged_length done = refl
merged_length (first m) = let ih = merged_length m in omega arith
merged_length (second m) = let ih = merged_length m in omega arith

pub merged_count : {T : ℕ} (s s' n : ℕ) (fs gs hs : List Firing) → Merged T (timed s fs) (timed s' gs) (timed n hs) → length fs + length gs ≡ length hs
merged_count s s' n fs gs hs m = omega (arith, merged_length m, length_timed s fs, length_timed s' gs, length_timed n hs)

pub side_count : (own : ℕ → Option ℕ) (w : ℕ) (fs : List Firing) → length (side_from own w fs) ≤ length fs
unfolding side_from
side_count own w [] = omega arith
side_count own w (f ∷ fs) = go (own f.fire) refl (side_count own 0 fs) (side_count own (w + f.wait) fs)
  where
    go : (o : Option ℕ) → own f.fire ≡ o → length (side_from own 0 fs) ≤ length fs → length (side_from own (w + f.wait) fs) ≤ length fs
        → length (side_from own w (f ∷ fs)) ≤ suc (length fs)
    go (some t) o mine others = rw o (omega arith)
    go none o mine others = rw o (omega arith)

-- ---- ends
-- the instant of the last of firings, 0 without firings
abbrev pub last_of : List Firing → ℕ
last_of fs = instants (waits_of fs) (length fs)

-- that of a side, and what is waited behind it
pub side_last : (own : ℕ → Option ℕ) (w : ℕ) (fs : List Firing) → last_of (side_from own w fs) + waited_from own w fs ≡ w + last_of fs
unfolding side_from waited_from instants waits_of
side_last own w [] = omega arith
side_last own w (f ∷ fs) = go (own f.fire) refl (side_last own 0 fs) (side_last own (w + f.wait) fs)
  where
    go : (o : Option ℕ) → own f.fire ≡ o → last_of (side_from own 0 fs) + waited_from own 0 fs ≡ 0 + last_of fs
        → last_of (side_from own (w + f.wait) fs) + waited_from own (w + f.wait) fs ≡ w + f.wait + last_of fs
        → last_of (side_from own w (f ∷ fs)) + waited_from own w (f ∷ fs) ≡ w + (f.wait + last_of fs)
    go (some t) o mine others = rw o (omega arith)
    go none o mine others = rw o (omega arith)
