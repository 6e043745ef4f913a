-- The slots of a run: those behind the count, and the transitions that fire.
use Rattle.std.proofs.Common.{◌≡◌, ℕ, ◌+◌, ◌-◌, ◌<◌, Bool, true, false, ◌||◌, ltb, List, map, length, get_or, drop, refl, sym, ap, ◌∙◌, arith, lt-ltb, le-ltb, ext_get_or, length-drop}
use Rattle.std.proofs.Math.Decide.{dec_lt}
use Rattle.std.proofs.lemmas.List.{length-map, get_or-map, get_or-drop, get_or_default}
use Rattle.std.proofs.lemmas.List.Sums.{AllPass-from_list_all, list_all-from_AllPass}
use Rattle.std.specs.List.{list_all, AllPass}
use Rattle.laws.specs.Tests.{all_below, all_at, all_each}
use Rattle.run.specs.declared.Run.{Run}
use Rattle.run.specs.declared.Firing.{Firing}
use Rattle.run.specs.Run.{no_firing, order_of}
use Rattle.open_run.specs.Open.{blank, blank_behind}

-- ---- the slots behind the count
-- slot i counts, or holds nothing
abbrev blank_at : Run → ℕ → Bool
blank_at q i = ltb i q.count || blank (get_or q.firings i no_firing)

same_test : (a b : Bool) → (a ≡ true → b ≡ true) → (b ≡ true → a ≡ true) → a ≡ b
same_test true b f g = sym (f refl)
same_test false true f g = g refl
same_test false false f g = refl

module _ (q : Run) (long : length q.firings ≡ 64) where
  abbrev pub behind : List Firing
  behind = drop q.count q.firings

  blank_slot : list_all blank behind ≡ true → (i : ℕ) → i < 64 → blank_at q i ≡ true
  blank_slot e i l = go (dec_lt i q.count)
    where
      go : Dec (i < q.count) → blank_at q i ≡ true
      go (yes c) = rw (lt-ltb i q.count c) refl
      go (no c) =
          let k = i - q.count in
          let within : k < length behind = omega (arith, length-drop q.count q.firings) in
          let at : q.count + k ≡ i = omega arith in
          rw (le-ltb i q.count (omega arith))
          (sym (ap (λ (n : ℕ). blank (get_or q.firings n no_firing)) at) ∙ sym (ap blank (get_or-drop q.count q.firings k no_firing))
          ∙ AllPass-from_list_all blank behind e k no_firing within)

  slot_blank : all_below (blank_at q) 64 ≡ true → AllPass blank behind
  slot_blank e k d l =
      let within : q.count + k < 64 = omega (arith, length-drop q.count q.firings) in
      rw (get_or-drop q.count q.firings k d, get_or_default q.firings (q.count + k) d no_firing (omega arith))
      (rw (le-ltb (q.count + k) q.count (omega arith)) at (all_at (blank_at q) (q.count + k) 64 e within))

  -- all of them hold nothing, as a scan of them says
  pub blank_scanned : list_all blank behind ≡ blank_behind q
  unfolding blank_behind
  blank_scanned =
      same_test _ _ (λ e. all_each (blank_at q) 64 (blank_slot e)) (λ e. list_all-from_AllPass blank behind (slot_blank e))

-- ---- the transitions that fire, slot by slot
abbrev pub fire_in : Run → ℕ → ℕ
fire_in q i = (get_or q.firings i no_firing).fire

-- an array of them is their order
pub fires_order : (q : Run) → length q.firings ≡ 64 → (fires : List ℕ) → length fires ≡ 64
    → ((k : ℕ) → k < 64 → get_or fires k 0 ≡ fire_in q k) → fires ≡ order_of q.firings
unfolding order_of
fires_order q long fires size each =
    let fire = λ (f : Firing). f.fire in
    ext_get_or 0 fires (map fire q.firings) (size ∙ sym (length-map q.firings fire ∙ long))
    (λ k l. each k (omega arith) ∙ sym (get_or-map fire q.firings k no_firing 0 (omega arith)))
