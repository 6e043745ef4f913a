-- Places in the slots of a layout.
use Prim.Native.Nat.{ℕ, zero, suc, ◌+◌, ◌-◌, ◌≤◌, ◌<◌}
use native.Mathlib.Nat.{add-zero, add-suc, le_refl}
use native.Mathlib.Numerals.{add-one}
use native.Mathlib.Omega.{arith}
use mathlib.Core.Path.{◌≡◌, refl, sym, ap, ◌∙◌}
use mathlib.Core.Bool.{Bool, true, false}
use mathlib.Core.List.{List, [], ◌∷◌, ◌++◌, map, map-append, append_assoc, append-nil}
use mathlib.Core.Option.{Option as Place, none, some}
use mathlib.Core.Logic.{⊎_elim}
use Rattle.std.specs.Prelude.{Option, Some, None}
use lib.ListN.{length, get_or, set, replicate, length-map, length-replicate, length-append, length-set, take, get_or-map, get_or-append, get_or-eq_default}
use lib.Seq.{ext_get_or, get_or-append-add, get_or-set_same, get_or-set_other}
use lib.Dec.{eqb}
use Rattle.std.proofs.lemmas.List.{get_or-take, length-take-le}
use Rattle.laws.specs.Sums.{le_or_lt}
use borrow.Author.Tests.{eqb-true, eqb-false}
use Rattle.laws.specs.Arrays.{filled, filled_at, length_filled}
use Rattle.joining.specs.Joining.{seconds, among, partner, unpaired, own_places, sources}
use Rattle.joining.specs.Layout.{Within, IsLayout}
use Rattle.joining.specs.Code.{place_in, places_in, Partnered, LaidOut}
use Rattle.joining.proofs.Pairing.{within_set}

pub length_places : (at : List (Option ℕ)) → length (places_in at) ≡ length at
length_places at = length-map at place_in

pub place_at : (at : List (Option ℕ)) (p : ℕ) → get_or (places_in at) p none ≡ place_in (get_or at p None)
place_at at p = get_or-map place_in at p None

-- the first places of an array, told slot by slot
pub places_told : (source : List (Option ℕ)) (places : ℕ) (at : List (Place ℕ)) → places ≤ length source → length at ≡ places
    → ((p : ℕ) → p < places → place_in (get_or source p None) ≡ get_or at p none) → places_in (take places source) ≡ at
places_told source places at within e h =
    let long : length (places_in (take places source)) ≡ places = length_places (take places source) ∙ length-take-le places source within in
    ext_get_or none (places_in (take places source)) at (long ∙ sym e)
    (λ p b. let l : p < places = omega (arith, long) in
    place_at (take places source) p ∙ ap place_in (get_or-take places source p None l) ∙ h p l)

-- the places of the first net
pub own_laid : (places : ℕ) → places ≤ 16 → (source : List (Option ℕ)) → length source ≡ 16 → ((p : ℕ) → p < 16 → get_or source p None ≡ Some p)
    → places_in (take places source) ≡ own_places places
unfolding own_places
own_laid places few source long held =
    places_told source places (filled some places (replicate places none)) (omega arith)
    (length_filled some (replicate places none) places ∙ length-replicate places none)
    (λ p h. rw (held p (omega arith)) (sym (filled_at some (replicate places none) none places p h (omega (arith, length-replicate {A = Place ℕ} places none)))))

pub own_within : (source : List (Option ℕ)) → length source ≡ 16 → ((p : ℕ) → p < 16 → get_or source p None ≡ Some p) → Within source
own_within source long held p q e =
    ⊎_elim
    (λ (h : 16 ≤ p). let none = get_or-eq_default source None {n = p} (omega arith) in absurd (cc))
    (λ (h : p < 16). let here = held p h in let same : p ≡ q = cc in omega arith)
    (le_or_lt 16 p)

-- ---- the second net's places, one after the other
module _ (vs : List (ℕ × ℕ)) (places : ℕ) where
  pub length_sources : (q : ℕ) → length (sources vs places q) ≡ places + length (unpaired vs q)
  unfolding sources
  length_sources q =
      omega (
        arith,
        length-append (filled (partner vs) places (replicate places none)) (map some (unpaired vs q)),
        length_filled (partner vs) (replicate places none) places,
        length-replicate {A = Place ℕ} places none,
        length-map (unpaired vs q) some,
      )

  -- one that is paired, and one that is not
  pub unpaired_not : (q : ℕ) → among q (seconds vs) ≡ true → unpaired vs (q + 1) ≡ unpaired vs q
  unfolding unpaired
  unpaired_not q e = rw (add-one, e) (append-nil (unpaired vs q))

  pub unpaired_more : (q : ℕ) → among q (seconds vs) ≡ false → unpaired vs (q + 1) ≡ unpaired vs q ++ (q ∷ [])
  unfolding unpaired
  unpaired_more q e = rw (add-one, e) refl

  pub sources_not : (q : ℕ) → among q (seconds vs) ≡ true → sources vs places (q + 1) ≡ sources vs places q
  unfolding sources
  sources_not q e = rw (unpaired_not q e) refl

  pub sources_more : (q : ℕ) → among q (seconds vs) ≡ false → sources vs places (q + 1) ≡ sources vs places q ++ (some q ∷ [])
  unfolding sources
  sources_more q e =
      rw (unpaired_more q e, map-append some (unpaired vs q) (q ∷ []))
      (sym (append_assoc (filled (partner vs) places (replicate places none)) (map some (unpaired vs q)) (some q ∷ [])))

  -- at the first net's places stand their partners
  pub sources_first : (q p : ℕ) → p < places → get_or (sources vs places q) p none ≡ partner vs p
  unfolding sources
  sources_first q p h =
      let first = filled (partner vs) places (replicate places none) in
      let long : length first ≡ places = length_filled (partner vs) (replicate places none) places ∙ length-replicate {A = Place ℕ} places none in
      get_or-append first (map some (unpaired vs q)) none p (omega arith)
      ∙ filled_at (partner vs) (replicate places none) none places p h (omega (arith, length-replicate {A = Place ℕ} places none))

-- more places, more that are unpaired
grown : (vs : List (ℕ × ℕ)) (q : ℕ) (t : Bool) → among q (seconds vs) ≡ t → length (unpaired vs q) ≤ length (unpaired vs (suc q))
unfolding unpaired
grown vs q true e = rw (e, append-nil (unpaired vs q)) (le_refl (length (unpaired vs q)))
grown vs q false e = rw e (omega (arith, length-append (unpaired vs q) (q ∷ [])))

unpaired_grows : (vs : List (ℕ × ℕ)) (q more : ℕ) → length (unpaired vs q) ≤ length (unpaired vs (q + more))
unpaired_grows vs q zero = rw add-zero (le_refl (length (unpaired vs q)))
unpaired_grows vs q (suc more) = rw add-suc (omega (arith, unpaired_grows vs q more, grown vs (q + more) (among (q + more) (seconds vs)) refl))

-- what is named of the second net, by some pairs
abbrev Marks : List (ℕ × ℕ) → List Bool → Type 0
Marks vs named = (q : ℕ) → q < length named → get_or named q false ≡ among q (seconds vs)

-- q places of the second net are laid out
pub record Laying (source : List (Option ℕ)) (places : ℕ) (named : List Bool) (laid : List (Option ℕ)) (count q : ℕ) : Type 0 where
  pub few : count ≤ 16
  pub long : length laid ≡ 16
  pub within : Within laid
  pub counted : (vs : List (ℕ × ℕ)) → Marks vs named → count ≡ places + length (unpaired vs q)
  pub held : (vs : List (ℕ × ℕ)) → Marks vs named → Partnered vs source → (p : ℕ) → p < count
      → place_in (get_or laid p None) ≡ get_or (sources vs places q) p none

pub laying_start : (source : List (Option ℕ)) (places : ℕ) (named : List Bool) → places ≤ 16 → length source ≡ 16 → Within source
    → Laying source places named source places 0
unfolding unpaired
laying_start source places named few long within =
    record {
      few = few;
      long = long;
      within = within;
      counted = λ vs m. omega arith;
      held = λ vs m w p l. w p (omega arith) ∙ sym (sources_first vs places 0 p l);
    }

module _ {source : List (Option ℕ)} {places : ℕ} {named : List Bool} {laid : List (Option ℕ)} {count q : ℕ} (w : Laying source places named laid count q)
    (few : length named ≤ 16) (more : q < length named) where
  pub laying_named : get_or named q false ≡ true → Laying source places named laid count (q + 1)
  laying_named e =
      record {
        few = w.few;
        long = w.long;
        within = w.within;
        counted = λ vs m. rw (unpaired_not vs places q (sym (m q more) ∙ e)) (w.counted vs m);
        held = λ vs m n p l. rw (sources_not vs places q (sym (m q more) ∙ e)) (w.held vs m n p l);
      }

  module _ (e : get_or named q false ≡ false) where
    counted_more : (vs : List (ℕ × ℕ)) → Marks vs named → count + 1 ≡ places + length (unpaired vs (q + 1))
    counted_more vs m = rw (unpaired_more vs places q (sym (m q more) ∙ e)) (omega (arith, w.counted vs m, length-append (unpaired vs q) (q ∷ [])))

    -- no slot is left for it
    pub laying_full : count ≡ 16 → LaidOut source places named None
    laying_full full =
        record {
          laid = λ vs m n.
              let others = length named in
              let rest : q + 1 + (others - (q + 1)) ≡ others = omega (arith, more) in
              let grown : length (unpaired vs (q + 1)) ≤ length (unpaired vs others) = rw rest at (unpaired_grows vs (q + 1) (others - (q + 1))) in
              omega (arith, counted_more vs m);
        }

    pub laying_more : (count ≡ 16 → ⊥) → Laying source places named (set laid count (Some q)) (count + 1) (q + 1)
    laying_more other =
        let room : count < 16 = omega (arith, other, w.few) in
        record {
          few = omega (arith, room);
          long = length-set laid count (Some q) ∙ w.long;
          within = within_set laid count q (omega (arith, w.long)) w.within (omega (arith, few, more));
          counted = counted_more;
          held = λ vs m n p l. rw (sources_more vs places q (sym (m q more) ∙ e)) (go vs m n p l (eqb p count) refl);
        }
      where
        go : (vs : List (ℕ × ℕ)) → Marks vs named → Partnered vs source → (p : ℕ) → p < count + 1 → (t : Bool) → eqb p count ≡ t
            → place_in (get_or (set laid count (Some q)) p None) ≡ get_or (sources vs places q ++ (some q ∷ [])) p none
        go vs m n p l true t =
            let z = eqb-true p count t in
            let all : p ≡ length (sources vs places q) + 0 = omega (arith, w.counted vs m, length_sources vs places q) in
            rw (z, get_or-set_same laid count (Some q) None (omega (arith, w.long, w.few, other)))
            (sym (ap (λ (k : ℕ). get_or (sources vs places q ++ (some q ∷ [])) k none) (sym z ∙ all)
            ∙ get_or-append-add (sources vs places q) (some q ∷ []) 0 none))
        go vs m n p l false t =
            let o = eqb-false p count t in
            ap place_in (get_or-set_other laid count p (Some q) None o)
            ∙ w.held vs m n p (omega arith)
            ∙ sym (get_or-append (sources vs places q) (some q ∷ []) none p (omega (arith, w.counted vs m, length_sources vs places q)))

module _ {source : List (Option ℕ)} {places : ℕ} {named : List Bool} {laid : List (Option ℕ)} {count q : ℕ} (w : Laying source places named laid count q) where
  pub laying_done : q ≡ length named → LaidOut source places named (Some (take count laid))
  laying_done all = let others = length named in
      record {
        laid = λ vs m n. (
          omega (arith, length-take-le count laid (omega (arith, w.few, w.long)), w.few),
          places_told laid count (sources vs places others) (omega (arith, w.few, w.long))
              (length_sources vs places others ∙ sym (rw all at (w.counted vs m)))
              (λ p l. rw all at (w.held vs m n p l)),
        );
      }

  -- the layout holds what is asked of it
  pub laying_layout : IsLayout (record { places = count; source = laid })
  laying_layout = record { few = w.few; within = w.within }
