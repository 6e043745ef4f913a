-- A firing takes its weight from place after place: the items of the places stand one behind the other, and each place's queue is changed alone.
use Prim.Native.Nat.{ℕ, ◌+◌, ◌-◌, ◌≤◌, ◌<◌}
use native.Mathlib.Nat.{not-suc-le-zero, eq-or-lt_of_le, le_of_suc-le-suc, le_refl}
use native.Mathlib.Numerals.{add-one}
use native.Mathlib.Omega.{arith}
use mathlib.Core.Path.{◌≡◌, refl, sym, ap, ◌∙◌}
use mathlib.Core.Bool.{Bool, true, false, ◌||◌, or_assoc}
use mathlib.Core.Logic.{⊎_elim}
use mathlib.Core.List.{List, [], ◌∷◌, ◌++◌, map, map-append}
use lib.Dec.{eqb}
use lib.ListN.{length, set, length-set}
use lib.Seq.{get_or-set_same, get_or-set_other}
use Rattle.net.specs.Net.{takes_in}
use Rattle.causal.specs.Process.{Queues, Item, without, items_from, items_of}
use Rattle.causal.specs.Free.{took_from}
use Rattle.causal.specs.Print.{item_text}
use Rattle.text.specs.declared.Writer.{Writer}
use Rattle.engine.specs.declared.process_text.Line.{Line}
use Rattle.engine.specs.Counts.{Listing, queue_of, Took, taken_in, TookAll}
use Rattle.engine.proofs.Listing.{listing_start, listing_then}
use Rattle.engine.proofs.Taking.{took_none}

took_append : (i : ℕ) (xs ys : List Item) → took_from i (xs ++ ys) ≡ (took_from i xs || took_from i ys)
unfolding took_from
took_append i [] ys = refl
took_append i (x ∷ xs) ys =
    ap (λ (b : Bool). eqb x.producer i || b) (took_append i xs ys) ∙ sym (or_assoc (eqb x.producer i) (took_from i xs) (took_from i ys))

module _ (a : Writer) (take : List ℕ) (t : ℕ) (queues₀ : List (List ℕ)) where
  abbrev taken : Queues
  taken = taken_in take t queues₀

  -- as many producers in each queue
  abbrev Level : ℕ → Type 0
  Level n = (p : ℕ) → p < length queues₀ → length (queue_of queues₀ p) ≡ n

  -- the state behind the first p places
  pub record Lining (b : Writer) (queues : List (List ℕ)) (line : Line) (p : ℕ) : Type 0 where
    pub size : length queues ≡ length queues₀
    pub passed : (q : ℕ) → q < p → queue_of queues q ≡ without (takes_in take t q) (queue_of queues₀ q)
    pub ahead : (q : ℕ) → p ≤ q → queue_of queues q ≡ queue_of queues₀ q
    pub took : (n : ℕ) → Level n → line.newest ≡ took_from (n - 1) (items_of taken p)
    pub listed : Listing a true (map item_text (items_of taken p)) b line.first []

  pub lining_start : Lining a queues₀ (record { first = true; newest = false }) 0
  unfolding items_of took_from
  lining_start =
      record {
        size = refl;
        passed = λ q h. absurd (not-suc-le-zero h);
        ahead = λ q h. refl;
        took = λ n h. refl;
        listed = listing_start a true [];
      }

  module _ {b : Writer} {queues : List (List ℕ)} {line : Line} {p : ℕ} (w : Lining b queues line p) where
    module _ (l : p < length queues) where
      pub lining_more : {after : List ℕ} {c : Writer} {r : Line} → Took b line p (takes_in take t p) (queue_of queues p) after c r
          → Lining c (set queues p after) r (p + 1)
      unfolding items_of
      lining_more {after} {c} {r} k =
          record {
            size = length-set queues p after ∙ w.size;
            passed = λ q b.
                ⊎_elim
                (λ (e : q ≡ p). rw e (get_or-set_same queues p after [] l ∙ k.here ∙ rw as_before refl))
                (λ (e : q < p). get_or-set_other queues p q after [] (λ z. omega arith) ∙ w.passed q e)
                (eq-or-lt_of_le (le_of_suc-le-suc (rw add-one at b)));
            ahead = λ q b. get_or-set_other queues p q after [] (λ z. omega arith) ∙ w.ahead q (omega arith);
            took = λ n h.
                let level : length (queue_of queues₀ p) ≡ n = h p (omega (arith, w.size)) in
                k.newest ∙ rw (add-one, w.took n h, as_before, level) (sym (took_append (n - 1) (items_of taken p) (items_from p 0 (taken p))));
            listed =
                rw (add-one, map-append item_text (items_of taken p) (items_from p 0 (taken p)))
                (listing_then w.listed (rw as_before at k.listed));
          }
        where
          as_before : queue_of queues p ≡ queue_of queues₀ p
          as_before = w.ahead p (le_refl p)

      -- nothing is taken, and the queue is stored as it was
      pub lining_none : takes_in take t p ≡ 0 → Lining b (set queues p (queue_of queues p)) line (p + 1)
      lining_none none = lining_more (rw none (took_none b line p (queue_of queues p)))

    module _ (e : p ≡ length queues) where
      all_passed : p ≡ length queues₀
      all_passed = e ∙ w.size

      pub lining_took : TookAll take t queues₀ queues line.newest
      lining_took =
          record { size = w.size; left = λ q b. w.passed q (omega (arith, all_passed)); linked = λ n h. rw all_passed at (w.took n h) }

      pub lining_listed : Listing a true (map item_text (items_of taken (length queues₀))) b line.first []
      lining_listed = rw all_passed at w.listed
