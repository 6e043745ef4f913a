-- The tests and the tokens of one place.
use Rattle.std.proofs.Common.{◌≡◌, ℕ, ◌+◌, ◌-◌, ◌%◌, ◌<◌, ◌≤◌, Bool, true, false, cond, not, ◌&&◌, ◌||◌, leb, List, get_or, set, take, Option, Some, None, sym, refl, ap, ◌∙◌, mod-eq_of_lt, arith, le-leb, leb-true}
use Rattle.std.specs.Bool.{FalseIff}
use borrow.Author.Tests.{lt-leb, not-true, not-false}
use Rattle.laws.specs.Tests.{all_below, all_at, all_next}
use Rattle.laws.specs.Arrays.{filled_same, Filling, fill_start, fill_store, fill_done}
use Rattle.net.specs.Net.{takes_in}
use Rattle.firing.specs.Semantics.{Arcs, takes, gives, enough, taken, after}
use Rattle.firing.specs.Replay.{limited}
use Rattle.steps.specs.declared.Moved.{Moved}
use Rattle.steps.specs.Code.{moved}

-- place p has the tokens that t takes
abbrev pub has_enough : List ℕ → List ℕ → ℕ → ℕ → Bool
has_enough take m t p = leb (takes_in take t p) (get_or m p 0)

pub enough_at : (take : List ℕ) (places : ℕ) (m : List ℕ) (t p : ℕ) → enough take places m t ≡ true → p < places → takes_in take t p ≤ get_or m p 0
unfolding enough
enough_at take places m t p e l = leb-true _ _ (all_at (has_enough take m t) p places e l)

-- a sum that does not fit in a byte passes the limit
over_is : (past : Bool) (n : ℕ) → FalseIff past (n < 256) → past ≡ not (leb n 255)
over_is true n h = rw (lt-leb n 255 (omega arith)) refl
over_is false n h = rw (le-leb n 255 (omega arith)) refl

module _ (a : Arcs) (m : List ℕ) (t : ℕ) where
  -- what is left, what a place holds behind the giving, that in a byte, and whether it is within the limit
  abbrev leaves : ℕ → ℕ
  leaves p = get_or m p 0 - takes a t p

  abbrev holds : ℕ → ℕ
  holds p = leaves p + gives a t p

  abbrev in_byte : ℕ → ℕ
  in_byte p = holds p % 256

  abbrev keeps_limit : ℕ → Bool
  keeps_limit p = leb (holds p) 255

  -- ---- the tokens of a firing moved place by place
  pub record Moving (over : Bool) (middle later : List ℕ) (p : ℕ) : Type 0 where
    pub limit : over ≡ not (all_below keeps_limit p)
    pub middles : Filling leaves a.places m p middle
    pub laters : Filling in_byte a.places m p later

  pub moving_start : Moving false m m 0
  unfolding all_below
  moving_start = record { limit = refl; middles = fill_start leaves a.places m; laters = fill_start in_byte a.places m }

  module _ {over : Bool} {middle later : List ℕ} {p : ℕ} (s : Moving over middle later p) where
    pub moving_more : p < a.places → (past : Bool) {v : ℕ} → FalseIff past (holds p < 256) → v ≡ in_byte p
        → Moving (over || past) (set middle p (leaves p)) (set later p v) (p + 1)
    moving_more l past h e =
        record {
          limit =
              rw (s.limit, over_is past (holds p) h, all_next keeps_limit p) (not_both (all_below keeps_limit p) (keeps_limit p));
          middles = fill_store s.middles l refl;
          laters = fill_store s.laters l e;
        }
      where
        not_both : (b c : Bool) → (not b || not c) ≡ not (b && c)
        not_both true c = refl
        not_both false c = refl

    module _ (l : a.places ≤ p) where
      whole : over ≡ not (all_below keeps_limit a.places)
      whole = let e : p ≡ a.places = omega (arith, s.middles.within) in rw e at s.limit

      pub moving_over : over ≡ true → None ≡ moved a m t
      unfolding moved limited
      moving_over o = rw (not-true (all_below keeps_limit a.places) (sym whole ∙ o)) refl

      pub moving_done : over ≡ false → Some (record { middle = middle; later = later }) ≡ moved a m t
      unfolding moved limited taken after
      moving_done o =
          let within : all_below keeps_limit a.places ≡ true = not-false (all_below keeps_limit a.places) (sym whole ∙ o) in
          rw (
            within,
            fill_done s.middles l,
            fill_done s.laters l,
            filled_same in_byte holds m a.places (λ k b. mod-eq_of_lt (omega (arith, leb-true (holds k) 255 (all_at keeps_limit k a.places within b)))),
          ) refl

  -- what that tells
  pub record MovedTo (r : Moved) : Type 0 where
    pub within : limited a m t ≡ true
    pub middle : r.middle ≡ taken a m t
    pub later : r.later ≡ after a m t

  pub moved_none : moved a m t ≡ None → limited a m t ≡ false
  unfolding moved
  moved_none = go (limited a m t)
    where
      go : (b : Bool) → cond {A = Option Moved} b (Some (record { middle = taken a m t; later = after a m t })) None ≡ None → b ≡ false
      go true e = cc
      go false e = refl

  pub moved_some : {r : Moved} → moved a m t ≡ Some r → MovedTo r
  unfolding moved
  moved_some {r} = go (limited a m t) refl
    where
      go : (b : Bool) → limited a m t ≡ b → cond {A = Option Moved} b (Some (record { middle = taken a m t; later = after a m t })) None ≡ Some r → MovedTo r
      go true q e =
          let same : r ≡ record { middle = taken a m t; later = after a m t } = cc in
          record { within = q; middle = ap (λ (x : Moved). x.middle) same; later = ap (λ (x : Moved). x.later) same }
      go false q e = cc
