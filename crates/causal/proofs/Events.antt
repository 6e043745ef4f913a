-- The firings of an order depend on the queues of the places alone, so queues that agree there have the same process behind them.
use Prim.Native.Nat.{ℕ, zero, suc, ◌≤◌, ◌<◌}
use native.Mathlib.Nat.{lt-suc_self}
use native.Mathlib.Omega.{arith}
use mathlib.Core.Path.{◌≡◌, refl, sym, ap, ◌∙◌}
use mathlib.Core.List.{List, [], ◌∷◌, ◌++◌, append_assoc, append-nil}
use lib.ListN.{length, get_or, take}
use lib.Seq.{take-suc, take-length}
use Rattle.laws.specs.Writing.{joined}
use Rattle.net.specs.declared.Net.{Net}
use Rattle.causal.specs.Process.{Queues, Event, items_of, queues_after, events_from}
use Rattle.causal.specs.Print.{event_text, events_text}
use Rattle.causal.specs.Claims.{no_event}

-- queues that agree at the places
abbrev pub Agree : ℕ → Queues → Queues → Type 0
Agree places f g = (p : ℕ) → p < places → f p ≡ g p

-- items depend on the queues of the places alone
pub items_same : (f g : Queues) (places : ℕ) → Agree places f g → items_of f places ≡ items_of g places
unfolding items_of
items_same f g zero h = refl
items_same f g (suc p) h = rw (items_same f g p (λ q b. h q (omega arith)), h p (lt-suc_self p)) refl

module _ (net : Net) where
  pub events_length : (order : List ℕ) (f : Queues) → length (events_from net order f) ≡ length order
  unfolding events_from
  events_length [] f = refl
  events_length (t ∷ order) f = ap suc (events_length order (queues_after net f t))

-- ---- the text of the firings, one behind the other
events_append : (xs ys : List Event) → events_text (xs ++ ys) ≡ events_text xs ++ events_text ys
unfolding events_text
events_append [] ys = refl
events_append (e ∷ xs) ys = ap (λ (l : List ℕ). event_text e ++ l) (events_append xs ys) ∙ sym (append_assoc (event_text e) (events_text xs) (events_text ys))

module _ (firings : List Event) where
  -- the text of a firing, by its index
  abbrev pub text_at : ℕ → List ℕ
  text_at i = event_text (get_or firings i no_event)

  joined_first : (n : ℕ) → n ≤ length firings → joined text_at n ≡ events_text (take n firings)
  unfolding joined events_text
  joined_first zero h = refl
  joined_first (suc n) h =
      rw (joined_first n (omega arith), take-suc firings n no_event h, events_append, append-nil) refl

  pub joined_all : (n : ℕ) → length firings ≡ n → joined text_at n ≡ events_text firings
  joined_all n e = joined_first n (omega arith) ∙ ap events_text (rw (← e) (take-length firings))
