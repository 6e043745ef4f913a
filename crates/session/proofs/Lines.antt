-- What a line asks for, from what its parts are read as: the number behind a key where nothing follows it, and the words.
use Prim.Native.Nat.{ℕ, ◌≤◌, ◌<◌}
use mathlib.Core.Path.{◌≡◌, refl, ◌∙◌}
use mathlib.Core.Bool.{cond}
use mathlib.Core.List.{List}
use lib.ListN.{length}
use borrow.Author.Tests.{le-leb, lt-leb}
use Rattle.std.specs.Prelude.{Option, Some, None}
use Rattle.laws.specs.Tests.{same_numbers}
use Rattle.reply.specs.declared.Refusal.{Refusal}
use Rattle.reply.specs.declared.Refusal.TheVariants.{Malformed}
use Rattle.text.specs.Key.{bytes}
use Rattle.form.specs.Form.{Found, found, refused, Form, keyed, front}
use Rattle.form.specs.Line.{ranged, number}
use Rattle.session.specs.declared.Entry.{Entry}
use Rattle.session.specs.declared.Entry.TheVariants.{Wait, Fire, Rest, State, Timetable}
use Rattle.session.specs.Session.{number_behind, entry_if, entry_of}

-- ---- a number that ends the line, and one that does not
module _ (key s : List ℕ) where
  abbrev form : Form ℕ
  form = keyed key (number (ranged 0 999999999))

  pub behind_refused : {e : Refusal} → front form s ≡ refused e → number_behind key s ≡ refused e
  behind_refused e = rw e refl

  module _ {v end : ℕ} (e : front form s ≡ found v end) where
    pub behind_ended : length s ≤ end → number_behind key s ≡ found v end
    behind_ended h = rw (e, le-leb (length s) end h) refl

    pub behind_more : end < length s → number_behind key s ≡ refused (Malformed 2)
    behind_more h = rw (e, lt-leb (length s) end h) refl

-- ---- each key in turn
if_number : (f : Found ℕ) (entry : ℕ → Entry) (other : Option Entry) {n next : ℕ} → f ≡ found n next → entry_if f entry other ≡ Some (entry n)
if_number f entry other q = rw q refl

if_none : (f : Found ℕ) (entry : ℕ → Entry) (other : Option Entry) {e : Refusal} → f ≡ refused e → entry_if f entry other ≡ other
if_none f entry other q = rw q refl

-- no number stands behind a key
abbrev pub NoNumber : List ℕ → List ℕ → Type 0
NoNumber key s = (e : Refusal) × (number_behind key s ≡ refused e)

module _ (s : List ℕ) where
  abbrev word : Option Entry
  word = cond (same_numbers s (bytes "state\n")) (Some State) (cond (same_numbers s (bytes "timetable\n")) (Some Timetable) None)

  abbrev rest : Option Entry
  rest = entry_if (number_behind (bytes "rest=") s) Rest word

  abbrev fire : Option Entry
  fire = entry_if (number_behind (bytes "fire=") s) Fire rest

  pub entry_wait : {n next : ℕ} → number_behind (bytes "wait=") s ≡ found n next → entry_of s ≡ Some (Wait n)
  unfolding entry_of
  entry_wait q = if_number (number_behind (bytes "wait=") s) Wait fire q

  module _ (w : NoNumber (bytes "wait=") s) where
    past_wait : entry_of s ≡ fire
    unfolding entry_of
    past_wait = if_none (number_behind (bytes "wait=") s) Wait fire w.1

    pub entry_fire : {n next : ℕ} → number_behind (bytes "fire=") s ≡ found n next → entry_of s ≡ Some (Fire n)
    entry_fire q = past_wait ∙ if_number (number_behind (bytes "fire=") s) Fire rest q

    module _ (t : NoNumber (bytes "fire=") s) where
      past_fire : entry_of s ≡ rest
      past_fire = past_wait ∙ if_none (number_behind (bytes "fire=") s) Fire rest t.1

      pub entry_rest : {n next : ℕ} → number_behind (bytes "rest=") s ≡ found n next → entry_of s ≡ Some (Rest n)
      entry_rest q = past_fire ∙ if_number (number_behind (bytes "rest=") s) Rest word q

      pub entry_word : NoNumber (bytes "rest=") s → entry_of s ≡ word
      entry_word r = past_fire ∙ if_none (number_behind (bytes "rest=") s) Rest word r.1
