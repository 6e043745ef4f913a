-- Texts within a list of bytes: where they stand, one behind the other, and what a writer makes of the output.
use Rattle.std.specs.Prelude.{ℕ, zero, suc, ◌+◌, ◌-◌, ◌≤◌, ◌<◌, List, [], ◌∷◌, ◌++◌, ◌≡◌, refl, length, take, drop, set, get_or, cond, ltb}
use Rattle.std.proofs.Math.Nat.{sub-zero, zero-sub, suc-sub-suc}
use Rattle.std.proofs.Common.{add_assoc, le_refl, add-zero, append_assoc, append-nil, sym, ap, ◌∙◌, length-append, length-drop, drop_of_length-le, length-set, arith, lt-ltb, le-ltb}
use lib.Seq.{take-nil, drop-drop, drop-append_seam, take_at, drop-append-add, length-take-le, take_all, take-length, set_split, append_snoc, drop-cons, set_out}
use lib.Seq.{paste-zero}
use Rattle.std.proofs.Math.Numerals.{add-one}

-- ---- What stands behind a place of a list: where the list is cut short, and where a text is known to stand there.

module _ {ℓ} {A : Type ℓ} where
  pub drop_take : (at k : ℕ) (s : List A) → drop at (take k s) ≡ take (k - at) (drop at s)
  drop_take zero k s = rw (sub-zero k) refl
  drop_take (suc at) zero s = rw (zero-sub (suc at)) refl
  drop_take (suc at) (suc k) [] = sym (take-nil (suc k - suc at))
  drop_take (suc at) (suc k) (a ∷ s) = rw (suc-sub-suc k at) (drop_take at k s)

  pub drop_behind : (s a rest : List A) (at : ℕ) → drop at s ≡ a ++ rest → drop (at + length a) s ≡ rest
  drop_behind s a rest at e = sym (drop-drop (length a) at s) ∙ ap (λ (l : List A). drop (length a) l) e ∙ drop-append_seam a rest

-- ---- Two texts one behind the other at a place of a list: each of them stands at its own place.

module _ (s a b rest : List ℕ) (at : ℕ) (e : drop at s ≡ a ++ b ++ rest) where
  pub first_there : drop at s ≡ a ++ (b ++ rest)
  first_there = e ∙ append_assoc a b rest

  pub second_there : drop (at + length a) s ≡ b ++ rest
  second_there = drop_behind s a (b ++ rest) at first_there

-- and back
pub both_there : (s a b : List ℕ) (at next end : ℕ) → drop at s ≡ a ++ drop next s → drop next s ≡ b ++ drop end s → drop at s ≡ a ++ b ++ drop end s
both_there s a b at next end e e' = e ∙ ap (λ (l : List ℕ). a ++ l) e' ∙ sym (append_assoc a b (drop end s))

pub both_long : (a b : List ℕ) (at : ℕ) → at + length a + length b ≡ at + length (a ++ b)
both_long a b at = omega (arith, length-append a b)

-- ---- A list written over a part of another, and two such writings one behind the other.

-- key in the place of as many elements from `at`; the grouping is that of `lib.Seq.paste`
abbrev pub spliced : List ℕ → ℕ → List ℕ → List ℕ
spliced s at key = take at s ++ key ++ drop (at + length key) s

module _ (s : List ℕ) (at : ℕ) (a b : List ℕ) where
  head_length : at ≤ length s → length (take at s ++ a) ≡ at + length a
  head_length h = length-append (take at s) a ∙ ap (λ (n : ℕ). n + length a) (length-take-le at s h)

  -- what stands behind the first part, and behind the second
  rest_of : at ≤ length s → drop (at + length a + length b) (spliced s at a) ≡ drop (at + length (a ++ b)) s
  rest_of h =
      ap (λ (n : ℕ). drop (n + length b) (spliced s at a)) (sym (head_length h))
      ∙ drop-append-add (take at s ++ a) (drop (at + length a) s) (length b)
      ∙ drop-drop (length b) (at + length a) s
      ∙ ap (λ (n : ℕ). drop n s) (add_assoc at (length a) (length b) ∙ ap (λ (n : ℕ). at + n) (sym (length-append a b)))

  -- two writings in a row are one
  pub splice_splice : at ≤ length s → spliced (spliced s at a) (at + length a) b ≡ spliced s at (a ++ b)
  splice_splice h =
      ap (λ (l : List ℕ). l ++ b ++ drop (at + length a + length b) (spliced s at a))
      (take_at (take at s ++ a) (drop (at + length a) s) (at + length a) (head_length h))
      ∙ ap (λ (l : List ℕ). take at s ++ a ++ b ++ l) (rest_of h)
      ∙ ap (λ (l : List ℕ). l ++ drop (at + length (a ++ b)) s) (append_assoc (take at s) a b)

-- what a writer says: `text` stands in s from `at` on, `to` is the place behind it, and out is the whole
pub record Wrote (s : List ℕ) (at : ℕ) (text : List ℕ) (to : ℕ) (out : List ℕ) : Type 0 where
  pub end : to ≡ at + length text
  pub bytes : out ≡ spliced s at text

-- ---- How a writer starts: one byte stored, or a text copied to the front of the tail that was lent. Each is a splice, since a store cuts the list
-- around its index, and the tail with its front replaced is the text with what lies behind it.

pub wrote_byte : (s : List ℕ) (at b : ℕ) → at < length s → Wrote s at (b ∷ []) (at + 1) (set s at b)
wrote_byte s at b h =
    record {
      end = refl;
      bytes = set_split s at b h ∙ sym (append_snoc (take at s) b (drop (at + 1) s) ∙ rw add-one refl);
    }

module _ (s : List ℕ) (at : ℕ) (text : List ℕ) (room : at + length text ≤ length s) where
  all_of_tail : take (length s - at) (drop at s) ≡ drop at s
  all_of_tail = take_all (length s - at) (drop at s) (omega (arith, length-drop at s))

  none_behind : drop (length s - at) (drop at s) ≡ []
  none_behind = drop_of_length-le (drop at s) {i = length s - at} (omega (arith, length-drop at s))

  -- the text was copied to its place
  pub wrote_part : Wrote s at text (at + length text) (take at s ++ (text ++ drop (length text) (drop at s)))
  wrote_part = record { end = refl; bytes = rw (drop-drop (length text) at s, append_assoc) refl }

  -- the tail came back as `tail`, with the text at its front
  pub wrote_tail : (n : ℕ) (tail : List ℕ) →
      n ≡ length text →
      tail ≡ take (length text) text ++ drop (length text) (take (length s - at) (drop at s)) →
      Wrote s at text (at + n) (take at s ++ (tail ++ drop (length s - at) (drop at s)))
  wrote_tail n tail e t =
      record {
        end = omega arith;
        bytes = rw (t, none_behind, append-nil, all_of_tail, take-length text, drop-drop (length text) at s, append_assoc) refl;
      }

-- ---- A text that was written to the front of a list is the list up to the place behind it.

module _ {s text : List ℕ} {to : ℕ} {out : List ℕ} (w : Wrote s 0 text to out) where
  pub front_within : to ≤ length out
  front_within = omega (arith, w.end, ap length w.bytes ∙ length-append text (drop (0 + length text) s))

  pub front_text : take to out ≡ text
  front_text = ap (λ (l : List ℕ). take to l) w.bytes ∙ take_at text (drop (0 + length text) s) to (omega (arith, w.end))

  pub front_length : to ≡ length (take to out)
  front_length = sym (length-take-le to out front_within)

-- ---- Texts one behind the other, told by the index that a loop counts: each turn writes one more, and where there is room for all there is room for
-- the next.

-- the first n texts
unfoldable pub joined : (ℕ → List ℕ) → ℕ → List ℕ
joined f zero = []
joined f (suc n) = joined f n ++ f n

-- a text that is told by what is left of it behind the first i
left_joined : (f left : ℕ → List ℕ) (n : ℕ) → ((i : ℕ) → i < n → left i ≡ f i ++ left (i + 1)) → (i : ℕ) → i ≤ n → left 0 ≡ joined f i ++ left i
unfolding joined
left_joined f left n next zero h = refl
left_joined f left n next (suc i) h =
    rw add-one at
    (left_joined f left n next i (omega arith) ∙ ap (λ (t : List ℕ). joined f i ++ t) (next i h) ∙ sym (append_assoc (joined f i) (f i) (left (i + 1))))

pub joined_whole : (f left : ℕ → List ℕ) (n : ℕ) → ((i : ℕ) → i < n → left i ≡ f i ++ left (i + 1)) → left n ≡ [] → left 0 ≡ joined f n
joined_whole f left n next none =
    left_joined f left n next n (le_refl n) ∙ ap (λ (t : List ℕ). joined f n ++ t) none ∙ append-nil (joined f n)

-- ---- Writing that asks for no room: a byte that does not fit is not written, and the position then stands one past the end and stays there. So one
-- text behind another is both, whatever fits, and where there is room the text stands where it was put.

-- an output and the position of the next byte
pub record Output : Type 0 where
  pub to : ℕ
  pub bytes : List ℕ

-- one more byte
abbrev pub put_byte : Output → ℕ → Output
put_byte o b = record { to = cond (ltb o.to (length o.bytes)) (o.to + 1) (length o.bytes + 1); bytes = set o.bytes o.to b }

-- the bytes of a text, one after another
unfoldable pub put : Output → List ℕ → Output
put o [] = o
put o (b ∷ text) = put (put_byte o b) text

-- what a writer says: of the output s, `text` was put from `at` on, which leaves the output `out` and the position `to`
pub record Puts (s : List ℕ) (at : ℕ) (text : List ℕ) (to : ℕ) (out : List ℕ) : Type 0 where
  pub same : record { to = to; bytes = out } ≡ put (record { to = at; bytes = s }) text

-- ---- one text behind another
pub put_append : (o : Output) (a b : List ℕ) → put o (a ++ b) ≡ put (put o a) b
unfolding put
put_append o [] b = refl
put_append o (x ∷ a) b = put_append (put_byte o x) a b

put_length : (o : Output) (text : List ℕ) → length (put o text).bytes ≡ length o.bytes
unfolding put
put_length o [] = refl
put_length o (b ∷ text) = put_length (put_byte o b) text ∙ length-set o.bytes o.to b

module _ {s : List ℕ} {at : ℕ} {a : List ℕ} {to : ℕ} {out : List ℕ} (w : Puts s at a to out) where
  -- one writer behind another
  pub puts_then : {b : List ℕ} {to' : ℕ} {out' : List ℕ} → Puts out to b to' out' → Puts s at (a ++ b) to' out'
  puts_then {b} w' = record { same = w'.same ∙ ap (λ (o : Output). put o b) w.same ∙ sym (put_append (record { to = at; bytes = s }) a b) }

  -- a writer keeps the length
  pub puts_length : length out ≡ length s
  puts_length = ap (λ (o : Output). length o.bytes) w.same ∙ put_length (record { to = at; bytes = s }) a

-- no text
pub puts_none : (s : List ℕ) (at : ℕ) → Puts s at [] at s
unfolding put
puts_none s at = record { same = refl }

-- a byte that fits, and one that does not
pub puts_byte : (s : List ℕ) (at b : ℕ) → at < length s → Puts s at (b ∷ []) (at + 1) (set s at b)
unfolding put
puts_byte s at b h = record { same = rw (lt-ltb at (length s) h) refl }

pub puts_over : (s : List ℕ) (at b : ℕ) → length s ≤ at → Puts s at (b ∷ []) (length s + 1) s
unfolding put
puts_over s at b h = record { same = rw (le-ltb at (length s) h, set_out s at b h) refl }

-- two bytes that fit
pub puts_two : (s : List ℕ) (at a b : ℕ) → at + 2 ≤ length s → Puts s at (a ∷ b ∷ []) (at + 2) (set (set s at a) (at + 1) b)
puts_two s at a b h =
    let two : at + 1 + 1 ≡ at + 2 = omega arith in
    rw (← two) (puts_then (puts_byte s at a (omega arith)) (puts_byte (set s at a) (at + 1) b (omega (arith, length-set s at a))))

-- ---- where there is room, the text stands at the position and nothing else has changed
put_room : (s : List ℕ) (at : ℕ) (text : List ℕ) → at + length text ≤ length s
    → put (record { to = at; bytes = s }) text ≡ record { to = at + length text; bytes = spliced s at text }
unfolding put
put_room s at [] h = rw add-zero (ap (λ (x : List ℕ). record { to = at; bytes = x }) (rw add-zero at (paste-zero s at [])))
put_room s at (b ∷ text) h =
    let l : at < length s = omega arith in
    let e : set s at b ≡ spliced s at (b ∷ []) = (wrote_byte s at b l).bytes in
    let n : at + 1 + length text ≡ at + length (b ∷ text) = omega arith in
    rw (lt-ltb at (length s) l)
    (put_room (set s at b) (at + 1) text (omega (arith, length-set s at b))
    ∙ ap (λ (x : List ℕ). record { to = at + 1 + length text; bytes = spliced x (at + 1) text }) e
    ∙ ap (λ (x : List ℕ). record { to = at + 1 + length text; bytes = x }) (splice_splice s at (b ∷ []) text (omega arith))
    ∙ ap (λ (k : ℕ). record { to = k; bytes = spliced s at (b ∷ text) }) n)

module _ {s : List ℕ} {at : ℕ} {text : List ℕ} {to : ℕ} {out : List ℕ} (h : at + length text ≤ length s) where
  pub puts_wrote : Wrote s at text to out → Puts s at text to out
  puts_wrote w = record { same = rw (w.end, w.bytes) (sym (put_room s at text h)) }

  pub wrote_puts : Puts s at text to out → Wrote s at text to out
  wrote_puts p = let e = p.same ∙ put_room s at text h in record { end = ap (λ (o : Output). o.to) e; bytes = ap (λ (o : Output). o.bytes) e }

-- ---- texts put one after another in a loop
-- the state of a writer of a text that is n texts one behind the other: it has put the first i and stands at `to`
pub record Putting (whole : List ℕ) (f : ℕ → List ℕ) (n : ℕ) (s : List ℕ) (at : ℕ) (out : List ℕ) (i to : ℕ) : Type 0 where
  pub all : whole ≡ joined f n
  pub within : i ≤ n
  pub long : length out ≡ length s
  pub puts : Puts s at (joined f i) to out

pub putting_start : {whole : List ℕ} {f : ℕ → List ℕ} {n : ℕ} (s : List ℕ) (at : ℕ) → whole ≡ joined f n → Putting whole f n s at s 0 at
unfolding joined
putting_start s at e = record { all = e; within = omega arith; long = refl; puts = puts_none s at }

module _ {whole : List ℕ} {f : ℕ → List ℕ} {n : ℕ} {s : List ℕ} {at : ℕ} {out : List ℕ} {i to : ℕ} (w : Putting whole f n s at out i to) where
  pub putting_more : i < n → {to' : ℕ} {out' : List ℕ} → Puts out to (f i) to' out' → Putting whole f n s at out' (i + 1) to'
  unfolding joined
  putting_more h p = record { all = w.all; within = omega arith; long = puts_length p ∙ w.long; puts = rw add-one (puts_then w.puts p) }

  pub putting_done : n ≤ i → Puts s at whole to out
  putting_done h = let e : i ≡ n = omega (arith, w.within) in rw (w.all, ← e) w.puts

-- a text is its bytes one behind the other
pub bytes_joined : (text : List ℕ) → text ≡ joined (λ i. get_or text i 0 ∷ []) (length text)
bytes_joined text =
    joined_whole (λ i. get_or text i 0 ∷ []) (λ i. drop i text) (length text)
    (λ i h. rw add-one (drop-cons text i 0 h))
    (drop_of_length-le text {i = length text} (omega arith))
