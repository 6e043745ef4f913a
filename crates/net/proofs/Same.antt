-- What was read back is the same net: cleaning changes no slot that counts. And nets that agree in all that counts have the same card.
use Rattle.reply.specs.Respond.{Passed}
use Prim.Native.Nat.{ℕ, ◌<◌, ◌≤◌, min}
use native.Mathlib.Nat.{min-eq_left}
use native.Mathlib.Omega.{arith}
use mathlib.Core.Path.{◌≡◌, refl, sym, ap, ◌∙◌}
use mathlib.Core.List.{List, ◌++◌, map}
use lib.ListN.{length, get_or, replicate, get_or-map}
use Rattle.laws.specs.Arrays.{filled}
use Rattle.laws.specs.Slots.{first_of, pad_to, get_d_kept, get_d_changed}
use Rattle.text.specs.Key.{bytes}
use Rattle.form.specs.Form.{found, keyed}
use Rattle.form.specs.Line.{ranged, number, items}
use Rattle.form.proofs.Same.{exactly_same, items_same, clean_check}
use Rattle.net.specs.declared.Net.{Net}
use Rattle.net.specs.Net.{Row, row, no_row, no_transition, body, takes_in, gives_in, row_at, rows_of, to_net, net_card}
use Rattle.net.specs.Same.{SameNet}
use Rattle.net.proofs.Rows.{take_there, give_there, sixteen_at, row_there}
use Rattle.net.proofs.Card.{net_settled, net_read_back, net_places, net_transitions}

module _ (n : Net) (few : n.places ≤ 16) (short : n.transitions ≤ 32) where
  -- the rows of the clean net
  clean : List Row
  clean = pad_to 32 no_row (map (row n.places).clean (first_of (min n.transitions 32) no_row (rows_of n)))

  module _ (t : ℕ) (l : t < n.transitions) where
    row_kept : get_or clean t no_row ≡ (row n.places).clean (row_at n t)
    unfolding clean
    row_kept =
        get_d_changed (row n.places).clean (min n.transitions 32) 32 no_row (rows_of n) t (omega (arith, min-eq_left short))
        ∙ ap (row n.places).clean (row_there n t (omega arith))

    module _ (k : ℕ) (h : k < n.places) where
      take_same : takes_in (net_card.clean n).take t k ≡ takes_in n.take t k
      unfolding clean
      take_same =
          take_there clean t k (omega arith) (omega arith)
          ∙ ap (λ (r : Row). get_or r.take k 0) row_kept
          ∙ get_d_kept (min n.places 16) 16 0 (row_at n t).take k (omega arith)
          ∙ sixteen_at (takes_in n.take t) k (omega arith)

      give_same : gives_in (net_card.clean n).give t k ≡ gives_in n.give t k
      unfolding clean
      give_same =
          give_there clean t k (omega arith) (omega arith)
          ∙ ap (λ (r : Row). get_or r.give k 0) row_kept
          ∙ get_d_kept (min n.places 16) 16 0 (row_at n t).give k (omega arith)
          ∙ sixteen_at (gives_in n.give t) k (omega arith)

    table_same : get_or (net_card.clean n).table t no_transition ≡ get_or n.table t no_transition
    unfolding clean
    table_same = get_or-map (λ (r : Row). r.interval) clean t no_row ∙ ap (λ (r : Row). r.interval) row_kept

  pub net_same : SameNet (net_card.clean n) n
  net_same =
      record {
        sheet = refl;
        places = refl;
        transitions = refl;
        start = λ k h. get_d_changed (λ (x : ℕ). x) (min n.places 16) 16 0 n.start k (omega arith);
        table = table_same;
        take = λ t k l h. take_same t l k h;
        give = λ t k l h. give_same t l k h;
      }

-- writing a net and reading it gives back the same one, and stops at the rest of the input
pub record NetReadBack (n : Net) (rest : List ℕ) : Type 0 where
  pub back : Net
  pub same : SameNet back n
  pub read : net_card.read (net_card.text n ++ rest) 0 1 ≡ found back (length (net_card.text n))

pub net_comes_back : (n : Net) (rest : List ℕ) → net_card.check n 1 ≡ Passed → NetReadBack n rest
net_comes_back n rest p = record { back = net_card.clean n; same = net_same n (net_places n p).1 (net_transitions n p).1; read = net_read_back n rest p }

-- ---- nets that agree in all that counts
same_weights : (places : ℕ) (f g : ℕ → ℕ) → ((p : ℕ) → p < places → f p ≡ g p)
    → (items places 16 0 255).clean (filled f 16 (replicate 16 0)) ≡ (items places 16 0 255).clean (filled g 16 (replicate 16 0))
same_weights places f g h =
    items_same (min places 16) 16 0 255 _ _ (λ p l. sixteen_at f p (omega arith) ∙ h p (omega arith) ∙ sym (sixteen_at g p (omega arith)))

module _ {a b : Net} (w : SameNet a b) where
  same_row : (t : ℕ) → t < min b.transitions 32 → (row b.places).clean (get_or (rows_of a) t no_row) ≡ (row b.places).clean (get_or (rows_of b) t no_row)
  same_row t h =
      let take = same_weights b.places (takes_in a.take t) (takes_in b.take t) (λ p l. w.take t p (omega arith) l) in
      let give = same_weights b.places (gives_in a.give t) (gives_in b.give t) (λ p l. w.give t p (omega arith) l) in
      rw (row_there a t (omega arith), row_there b t (omega arith)) (λ k. record { interval = w.table t (omega arith) k; take = take k; give = give k })

  pub same_net_clean : net_card.clean a ≡ net_card.clean b
  same_net_clean =
      let line = keyed (bytes "start=") (number (ranged 0 255)) in
      let start = exactly_same (min b.places 16) 16 0 line a.start b.start (λ p h. w.start p (omega arith)) in
      let table = exactly_same (min b.transitions 32) 32 no_row (row b.places) (rows_of a) (rows_of b) same_row in
      (λ k. to_net (w.sheet k, (w.places k, (w.transitions k, (body (w.places k) (w.transitions k)).clean (a.start, rows_of a)))))
      ∙ (λ k. to_net (b.sheet, (b.places, (b.transitions, (start k, table k)))))

  pub same_net_check : (line : ℕ) → net_card.check a line ≡ net_card.check b line
  same_net_check = clean_check net_settled same_net_clean
