-- The loop over a run's firings: with i firings written, the queues are those behind them, and the flags tell who took of the firing before.
use Rattle.reply.specs.Respond.{Passed}
use Prim.Native.Nat.{ℕ, ◌+◌, ◌-◌, ◌*◌, ◌≤◌, ◌<◌, min}
use native.Mathlib.Numerals.{add-one}
use native.Mathlib.Omega.{arith}
use mathlib.Core.Path.{◌≡◌, refl, sym, ap, ◌∙◌}
use mathlib.Core.Bool.{Bool, false}
use mathlib.Core.List.{List, [], ◌∷◌, ◌++◌, map, append_assoc}
use lib.ListN.{length, get_or, set, take, drop, replicate, length-append, length-replicate, get_or-replicate, get_or-map}
use lib.Seq.{take-suc, take_all, get_or-drop}
use Rattle.std.proofs.lemmas.List.{get_or-take, length-take, length-take-le}
use Rattle.laws.specs.Slots.{get_d_first}
use Rattle.laws.specs.Arrays.{length_filled, filled_at, Filling, fill_start, fill_store, fill_done}
use Rattle.text.specs.Key.{bytes}
use Rattle.text.specs.Decimal.{decimal}
use Rattle.text.specs.declared.Writer.{Writer}
use Rattle.text.specs.Writer.{Writes}
use Rattle.text.proofs.Writing.{WritesFirst, first_none, first_more, first_all, writes_then}
use Rattle.net.specs.declared.Net.{Net}
use Rattle.run.specs.declared.Firing.{Firing}
use Rattle.run.specs.declared.Run.{Run}
use Rattle.run.specs.Run.{no_firing, firings_of, order_of}
use Rattle.firing.specs.Semantics.{arcs_of, start_marking}
use Rattle.firing.specs.Tokens.{tokens, marking_after}
use Rattle.firing.proofs.Clocks.{few_transitions, enabled_listed}
use Rattle.firing.proofs.Accept.{length_start, start_at}
use Rattle.run.proofs.Firings.{length_firings}
use Rattle.timing.proofs.Meet.{length_order}
use Rattle.net.specs.Net.{takes_in}
use Rattle.causal.specs.Process.{Queues, Event, oldest, start_queues, taken_by, items_of, queues_after, queues_behind, events, left}
use Rattle.causal.specs.Free.{took_from, free}
use Rattle.causal.specs.Print.{item_text, list_text, event_text, events_text, process_text}
use Rattle.causal.specs.Claims.{from_at}
use Rattle.causal.proofs.Events.{Agree, items_same, text_at, joined_all}
use Rattle.causal.proofs.Queues.{oldest_all, length_without}
use Rattle.causal.proofs.Tokens.{queues_at, length_events, event_fires, from_items, start_sums, allowed_enabled}
use Rattle.causal.proofs.Longest.{holds_few}
use Rattle.engine.specs.Counts.{queue_of, taken_in, event_in, TookAll, Gave, unset}
use Rattle.engine.proofs.Flags.{flags_free}

-- one firing behind others
behind_last : (net : Net) (order : List ℕ) (t : ℕ) (queues : Queues)
    → queues_behind net (order ++ (t ∷ [])) queues ≡ queues_after net (queues_behind net order queues) t
unfolding queues_behind
behind_last net [] t queues = refl
behind_last net (u ∷ order) t queues = behind_last net order t (queues_after net queues u)

-- the last two lines stand behind the firings
grouped : (a b c d e : List ℕ) → a ++ (b ++ c) ++ (d ++ e) ≡ a ++ b ++ c ++ d ++ e
grouped a b c d e = simp append_assoc

-- all tokens are taken where 255 are asked for and no place has more
pub items_all : (queues : List (List ℕ)) → length queues ≤ 16 → ((p : ℕ) → p < length queues → oldest 255 (queue_of queues p) ≡ queue_of queues p)
    → items_of (taken_in (replicate 512 255) 0 queues) (length queues) ≡ items_of (queue_of queues) (length queues)
items_all queues few all =
    items_same (taken_in (replicate 512 255) 0 queues) (queue_of queues) (length queues)
    (λ p b. ap (λ (n : ℕ). oldest n (queue_of queues p)) (get_or-replicate 512 (32 * p + 0) 255 0 (omega arith)) ∙ all p b)

-- the order of a run, the transition of the firing with i before it, and the firings of its process
abbrev ordered : Run → List ℕ
ordered run = order_of (firings_of run)

abbrev fire_at : Run → ℕ → ℕ → ℕ
fire_at run count i = (get_or (take count run.firings) i no_firing).fire

abbrev firings_in : Net → Run → List Event
firings_in net run = events net (ordered run)

-- the places and the firings that count
pub record Clipped (net : Net) (run : Run) (places count : ℕ) : Type 0 where
  pub few : places ≡ (arcs_of net).places
  pub brief : count ≡ min run.count 64

pub clip : (net : Net) (run : Run) {places count : ℕ} → places ≡ min net.places 16 → count ≡ min run.count 64 → Clipped net run places count
clip net run few brief = record { few = few; brief = brief }

-- the state with i firings written
pub record Processing (net : Net) (run : Run) (places count : ℕ) (before after : Writer) (queues : List (List ℕ)) (linked : List Bool) (i : ℕ) : Type 0 where
  pub writing : WritesFirst (events_text (firings_in net run)) (text_at (firings_in net run)) count before i after
  pub size : length queues ≡ places
  pub behind : Agree places (queue_of queues) (queues_at net (ordered run) i)
  pub level : (p : ℕ) → p < places → length (queue_of queues p) ≡ i + 1
  pub flags : Filling (λ k. took_from k (from_at net (ordered run) k)) count (replicate 64 false) i linked

module _ {net : Net} {run : Run} {places count : ℕ} (given : Clipped net run places count) where
  abbrev order : List ℕ
  order = ordered run

  abbrev firings : List Event
  firings = firings_in net run

  order_length : length order ≡ count
  order_length = length_order (firings_of run) ∙ length_firings run ∙ sym given.brief

  firings_length : length firings ≡ count
  firings_length = length_events net order ∙ order_length

  order_at : (i : ℕ) → i < count → get_or order i 0 ≡ fire_at run count i
  unfolding order_of firings_of
  order_at i l =
      get_or-map (λ (f : Firing). f.fire) (firings_of run) i no_firing
      ∙ ap (λ (f : Firing). f.fire)
      (get_d_first (min run.count 64) no_firing run.firings i (omega (arith, given.brief)) ∙ sym (get_or-take count run.firings i no_firing l))

  pub processing_start : {blank queues : List (List ℕ)} → length blank ≡ places → ((p : ℕ) → p < places → queue_of blank p ≡ []) → Gave blank net.start queues
      → (w : Writer) → Processing net run places count w w queues (replicate 64 false) 0
  unfolding queues_behind
  processing_start {blank} {queues} size none g w =
      record {
        writing = first_none w (sym (joined_all firings count firings_length));
        size = g.size ∙ size;
        behind = first;
        level = λ p b. ap length (first p b);
        flags = fill_start (λ k. took_from k (from_at net order k)) count (replicate 64 false);
      }
    where
      first : (p : ℕ) → p < places → queue_of queues p ≡ get_or net.start p 0 ∷ []
      first p b = g.longer p (omega (arith, size)) ∙ rw (none p b) refl

  -- ---- one firing
  module _ (allowed : tokens net order (start_marking net) 0 ≡ Passed) {i : ℕ} (inside : i < length (take count run.firings)) where
    pub l : i < count
    l = omega (arith, length-take count run.firings)

    in_order : i < length order
    in_order = omega (arith, order_length, l)

    pub fire_listed : fire_at run count i < 32
    fire_listed =
        let m = marking_after net (start_marking net) (take i order) in
        let on = allowed_enabled net order (start_marking net) 0 i allowed in_order in
        omega (arith, enabled_listed (arcs_of net) m (get_or order i 0) on, few_transitions net, order_at i l)

    -- the weights that it gives are those from 16 t on
    pub weights_there : length net.give ≡ 512 → 16 * fire_at run count i + places ≤ length net.give
    weights_there long = omega (arith, fire_listed, given.few)

    abbrev t : ℕ
    t = fire_at run count i

    module _ {before after : Writer} {queues : List (List ℕ)} {linked : List Bool} (s : Processing net run places count before after queues linked i) where
      from_here : from_at net order i ≡ items_of (taken_in net.take t queues) (length queues)
      from_here =
          from_items net order i in_order ∙ ap (items_of (taken_by net (queues_at net order i) (get_or order i 0))) (sym (s.size ∙ given.few))
          ∙ items_same (taken_by net (queues_at net order i) (get_or order i 0)) (taken_in net.take t queues) (length queues)
          (λ p b. rw (s.behind p (omega (arith, s.size)), order_at i l) refl)

      text_here : text_at firings i ≡ event_text (event_in net.take t queues)
      text_here = rw (event_fires net order i in_order, order_at i l, from_here) refl

      module _ {queues₁ : List (List ℕ)} {newest : Bool} (took : TookAll net.take t queues queues₁ newest) where
        pub left_level : (p : ℕ) → p < places → length (queue_of queues₁ p) ≡ i + 1
        left_level p b = ap length (took.left p (omega (arith, s.size))) ∙ length_without (takes_in net.take t p) (queue_of queues p) ∙ s.level p b

        module _ {queues₂ : List (List ℕ)} (gave : Gave queues₁ (drop (16 * t) net.give) queues₂) where
          longer : (p : ℕ) → p < places → queue_of queues₂ p ≡ queue_of queues₁ p ++ (get_or net.give (16 * t + p) 0 ∷ [])
          longer p b = gave.longer p (omega (arith, took.size, s.size)) ∙ rw (get_or-drop (16 * t) net.give p 0) refl

          queues_next : Agree places (queue_of queues₂) (queues_at net order (i + 1))
          queues_next p b =
              longer p b ∙ rw (took.left p (omega (arith, s.size)), s.behind p b, ← order_at i l) refl
              ∙ ap (λ (f : Queues). f p) (sym (behind_last net (take i order) (get_or order i 0) (start_queues net)))
              ∙ ap (λ (ts : List ℕ). queues_behind net ts (start_queues net) p) (rw add-one (sym (take-suc order i 0 in_order)))

          linked_next : newest ≡ took_from i (from_at net order i)
          linked_next =
              let last : i + 1 - 1 ≡ i = omega arith in
              took.linked (i + 1) (λ p b. s.level p (omega (arith, s.size))) ∙ rw (last, from_here) refl

          pub processing_more : {next : Writer} → Writes after (event_text (event_in net.take t queues)) next
              → Processing net run places count before next queues₂ (set linked i newest) (i + 1)
          processing_more p =
              record {
                writing = first_more s.writing l (rw text_here p);
                size = gave.size ∙ took.size ∙ s.size;
                behind = queues_next;
                level = λ p b.
                    ap length (longer p b)
                    ∙ length-append (queue_of queues₁ p) (get_or net.give (16 * t + p) 0 ∷ [])
                    ∙ ap (λ (n : ℕ). n + 1) (left_level p b);
                flags = fill_store s.flags l linked_next;
              }

  -- ---- the end
  pub all_passed : length run.firings ≡ 64 → {i : ℕ} → length (take count run.firings) ≤ i → count ≤ i
  all_passed long h = omega (arith, length-take count run.firings, given.brief)

  module _ {before after : Writer} {queues : List (List ℕ)} {linked : List Bool} {i : ℕ} (s : Processing net run places count before after queues linked i)
      (l : count ≤ i) where
    all_done : i ≡ count
    all_done = omega (arith, s.writing.first.within)

    end_queues : Agree places (queue_of queues) (queues_behind net order (start_queues net))
    end_queues p b =
        s.behind p b
        ∙ ap (λ (ts : List ℕ). queues_behind net ts (start_queues net) p) (take_all i order (omega (arith, order_length)))

    -- no place has more than 255
    pub end_all : tokens net order (start_marking net) 0 ≡ Passed → ((p : ℕ) → p < places → get_or net.start p 0 ≤ 255)
        → (p : ℕ) → p < places → oldest 255 (queue_of queues p) ≡ queue_of queues p
    end_all allowed small p b =
        let inside : p < (arcs_of net).places = omega (arith, given.few) in
        let start : get_or (start_marking net) p 0 ≤ 255 = omega (arith, start_at net p inside, small p b) in
        let end = holds_few net order (start_marking net) 0 p (length_start net) inside allowed start in
        rw (end_queues p b) (oldest_all 255 (queues_behind net order (start_queues net) p) (omega (arith, start_sums net p order inside, end)))

    left_same : left net order ≡ items_of (queue_of queues) (length queues)
    unfolding left
    left_same =
        ap (items_of (queues_behind net order (start_queues net))) (sym (s.size ∙ given.few))
        ∙ sym (items_same (queue_of queues) (queues_behind net order (start_queues net)) (length queues) (λ p b. end_queues p (omega (arith, s.size))))

    brief : count ≤ length linked
    brief =
        rw (fill_done s.flags l)
        (omega (arith, given.brief, length_filled (λ k. took_from k (from_at net order k)) (replicate 64 false) count, length-replicate 64 false))

    free_same : unset (take count linked) 1 (length (take count linked) - 1) ≡ free firings
    free_same =
        rw (length-take-le count linked brief)
        (flags_free (take count linked) firings count firings_length
        (λ k b. get_or-take count linked k false b
        ∙ rw (fill_done s.flags l)
        (filled_at (λ k. took_from k (from_at net order k)) (replicate 64 false) false count k b (omega (arith, given.brief)))))

    pub processing_done : {b : Writer} → Writes after (bytes "left=" ++ list_text (map item_text (items_of (queue_of queues) (length queues)))) b → {c : Writer}
        → Writes b (bytes "free=" ++ list_text (map decimal (unset (take count linked) 1 (length (take count linked) - 1)))) c
        → Writes before (process_text net order) c
    unfolding process_text
    processing_done p q = rw (left_same, ← free_same, ← grouped (events_text firings)) (writes_then (writes_then (first_all s.writing l) p) q)
