-- Two cards are a record: what is read from them is clean, so that they stand for that very record, and the card behind a step is read as the record behind it.
use Prim.Native.Nat.{ℕ, ◌-◌, ◌≤◌, min}
use native.Mathlib.Nat.{min-eq_left}
use native.Mathlib.Omega.{arith}
use mathlib.Core.Path.{◌≡◌, refl, sym, ap, ◌∙◌}
use mathlib.Core.Bool.{Bool, true}
use mathlib.Core.Logic.{◌↔◌}
use mathlib.Core.List.{List, map}
use lib.ListN.{length, get_or, length-map, get_or-eq_default}
use Rattle.laws.specs.Slots.{first_of, pad_to, length_first, length_pad, get_d_padded}
use Rattle.reply.specs.Respond.{Outcome, Passed}
use Rattle.form.specs.Form.{Found, found}
use Rattle.form.proofs.Found.{found_value}
use Rattle.net.specs.declared.Net.{Net}
use Rattle.net.specs.Net.{net_card}
use Rattle.run.specs.declared.Firing.{Firing}
use Rattle.run.specs.declared.Run.{Run}
use Rattle.run.specs.Run.{no_firing, firing, run_card}
use Rattle.cards.specs.Cards.{card_of, input_of, run_cards}
use Rattle.cards.proofs.Cards.{run_counts, run_cards_passed, run_input_again}
use Rattle.cards.proofs.Values.{run_input_back}
use Rattle.operations.specs.Replay.{replayed}
use Rattle.open_run.specs.declared.OpenRun.{OpenRun}
use Rattle.open_run.specs.Open.{blank_behind, is_open, wait_of, fire_of, close_of, state_of, timetable_now}
use Rattle.open_run.specs.Cards.{on_record, card_after, wait_cards, fire_cards, close_cards, state_cards, timetable_now_cards}
use Rattle.open_run.proofs.Opened.{open_parts, blank_exactly}
use Rattle.open_run.proofs.Calls.{open_clean, net_read_lem}
use Rattle.open_run.proofs.Same.{same_wait_card, same_fire_card, same_close, same_state, same_timetable}

-- ---- what is read is clean
module _ (s : List ℕ) (net : Net) (q : Run) (next : ℕ) (e : run_cards s ≡ found (net, q) next) where
  again : ◌≡◌ {A = Found (Net × Run)} (found (net, q) next) (found (net_card.clean net, (card_of run_card net).clean q) (length (input_of run_card net q)))
  again = sym e ∙ ap run_cards (sym (run_input_again s e).0) ∙ run_input_back net q (run_cards_passed s e)

  pub read_net : net_card.clean net ≡ net
  read_net = sym (ap (λ (v : Net × Run). v.0) (found_value again))

  pub read_run_lem : (card_of run_card net).clean q ≡ q
  read_run_lem = sym (ap (λ (v : Net × Run). v.1) (found_value again))

-- a clean run has 64 slots, and nothing past its count
module _ (net : Net) (q : Run) (few : q.count ≤ 64) (clean : (card_of run_card net).clean q ≡ q) where
  abbrev held : List Firing
  held = map (firing net.transitions).clean (first_of (min q.count 64) no_firing q.firings)

  many : length held ≡ q.count
  many =
      length-map (first_of (min q.count 64) no_firing q.firings) (firing net.transitions).clean
      ∙ length_first (min q.count 64) no_firing q.firings ∙ min-eq_left few

  array : pad_to 64 no_firing held ≡ q.firings
  array = ap (λ (x : Run). x.firings) clean

  pub clean_slots : length q.firings ≡ 64
  clean_slots = ap length (sym array) ∙ length_pad 64 no_firing held (omega (arith, many))

  pub clean_blank : blank_behind q ≡ true
  clean_blank =
      (blank_exactly q).1 (λ i past l.
      ap (λ (x : List Firing). get_or x i no_firing) (sym array)
      ∙ get_d_padded held (64 - length held) no_firing i ∙ get_or-eq_default held no_firing {n = i} (omega (arith, many)))

-- the record that was read is open exactly if its replay passes
pub read_open : (s : List ℕ) (net : Net) (q : Run) (next : ℕ) → run_cards s ≡ found (net, q) next
    → (is_open (record { net = net; run = q; running = true }) ≡ true) ↔ (replayed net q ≡ Passed)
read_open s net q next e =
    let r : OpenRun = record { net = net; run = q; running = true } in
    let p = run_cards_passed s e in
    let few = (run_counts net q p).2 in
    let clean = read_run_lem s net q next e in (
      λ o. ((open_parts r).0 o).accepted,
      λ a.
          (open_parts r).1
          (record { running = refl; checked = p; accepted = a; slots = clean_slots net q few clean; blank = clean_blank net q few clean }),
    )

-- ---- an open record's cards
module _ (r : OpenRun) (o : is_open r ≡ true) where
  abbrev cards : List ℕ
  cards = input_of run_card r.net r.run

  -- the record that is read from them
  abbrev back : OpenRun
  back = record { net = net_card.clean r.net; run = r.run; running = true }

  on_record_lem : (f : OpenRun → Outcome) → on_record (run_cards cards) f ≡ f back
  on_record_lem f =
      ap (λ (x : Found (Net × Run)). on_record x f) (run_input_back r.net r.run ((open_parts r).0 o).checked)
      ∙ ap (λ (q : Run). f (record { net = net_card.clean r.net; run = q; running = true })) (open_clean r o)

  -- it differs from the record in slots past the net's counts alone
  on_same : (f : OpenRun → Outcome) → f back ≡ f (record { net = r.net; run = r.run; running = true }) → on_record (run_cards cards) f ≡ f r
  on_same f e =
      on_record_lem f ∙ e ∙ ap (λ (b : Bool). f (record { net = r.net; run = r.run; running = b })) (sym ((open_parts r).0 o).running)

  pub record_as_cards :
      ((w : ℕ) → wait_cards cards w ≡ card_after (wait_of r w))
      × ((t : ℕ) → fire_cards cards t ≡ card_after (fire_of r t))
      × ((w : ℕ) → close_cards cards w ≡ close_of r w)
      × (state_cards cards ≡ state_of r)
      × (timetable_now_cards cards ≡ timetable_now r)
  record_as_cards =
      let s = net_read_lem r o in (
        λ w. on_same (λ x. card_after (wait_of x w)) (same_wait_card s r.run true w),
        λ t. on_same (λ x. card_after (fire_of x t)) (same_fire_card s r.run true t),
        λ w. on_same (λ x. close_of x w) (same_close s r.run true w),
        on_same state_of (same_state s r.run true),
        on_same timetable_now (same_timetable s r.run true),
      )

-- the cards of an open record on a net that was read are read as that record
pub cards_read : (r : OpenRun) → is_open r ≡ true → net_card.clean r.net ≡ r.net
    → run_cards (input_of run_card r.net r.run) ≡ found (r.net, r.run) (length (input_of run_card r.net r.run))
cards_read r o clean =
    run_input_back r.net r.run ((open_parts r).0 o).checked
    ∙ (λ k. found (clean k, open_clean r o k) (length (input_of run_card r.net r.run)))
