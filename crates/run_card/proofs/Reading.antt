-- A run card and an order card, by the cases of the code: the lines are read one behind the other, and the first refusal counts.
use Prim.Native.Nat.{ℕ, ◌+◌, ◌*◌, ◌≤◌, min}
use native.Mathlib.Nat.{min-eq_left}
use native.Mathlib.Omega.{arith}
use mathlib.Core.Path.{◌≡◌, refl, sym, ap, ◌∙◌}
use mathlib.Core.List.{List}
use lib.Dec.{lit<}
use Rattle.reply.specs.declared.Refusal.{Refusal}
use Rattle.text.specs.Key.{bytes}
use Rattle.form.specs.Form.{Found, found, refused, and_then, Form, keyed, chain, times, held, front}
use Rattle.form.specs.Line.{ranged, number}
use Rattle.form.specs.Sheet.{sheet_of, on_sheet}
use Rattle.form.proofs.Found.{then_then, then_found, found_value}
use Rattle.form.proofs.Lines.{ranged_read}
use Rattle.form.proofs.Answers.{exactly_lines, chain_parts}
use Rattle.form.proofs.Sheets.{sheet_read}
use Rattle.run.specs.declared.Memory.{Memory}
use Rattle.run.specs.declared.Firing.{Firing}
use Rattle.run.specs.declared.Run.{Run}
use Rattle.run.specs.declared.Order.{Order}
use Rattle.run.specs.Run.{memory, firings, fire, parts, firing, no_firing, steps, run_lines, to_run, run_card, order_lines, to_order, order_card}
use Rattle.run_card.specs.Code.{run_on, order_on}

-- what stands in the line `memory` of both cards
abbrev memory_read : List ℕ → ℕ → Found Memory
memory_read s at = (keyed (bytes "memory=") memory).read s at 2

-- ---- a count of firings that was read
pub count_few : (s : List ℕ) (at line : ℕ) {count next : ℕ} → firings.read s at line ≡ found count next → count ≤ 64
count_few s at line {count} {next} e = (ranged_read (bytes "firings=") 0 64 (lit< tt) count s at next line e).1

-- ---- a run card, behind its sheet
module _ (transitions : ℕ) (s : List ℕ) (start own : ℕ) {m : Memory} {at d to count at_firings : ℕ} (e : memory_read s start ≡ found m at)
    (z : (keyed (bytes "denominator=") (number (ranged 1 1000))).read s at 3 ≡ found d to) (c : firings.read s to 4 ≡ found count at_firings) where
  -- what these lines say
  abbrev run_told : Found Run
  run_told = run_on own ((run_lines transitions).read s start 2)

  abbrev firings_read : Found (List Firing)
  firings_read = (times count 64 no_firing (firing transitions)).read s at_firings 5

  module _ {l : List Firing} {at_rest : ℕ} (f : firings_read ≡ found l at_rest) where
    -- what stands in the line `rest`
    abbrev rest_read : Found ℕ
    rest_read = (parts (bytes "rest=")).read s at_rest (5 + 2 * count)

    -- the firings that were read have two lines each
    firings_lines : (times count 64 no_firing (firing transitions)).lines l ≡ 2 * count
    firings_lines =
        exactly_lines (min count 64) 64 no_firing (firing transitions) 2 (λ f. refl) l
        ∙ ap (λ (n : ℕ). 2 * n) (min-eq_left (count_few s to 4 c))

    pub rest_stopped : {r : Refusal} → rest_read ≡ refused r → refused r ≡ run_told
    rest_stopped q = rw (e, z, c, f, firings_lines, q) refl

    pub run_read : {rest end : ℕ} → rest_read ≡ found rest end → found (to_run (own, (m, (d, (count, (l, rest)))))) end ≡ run_told
    run_read q = rw (e, z, c, f, firings_lines, q) refl

-- ---- an order card, likewise
pub order_read : (transitions : ℕ) (s : List ℕ) (start own : ℕ) {m : Memory} {at count at_fires : ℕ} → memory_read s start ≡ found m at
    → firings.read s at 3 ≡ found count at_fires
    → {l : List ℕ} {end : ℕ} → (times count 64 0 (fire transitions)).read s at_fires 4 ≡ found l end
    → found (to_order (own, (m, (count, l)))) end ≡ order_on own ((order_lines transitions).read s start 2)
order_read transitions s start own e c f = rw (e, c, f) refl

-- ---- the line of the sheet in front
pub behind_sheet : {A B : Type 0} (to : ℕ × B → A) (from : A → ℕ × B) (f : Form B) (own : ℕ) (s : List ℕ) {sheet next : ℕ}
    → (sheet_of own).read s 0 1 ≡ found sheet next
    → and_then (f.read s next 2) (λ v end. found (to (sheet, v)) end) ≡ front (held to from (on_sheet own f)) s
behind_sheet to from f own s {sheet} {next} e =
    let together = then_then (f.read s next 2) (λ v end. found (own, v) end) (λ v end. found (to v) end) in
    rw (e, sheet_read own sheet s 0 next 1 e) (sym together)

-- ---- how many lines a card has
pub run_long : (own transitions : ℕ) (run : Run) → 5 + 2 * min run.count 64 ≡ (run_card own transitions).lines run
run_long own transitions run =
    let lines = exactly_lines (min run.count 64) 64 no_firing (firing transitions) 2 (λ f. refl) run.firings in
    omega (arith, lines)

pub order_long : (own transitions : ℕ) (order : Order) → 3 + min order.count 64 ≡ (order_card own transitions).lines order
order_long own transitions order =
    let lines = exactly_lines (min order.count 64) 64 0 (fire transitions) 1 (λ f. refl) order.fires in
    omega (arith, lines)

-- ---- a run that was read has no more firings than slots
pub run_few : (own transitions : ℕ) (s : List ℕ) {run : Run} {next : ℕ} → front (run_card own transitions) s ≡ found run next → run.count ≤ 64
run_few own transitions s {run} e =
    let counted : ℕ → Form (ℕ × (List Firing × ℕ)) = λ _. chain firings (λ count. steps transitions count) in
    let behind_rule : Memory → Form (ℕ × (ℕ × (List Firing × ℕ))) = λ _. chain (keyed (bytes "denominator=") (number (ranged 1 1000))) counted in
    let all = then_found ((on_sheet own (run_lines transitions)).read s 0 1) (λ v end. found (to_run v) end) e in
    let behind = chain_parts (sheet_of own) (λ _. run_lines transitions) s 0 1 all.first in
    let rule = chain_parts (keyed (bytes "memory=") memory) behind_rule s behind.place 2 behind.second in
    let divided = chain_parts (keyed (bytes "denominator=") (number (ranged 1 1000))) counted s rule.place 3 rule.second in
    let count = chain_parts firings (λ count. steps transitions count) s divided.place 4 divided.second in
    let same : all.value.1.1.1.0 ≡ run.count = ap (λ (r : Run). r.count) (found_value all.then) in
    omega (arith, count_few s divided.place 4 {next = count.place} count.first, same)
