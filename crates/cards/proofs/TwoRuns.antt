-- A net card and the cards of two runs behind it: how much of an input a reading looks at, both round trips, and values told as their cards.
use Rattle.reply.specs.Respond.{Passed}
use Prim.Native.Nat.{ℕ, ◌+◌, ◌<◌}
use native.Mathlib.Omega.{arith}
use mathlib.Core.Path.{◌≡◌, refl, sym, ap, ◌∙◌}
use mathlib.Core.List.{List, ◌++◌}
use lib.ListN.{length, take, drop, length-append}
use Rattle.form.specs.Form.{found, found_if, also, front, alone, follow}
use Rattle.form.proofs.Found.{also_first, also_second, judged_same}
use Rattle.form.proofs.Card.{alone_written_again}
use Rattle.form.proofs.Row.{front_near, alone_near, follow_near, row_read, row_told}
use Rattle.form.proofs.Writable.{alone_told, told_text_lem}
use Rattle.net.specs.declared.Net.{Net}
use Rattle.net.specs.Net.{net_card}
use Rattle.net.specs.Same.{writable_net}
use Rattle.net.proofs.Card.{net_reach, net_inverse, net_settled, net_reaches, net_transitions}
use Rattle.net.proofs.Writable.{net_told}
use Rattle.run.specs.declared.Run.{Run}
use Rattle.run.specs.Run.{run_card}
use Rattle.run.specs.Same.{writable_run}
use Rattle.run.proofs.Card.{run_reach}
use Rattle.run.proofs.Text.{run_text_lem}
use Rattle.run.proofs.Writable.{run_told_lem}
use Rattle.cards.specs.Cards.{card_of, two_runs, two_runs_checked, two_runs_input}
use Rattle.cards.proofs.OnNet.{run_lawful, read_few}

-- a program whose buffer holds the first k bytes loses nothing
pub two_runs_prefix : (s : List ℕ) (k : ℕ) → net_reach + (run_reach + run_reach) < k → two_runs (take k s) ≡ two_runs s
two_runs_prefix =
    (follow_near (front_near net_reaches)
    (λ s net next e. let near = (run_lawful net).reaches (read_few s e) in follow_near (front_near near) (λ s' x next' e'. alone_near near))).prefix

-- what was read passes its check, and written again it is the input
pub record TwoRunsRead (net : Net) (x y : Run) (s : List ℕ) (next : ℕ) : Type 0 where
  pub bytes : two_runs_input net x y ≡ s
  pub end : next ≡ length s
  pub passed : two_runs_checked net x y ≡ Passed

pub two_runs_was : (s : List ℕ) {net : Net} {x y : Run} {next : ℕ} → two_runs s ≡ found (net, (x, y)) next → TwoRunsRead net x y s next
two_runs_was s {net} {x} {y} e =
    let card = card_of run_card net in
    let t = net_card.text net in
    let u = card.text x in
    let rest = drop (length t) s in
    let one = row_read net_inverse (λ n. follow (front (card_of run_card n)) (λ _. alone (card_of run_card n))) s e in
    let inverse = (run_lawful net).inverse (net_transitions net one.passed).1 in
    let two = row_read inverse (λ _. alone card) rest one.there in
    let last = alone_written_again inverse (drop (length u) rest) two.there in
    let behind : u ++ card.text y ≡ rest = ap (λ (l : List ℕ). u ++ l) (sym last.bytes) ∙ sym two.bytes in
    let all = ap length one.bytes ∙ length-append t rest in
    let more = ap length two.bytes ∙ length-append u (drop (length u) rest) in
    record {
      bytes = ap (λ (l : List ℕ). t ++ l) behind ∙ sym one.bytes;
      end = omega (arith, one.in_all, two.in_all, last.end, all, more);
      passed = rw (one.passed, two.passed) last.passed;
    }

-- values are told by their check as their cards are told by reading, a number too long to write standing as the largest that can be written
module _ (net : Net) (x y : Run) where
  -- the text of a run is the same for any net
  abbrev text_of : Run → List ℕ
  text_of = (card_of run_card net).text

  cut_text : (r : Run) → (card_of run_card (writable_net net)).text r ≡ text_of r
  cut_text r = run_text_lem (writable_net net).sheet (writable_net net).transitions net.sheet net.transitions r

  abbrev cut_input : List ℕ
  cut_input = two_runs_input (writable_net net) (writable_run x) (writable_run y)

  cut_texts : cut_input ≡ net_card.text (writable_net net) ++ (text_of (writable_run x) ++ text_of (writable_run y))
  cut_texts =
      ap (λ (l : List ℕ). net_card.text (writable_net net) ++ (l ++ (card_of run_card (writable_net net)).text (writable_run y))) (cut_text (writable_run x))
      ∙ ap (λ (l : List ℕ). net_card.text (writable_net net) ++ (text_of (writable_run x) ++ l)) (cut_text (writable_run y))

  -- what passes can be written as it is
  input_same : two_runs_checked net x y ≡ Passed → cut_input ≡ two_runs_input net x y
  input_same p =
      let first = also_first (net_card.check net 1) _ p in
      let runs = also_second (net_card.check net 1) _ p in
      let few = (net_transitions net first).1 in
      let told = run_told_lem net.sheet net.transitions few in
      let w = run_lawful net in
      let a = told_text_lem net_told net_inverse net_settled net 1 first in
      let b = told_text_lem told (w.inverse few) w.settled x 1 (also_first ((card_of run_card net).check x 1) _ runs) in
      let c = told_text_lem told (w.inverse few) w.settled y 1 (also_second ((card_of run_card net).check x 1) _ runs) in
      cut_texts
      ∙ ap (λ (l : List ℕ). l ++ (text_of (writable_run x) ++ text_of (writable_run y))) a
      ∙ ap (λ (l : List ℕ). net_card.text net ++ (l ++ text_of (writable_run y))) b
      ∙ ap (λ (l : List ℕ). net_card.text net ++ (text_of x ++ l)) c

  pub two_runs_told : two_runs cut_input
      ≡ found_if (two_runs_checked net x y) (net_card.clean net, ((card_of run_card net).clean x, (card_of run_card net).clean y))
      (length (two_runs_input net x y))
  two_runs_told =
      let card = card_of run_card net in
      let t = net_card.text (writable_net net) in
      let u = text_of (writable_run x) in
      let v = text_of (writable_run y) in
      ap two_runs cut_texts
      ∙ row_told net_told (λ n. follow (front (card_of run_card n)) (λ _. alone (card_of run_card n))) net (u ++ v)
      (also (card.check x 1) (card.check y 1)) (card.clean x, card.clean y) (length u + length v)
      (λ p.
      let told = run_told_lem net.sheet net.transitions (net_transitions net p).1 in
      row_told told (λ _. alone card) x v (card.check y 1) (card.clean y) (length v) (λ q. alone_told told y))
      ∙ judged_same (two_runs_checked net x y) _ _ _ _ (λ p.
      ap (found (net_card.clean net, (card.clean x, card.clean y)))
      (sym (ap length cut_texts ∙ length-append t (u ++ v) ∙ ap (λ (n : ℕ). length t + n) (length-append u v)) ∙ ap length (input_same p)))

  -- what passes its check is read back from its cards, up to the slots past the counts
  pub two_runs_back : two_runs_checked net x y ≡ Passed
      → two_runs (two_runs_input net x y)
      ≡ found (net_card.clean net, ((card_of run_card net).clean x, (card_of run_card net).clean y)) (length (two_runs_input net x y))
  two_runs_back p = ap two_runs (sym (input_same p)) ∙ two_runs_told ∙ rw p refl
