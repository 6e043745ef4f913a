-- Document 02, "The open run", as statements, each under its sentence; proofs/Request.antt proves each of them under the same name in small letters.
use Rattle.std.specs.Prelude.{ℕ, suc, ◌+◌, ◌≤◌, ◌<◌, ◌≡◌, true, false, ◌↔◌, List, ◌++◌, length, take, Err, Ok}
use Rattle.reply.specs.declared.Refusal.{Refusal}
use Rattle.reply.specs.declared.Refusal.TheVariants.{OutOfRange, NoSuchTransition, OutputTooShort, ClosedRun}
use Rattle.reply.specs.Refusal.{position_of}
use Rattle.reply.specs.Respond.{answer, refusal, Answered, output_of, Passed}
use Rattle.reply.specs.Demanded.{Demanded}
use Rattle.form.specs.Form.{found, refused}
use Rattle.net.specs.declared.Net.{Net}
use Rattle.net.specs.Net.{net_card}
use Rattle.net.specs.Same.{SameNet}
use Rattle.run.specs.declared.Memory.{Memory}
use Rattle.run.specs.declared.Run.{Run}
use Rattle.run.specs.Run.{run_card, order_card, firings_of}
use Rattle.firing.specs.Semantics.{Timed, Allowed}
use Rattle.firing.specs.Claims.{Because}
use Rattle.cards.specs.Cards.{input_of, read_run, run_cards}
use Rattle.operations.specs.Replay.{end_text, replay_cards}
use Rattle.operations.specs.Timetable.{timetable_cards}
use Rattle.operations.specs.Demands.{rule_for}
use Rattle.open_run.specs.declared.OpenRun.{OpenRun}
use Rattle.open_run.specs.Open.{is_open, still, opened, with_run, halted, wait_added, fire_added, open_of, wait_of, fire_of, close_of, closing, state_of}
use Rattle.open_run.specs.Open.{order_so_far, timetable_now}
use Rattle.open_run.specs.Cards.{opening_cards, open_cards, card_for, card_after, wait_cards, fire_cards, close_cards, state_cards, timetable_now_cards}
use Rattle.open_run.specs.Claims.{Open, CardAccepted, Reachable, RunStep, behind, accepted_of, RunOf, OrderIn}

-- ---- opening
-- "open it on an accepted net with a memory and a denominator"
abbrev pub OpenedExactly : Type 0
OpenedExactly =
    (net : Net) (memory : Memory) (D : ℕ)
    → (((open_of net memory D).checked ≡ Passed) ↔ ((net_card.check net 1 ≡ Passed) × (1 ≤ D) × (D ≤ 1000)))
    × ((open_of net memory D).checked ≡ Passed → ((open_of net memory D).run ≡ opened net memory D) × Open (open_of net memory D).run)

-- a net that is not accepted is refused as its card. "A denominator outside its range is 2, place 0, and opens nothing"
abbrev pub OpeningRefused : Type 0
OpeningRefused =
    (net : Net) (memory : Memory) (D : ℕ)
    → ((e : Refusal) → net_card.check net 1 ≡ Err e → (open_of net memory D).checked ≡ Err e)
    × (((open_of net memory D).checked ≡ Err (OutOfRange 0)) ↔ ((net_card.check net 1 ≡ Passed) × ((1 ≤ D) × (D ≤ 1000) → ⊥)))
    × ((e : Refusal) → (open_of net memory D).checked ≡ Err e → is_open (open_of net memory D).run ≡ false)

-- ---- steps
-- "short of 9 and 15, a step is accepted exactly if the card with it added is": a wait, a firing, and the rest that closes
abbrev pub WaitExactly : Type 0
WaitExactly = (r : OpenRun) (w : ℕ) → Open r → ((wait_of r w).checked ≡ Passed) ↔ CardAccepted r.net (wait_added r.run w)

abbrev pub FireExactly : Type 0
FireExactly = (r : OpenRun) (t : ℕ) → Open r → ((fire_of r t).checked ≡ Passed) ↔ CardAccepted r.net (fire_added r.run t)

abbrev pub CloseExactly : Type 0
CloseExactly = (r : OpenRun) (w : ℕ) → Open r → Answered (close_of r w) ↔ CardAccepted r.net (wait_added r.run w)

-- an accepted step leaves the run with it added, still open; and nothing of the net moves
abbrev pub StepsAdd : Type 0
StepsAdd =
    (r : OpenRun)
    → ((w : ℕ) → (wait_of r w).checked ≡ Passed → ((wait_of r w).run ≡ with_run r (wait_added r.run w)) × Open (wait_of r w).run)
    × ((t : ℕ) → (fire_of r t).checked ≡ Passed → ((fire_of r t).run ≡ with_run r (fire_added r.run t)) × Open (fire_of r t).run)

-- "A refused step leaves the run as before it": the whole record; a refused closing leaves every byte of the output too
abbrev pub RefusedSame : Type 0
RefusedSame =
    (r : OpenRun) (e : Refusal)
    → ((w : ℕ) → (wait_of r w).checked ≡ Err e → (wait_of r w).run ≡ r)
    × ((t : ℕ) → (fire_of r t).checked ≡ Err e → (fire_of r t).run ≡ r)
    × ((w : ℕ) (out : List ℕ) → (closing r w out).reply ≡ Err e → ((closing r w out).run ≡ r) × (output_of (close_of r w) out ≡ out))

-- "Closing into too short an output is 9 and leaves the run open", and a written card closes it
abbrev pub ClosedByWriting : Type 0
ClosedByWriting =
    (r : OpenRun) (w : ℕ) (out : List ℕ)
    → ((closing r w out).reply ≡ Err OutputTooShort → Open r × ((closing r w out).run ≡ r))
    × ((n : ℕ) → (closing r w out).reply ≡ Ok n → ((closing r w out).run ≡ halted r) × (is_open (closing r w out).run ≡ false))

-- ---- refusals
-- "a step or such a call on a closed run is refused as 15, place 0, before all else", and nothing else is
abbrev pub ClosedExactly : Type 0
ClosedExactly =
    (r : OpenRun)
    → ((w : ℕ) → ((wait_of r w).checked ≡ Err ClosedRun) ↔ (is_open r ≡ false))
    × ((t : ℕ) → ((fire_of r t).checked ≡ Err ClosedRun) ↔ (is_open r ≡ false))
    × ((w : ℕ) → (close_of r w ≡ refusal ClosedRun) ↔ (is_open r ≡ false))
    × ((state_of r ≡ refusal ClosedRun) ↔ (is_open r ≡ false))
    × ((timetable_now r ≡ refusal ClosedRun) ↔ (is_open r ≡ false))

-- "A sum past 10,000,000 .. is 2 .. with the place of the firing being entered (N+1 for a rest after N firings)": all that is found against a wait or a rest
abbrev pub SumPast : Type 0
SumPast =
    (r : OpenRun) (w : ℕ) (e : Refusal) → Open r → let past = (e ≡ OutOfRange (suc r.run.count)) × (10000000 < r.run.rest + w) in
    (((wait_of r w).checked ≡ Err e) ↔ past) × ((close_of r w ≡ refusal e) ↔ past)

-- ".. or a 65th firing is 2, then a transition not in the net is 4, then come 5, 7 and 6": of these in the published semantics, in any state that the run has
-- come to
abbrev pub FireRefused : Type 0
FireRefused =
    (r : OpenRun) (t : ℕ) → Open r → let n = suc r.run.count in
    (((fire_of r t).checked ≡ Err (OutOfRange n)) ↔ (r.run.count ≡ 64))
    × (((fire_of r t).checked ≡ Err (NoSuchTransition n)) ↔ ((r.run.count < 64) × (r.net.transitions ≤ t)))
    × ((end : Timed) → Allowed r.net (rule_for r.net r.run.memory) r.run.denominator (firings_of r.run) r.run.rest end
    → r.run.count < 64 → t < r.net.transitions
    → (e : Refusal) → ((fire_of r t).checked ≡ Err e) ↔ Because r.net r.run.denominator e n end t)

-- "all with the place of the firing being entered"
abbrev pub StepsPlaced : Type 0
StepsPlaced =
    (r : OpenRun) (e : Refusal) → Open r
    → ((w : ℕ) → (wait_of r w).checked ≡ Err e → position_of e ≡ suc r.run.count)
    × ((t : ℕ) → (fire_of r t).checked ≡ Err e → position_of e ≡ suc r.run.count)
    × ((w : ℕ) → close_of r w ≡ refusal e → position_of e ≡ suc r.run.count)

-- "A record that opening and accepted steps can't have left counts as closed", and what they have left is open
abbrev pub ReachableExactly : Type 0
ReachableExactly = (r : OpenRun) → Open r ↔ Reachable r

-- ---- the card of the accepted steps
-- "Waits before a firing add up", "Waits since the last firing count into the rest": whatever is entered, the record holds the run of the accepted steps alone
abbrev pub StepsEntered : Type 0
StepsEntered =
    (net : Net) (memory : Memory) (D : ℕ) (ss : List RunStep) → (open_of net memory D).checked ≡ Passed → let r = behind (opened net memory D) ss in
    Open r × (r.net ≡ net) × RunOf net memory D (accepted_of (opened net memory D) ss) r.run

-- "closing writes the card of the accepted steps and no other": the run that is read from it has these steps, and what was still waited is in its rest
abbrev pub ClosingWrites : Type 0
ClosingWrites =
    (net : Net) (memory : Memory) (D : ℕ) (ss : List RunStep) (w : ℕ) (bytes : List ℕ) → (open_of net memory D).checked ≡ Passed
    → let r = behind (opened net memory D) ss in close_of r w ≡ answer bytes
    → (q : Run) × (read_run net bytes ≡ found (wait_added q w) (length bytes)) × RunOf net memory D (accepted_of (opened net memory D) ss) q

-- ---- the calls
-- "they read as if it closed there with rest 0": as the replay and the timetable of the card that would be written, which there is
abbrev pub CallsAsClosed : Type 0
CallsAsClosed =
    (r : OpenRun) → Open r
    → (bytes : List ℕ) × (close_of r 0 ≡ answer bytes) × (state_of r ≡ replay_cards (net_card.text r.net ++ bytes))
    × ((q : Run) (next : ℕ) → read_run r.net bytes ≡ found q next
    → OrderIn q (order_so_far q) × (timetable_now r ≡ timetable_cards (input_of order_card r.net (order_so_far q))))

-- "its end marking, its clocks": those of the published semantics, where the run has come to
abbrev pub StatePublished : Type 0
StatePublished =
    (r : OpenRun) (end : Timed) → Open r → Allowed r.net (rule_for r.net r.run.memory) r.run.denominator (firings_of r.run) r.run.rest end
    → state_of r ≡ answer (end_text r.net end)

-- the timetable of an open run is never refused: an accepted run is a timing
abbrev pub NeverUntimable : Type 0
NeverUntimable = (r : OpenRun) → Open r → Answered (timetable_now r)

-- ---- over cards
-- the two cards of an open record are that record; 15 is told of cards that are not accepted, and of no others
abbrev pub RecordAsCards : Type 0
RecordAsCards =
    (r : OpenRun) → Open r → let s = input_of run_card r.net r.run in
    ((w : ℕ) → wait_cards s w ≡ card_after (wait_of r w))
    × ((t : ℕ) → fire_cards s t ≡ card_after (fire_of r t))
    × ((w : ℕ) → close_cards s w ≡ close_of r w)
    × (state_cards s ≡ state_of r)
    × (timetable_now_cards s ≡ timetable_now r)

abbrev pub CardsClosedExactly : Type 0
CardsClosedExactly =
    (s : List ℕ)
    → ((w : ℕ) → (wait_cards s w ≡ refusal ClosedRun) ↔ (Answered (replay_cards s) → ⊥))
    × ((t : ℕ) → (fire_cards s t ≡ refusal ClosedRun) ↔ (Answered (replay_cards s) → ⊥))
    × ((w : ℕ) → (close_cards s w ≡ refusal ClosedRun) ↔ (Answered (replay_cards s) → ⊥))
    × ((state_cards s ≡ refusal ClosedRun) ↔ (Answered (replay_cards s) → ⊥))
    × ((timetable_now_cards s ≡ refusal ClosedRun) ↔ (Answered (replay_cards s) → ⊥))

-- the cards that an accepted step writes stand for the record behind it
abbrev pub CardsGoOn : Type 0
CardsGoOn =
    (s : List ℕ) (net : Net) (q : Run) (next : ℕ) (bytes : List ℕ) → run_cards s ≡ found (net, q) next
    → let r : OpenRun = record { net = net; run = q; running = true } in
    ((w : ℕ) → wait_cards s w ≡ answer bytes → run_cards (net_card.text net ++ bytes) ≡ found (net, wait_added q w) (length (net_card.text net ++ bytes)))
    × ((t : ℕ) → fire_cards s t ≡ answer bytes → run_cards (net_card.text net ++ bytes) ≡ found (net, fire_added q t) (length (net_card.text net ++ bytes)))

-- opening over cards: what is read opens, and is refused as the values are
abbrev pub OpenOfCards : Type 0
OpenOfCards =
    ((s : List ℕ) (e : Refusal) → opening_cards s ≡ refused e → open_cards s ≡ refusal e)
    × ((s : List ℕ) (net : Net) (sheet : ℕ) (memory : Memory) (D next : ℕ) → opening_cards s ≡ found (net, (sheet, (memory, D))) next
    → ((open_of net memory D).checked ≡ Passed) × (open_cards s ≡ card_after (open_of net memory D))
    × (run_cards (net_card.text net ++ card_for (opened net memory D))
    ≡ found (net, (opened net memory D).run) (length (net_card.text net ++ card_for (opened net memory D)))))

-- ---- what demands 1 and 2 ask of every operation
abbrev pub OpenReplies : Type 0
OpenReplies =
    ((r : OpenRun) → ((w : ℕ) → Demanded (close_of r w)) × Demanded (state_of r) × Demanded (timetable_now r))
    × ((s : List ℕ) → Demanded (open_cards s) × ((w : ℕ) → Demanded (wait_cards s w)) × ((t : ℕ) → Demanded (fire_cards s t))
    × ((w : ℕ) → Demanded (close_cards s w)) × Demanded (state_cards s) × Demanded (timetable_now_cards s))

-- the first 14,035 bytes of an input decide
abbrev pub OpenPrefix : Type 0
OpenPrefix =
    (s : List ℕ) (k : ℕ) → 14035 ≤ k
    → (open_cards (take k s) ≡ open_cards s)
    × ((w : ℕ) → wait_cards (take k s) w ≡ wait_cards s w)
    × ((t : ℕ) → fire_cards (take k s) t ≡ fire_cards s t)
    × ((w : ℕ) → close_cards (take k s) w ≡ close_cards s w)
    × (state_cards (take k s) ≡ state_cards s)
    × (timetable_now_cards (take k s) ≡ timetable_now_cards s)

-- slots past a net's counts are no part of it
abbrev pub OpenSlots : Type 0
OpenSlots =
    (a b : Net) (q : Run) (running : _) → SameNet a b
    → let x : OpenRun = record { net = a; run = q; running = running } in
    let y : OpenRun = record { net = b; run = q; running = running } in
    (still x ≡ still y)
    × ((w : ℕ) → (wait_of x w).checked ≡ (wait_of y w).checked)
    × ((t : ℕ) → (fire_of x t).checked ≡ (fire_of y t).checked)
    × ((w : ℕ) → close_of x w ≡ close_of y w)
    × (state_of x ≡ state_of y)
    × (timetable_now x ≡ timetable_now y)
