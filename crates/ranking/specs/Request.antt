-- Document 02, "Ranking two answers", as statements, each under its sentence; proofs/Request.antt proves each of them under the same name in small letters.
use Rattle.std.specs.Prelude.{ℕ, ◌≤◌, ◌≡◌, ◌↔◌, ◌⊎◌, List, ◌++◌, length, take, ℤ, pos, negsuc, neg_ℤ, Err}
use Rattle.reply.specs.declared.Refusal.{Refusal}
use Rattle.reply.specs.declared.Refusal.TheVariants.{OtherOrder, AnotherSheet}
use Rattle.reply.specs.Respond.{answer, refusal, Answered, Passed}
use Rattle.reply.specs.Demanded.{Demanded}
use Rattle.form.specs.Form.{found, refused}
use Rattle.form.specs.Sheet.{sheet}
use Rattle.net.specs.declared.Net.{Net}
use Rattle.net.specs.Net.{net_card}
use Rattle.net.specs.Same.{SameNet, writable_net}
use Rattle.run.specs.declared.Run.{Run}
use Rattle.run.specs.declared.Order.{Order}
use Rattle.run.specs.Run.{run_card, firings_of, fires_of, order_of}
use Rattle.run.specs.Same.{SameRun, writable_run}
use Rattle.firing.specs.Semantics.{Restart}
use Rattle.firing.specs.Replay.{replay}
use Rattle.cards.specs.Cards.{card_of, read_run, two_runs, run_checked, order_checked, two_runs_checked, two_runs_input}
use Rattle.cards.specs.Claims.{OnAnotherSheet, SecondOnAnother}
use Rattle.operations.specs.Timetable.{timetable_by, timetable_values}
use Rattle.operations.specs.Demands.{Allows}
use Rattle.operations.specs.Requests.{Elsewhere}
use Rattle.operations.specs.Replay.{replayed}
use Rattle.ranking.specs.Lead.{lead_at, sign_of}
use Rattle.ranking.specs.Claims.{OfOneOrder, Before, Level}
use Rattle.ranking.specs.Ranking.{Ranked, rank_values, printed, rank_cards}

-- "Tutors rank runs of one order on one net": exactly those that pass their checks, that the published semantics allows and that are of one order
abbrev pub RankedExactly : Type 0
RankedExactly =
    ((net : Net) (x y : Run) → ((rank : ℤ) × (lead : ℤ) × (rank_values net x y ≡ Ranked rank lead))
    ↔ ((two_runs_checked net x y ≡ Passed) × Allows net x × Allows net y × OfOneOrder x y))
    × ((s : List ℕ) → Answered (rank_cards s)
    ↔ ((net : Net) × (x : Run) × (y : Run) × (two_runs s ≡ found (net, (x, y)) (length s)) × Allows net x × Allows net y × OfOneOrder x y))

-- "Run X stands before run Y if .." (`Before`). "Return −1, 0 or 1"
abbrev pub RankExactly : Type 0
RankExactly =
    (net : Net) (x y : Run) (rank lead : ℤ) → rank_values net x y ≡ Ranked rank lead
    → ((rank ≡ negsuc 0) ↔ Before x y) × ((rank ≡ pos 0) ↔ Level x y) × ((rank ≡ pos 1) ↔ Before y x)

-- "and the signed lead of X over Y at the deciding instant, negative when X is earlier .. ; 0 on a tie"
abbrev pub LeadDeciding : Type 0
LeadDeciding =
    (net : Net) (x y : Run) (rank lead : ℤ) → rank_values net x y ≡ Ranked rank lead
    → ((b : Before x y) → lead ≡ lead_at x y b.at) × ((b : Before y x) → lead ≡ lead_at x y b.at) × ((lead ≡ pos 0) ↔ Level x y) × (rank ≡ sign_of lead)

-- "Rankings are total": of two runs of one order one stands before the other or they are level, and only one of the three
abbrev pub Total : Type 0
Total = (x y : Run) → OfOneOrder x y → (Before x y ⊎ Level x y ⊎ Before y x) × (Before x y → Before y x → ⊥) × (Before x y → Level x y → ⊥)

-- exchanged, both answers have the other sign
abbrev pub Antisymmetric : Type 0
Antisymmetric = (net : Net) (x y : Run) (rank lead : ℤ) → rank_values net x y ≡ Ranked rank lead → rank_values net y x ≡ Ranked (neg_ℤ rank) (neg_ℤ lead)

-- ".. and transitive", ties included, whatever the three denominators: a is the rank of X among X and Y, b that of Y among Y and Z, c that of X among X and Z
pub record Carried (a b c : ℤ) : Type 0 where
  pub not_after : (a ≡ pos 1 → ⊥) → (b ≡ pos 1 → ⊥) → c ≡ pos 1 → ⊥
  pub before_first : a ≡ negsuc 0 → (b ≡ pos 1 → ⊥) → c ≡ negsuc 0
  pub before_second : (a ≡ pos 1 → ⊥) → b ≡ negsuc 0 → c ≡ negsuc 0
  pub level : a ≡ pos 0 → b ≡ pos 0 → c ≡ pos 0

abbrev pub Transitive : Type 0
Transitive =
    (net : Net) (x y z : Run) (a b ab bc : ℤ) → rank_values net x y ≡ Ranked a ab → rank_values net y z ≡ Ranked b bc
    → (c : ℤ) × (ac : ℤ) × (rank_values net x z ≡ Ranked c ac) × Carried a b c

-- "a timetable never ranks after another run of its order", whatever that run's denominator and rest: for any restart rule, and of the operations
abbrev pub TimetableFirst : Type 0
TimetableFirst =
    ((net : Net) (restarts : Restart) (o : Order) (bytes : List ℕ) (r t : Run) → order_checked net o ≡ Passed
    → timetable_by net restarts o ≡ answer bytes → read_run net bytes ≡ found t (length bytes) → run_checked net r ≡ Passed
    → (replay net restarts r).checked ≡ Passed → order_of (firings_of r) ≡ fires_of o → Before r t → ⊥)
    × ((net : Net) (o : Order) (bytes : List ℕ) (t r : Run) (rank lead : ℤ) → timetable_values net o ≡ answer bytes
    → read_run net bytes ≡ found t (length bytes)
    → (rank_values net t r ≡ Ranked rank lead → rank ≡ pos 1 → ⊥) × (rank_values net r t ≡ Ranked rank lead → rank ≡ negsuc 0 → ⊥))

-- "both are read, then replayed, X before Y; a different memory or order of firings is refused after both replays as 10"
abbrev pub RefusedInOrder : Type 0
RefusedInOrder =
    ((net : Net) (x y : Run) (e : Refusal) → two_runs_checked net x y ≡ Err e → rank_values net x y ≡ Err e)
    × ((net : Net) (x y : Run) → two_runs_checked net x y ≡ Passed
    → ((e : Refusal) → replayed net x ≡ Err e → rank_values net x y ≡ Err e)
    × ((e : Refusal) → Allows net x → replayed net y ≡ Err e → rank_values net x y ≡ Err e)
    × ((rank_values net x y ≡ Err OtherOrder) ↔ (Allows net x × Allows net y × (OfOneOrder x y → ⊥))))

-- over cards it is the same, in front of the printing; and values are ranked as their cards
abbrev pub RankOfCards : Type 0
RankOfCards =
    ((s : List ℕ) (e : Refusal) → two_runs s ≡ refused e → rank_cards s ≡ refusal e)
    × ((s : List ℕ) (net : Net) (x y : Run) (next : ℕ) → two_runs s ≡ found (net, (x, y)) next → rank_cards s ≡ printed (rank_values net x y))

abbrev pub RankAsCards : Type 0
RankAsCards = (net : Net) (x y : Run) → printed (rank_values net x y) ≡ rank_cards (two_runs_input (writable_net net) (writable_run x) (writable_run y))

-- ---- document 02, Q-3: runs that are ranked are on their net's sheet
abbrev pub RankedSheet : Type 0
RankedSheet = (net : Net) (x y : Run) (rank lead : ℤ) → rank_values net x y ≡ Ranked rank lead → (x.sheet ≡ net.sheet) × (y.sheet ≡ net.sheet)

-- another sheet is 11 at line 1: X's before Y is looked at, Y's before any replay; over cards whatever stands behind the line
abbrev pub RankWrongSheet : Type 0
RankWrongSheet =
    (net : Net) → net_card.check net 1 ≡ Passed
    → ((x y : Run) → x.sheet ≤ 9999 → (x.sheet ≡ net.sheet → ⊥) → rank_values net x y ≡ Err (AnotherSheet 1))
    × ((x y : Run) → run_checked net x ≡ Passed → y.sheet ≤ 9999 → (y.sheet ≡ net.sheet → ⊥) → rank_values net x y ≡ Err (AnotherSheet 1))
    × ((n : ℕ) → n ≤ 9999 → (n ≡ net.sheet → ⊥) → (rest : List ℕ) → let line = sheet.text n ++ rest in
    (rank_cards (net_card.text net ++ line) ≡ refusal (AnotherSheet 1))
    × ((x : Run) → (card_of run_card net).check x 1 ≡ Passed
    → rank_cards (net_card.text net ++ ((card_of run_card net).text x ++ line)) ≡ refusal (AnotherSheet 1)))

-- and it is told of nothing else
abbrev pub RankWrongSheetExactly : Type 0
RankWrongSheetExactly =
    ((net : Net) (x y : Run) → (rank_values net x y ≡ Err (AnotherSheet 1))
    ↔ (Elsewhere net x.sheet ⊎ ((run_checked net x ≡ Passed) × Elsewhere net y.sheet)))
    × ((s : List ℕ) → (rank_cards s ≡ refusal (AnotherSheet 1)) ↔ (OnAnotherSheet s ⊎ SecondOnAnother s))

-- ---- what demands 1 and 2 ask of every operation
abbrev pub RankReplies : Type 0
RankReplies = (s : List ℕ) → Demanded (rank_cards s)

abbrev pub RankSlots : Type 0
RankSlots = (a b : Net) (x y p q : Run) → SameNet a b → SameRun x p → SameRun y q → rank_values a x y ≡ rank_values b p q

-- the first 16,046 bytes of an input decide
abbrev pub RankPrefix : Type 0
RankPrefix = (s : List ℕ) (k : ℕ) → 16046 ≤ k → rank_cards (take k s) ≡ rank_cards s

-- reading the three cards and writing them again gives back their bytes, and writing them and reading gives back the same values
abbrev pub TwoRunsInverse : Type 0
TwoRunsInverse =
    ((s : List ℕ) (net : Net) (x y : Run) (next : ℕ) → two_runs s ≡ found (net, (x, y)) next → two_runs_input net x y ≡ s)
    × ((net : Net) (x y : Run) → two_runs_checked net x y ≡ Passed
    → (n : Net) × (p : Run) × (q : Run) × (two_runs (two_runs_input net x y) ≡ found (n, (p, q)) (length (two_runs_input net x y)))
    × SameNet n net × SameRun p x × SameRun q y)
