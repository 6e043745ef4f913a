-- Document 01, "Cards", and document 02, Q-3: the net card, line by line.
use Rattle.std.specs.Prelude.{ℕ, ◌+◌, ◌*◌, ◌/◌, ◌%◌, true, cond, List, map, length, get_or, drop, replicate, ltb, Err, None, Option, Some}
use Rattle.laws.specs.Arrays.{filled}
use Rattle.reply.specs.declared.Refusal.TheVariants.{LatestBelowEarliest}
use Rattle.reply.specs.Respond.{Outcome, written_if, Checked, Passed}
use Rattle.text.specs.Key.{bytes, begins_with}
use Rattle.text.specs.Number.{field_at}
use Rattle.text.specs.Decimal.{field}
use Rattle.form.specs.Form.{found, and_then, found_if, also, Form, keyed, chain, times, held}
use Rattle.form.specs.Line.{formed, ranged, number, items}
use Rattle.form.specs.Sheet.{sheet}
use Rattle.net.specs.declared.Transition.{Transition}
use Rattle.net.specs.declared.Net.{Net}

-- `latest`: 0 to 1,000 ticks, or the word `inf` for no upper bound; below `earliest` it is 3
abbrev pub latest_checked : ℕ → Option ℕ → ℕ → Checked
latest_checked earliest None line = Passed
latest_checked earliest (Some n) line = also (ranged 0 1000 n line) (cond (ltb n earliest) (Err (LatestBelowEarliest line)) Passed)

abbrev pub latest_text : Option ℕ → List ℕ
latest_text None = bytes "inf\n"
latest_text (Some n) = field n true

abbrev pub latest : ℕ → Form (Option ℕ)
latest earliest =
    record {
      text = latest_text;
      lines = λ l. 1;
      check = latest_checked earliest;
      read = λ s at line.
          cond (begins_with (bytes "inf\n") (drop at s)) (found None (at + length (bytes "inf\n")))
          (and_then (formed line (field_at s at true)) (λ n next. found_if (latest_checked earliest (Some n) line) (Some n) next));
      clean = λ l. l;
    }

-- a transition of a net with so many places: `earliest` (0 to 1,000 ticks), `latest`, `take` and `give` (lists of exactly P weights, 0 to 255)
abbrev pub weights : ℕ → Form (List ℕ × List ℕ)
weights places = chain (keyed (bytes "take=") (items places 16 0 255)) (λ _. keyed (bytes "give=") (items places 16 0 255))

abbrev pub row_lines : ℕ → Form (ℕ × (Option ℕ × (List ℕ × List ℕ)))
row_lines places =
    chain (keyed (bytes "earliest=") (number (ranged 0 1000)))
    (λ earliest. chain (keyed (bytes "latest=") (latest earliest)) (λ _. weights places))

-- what the four lines of a transition say: its interval, and the weights that it takes from and gives to each place
pub record Row : Type 0 where
  pub interval : Transition
  pub take : List ℕ
  pub give : List ℕ

abbrev pub to_row : ℕ × (Option ℕ × (List ℕ × List ℕ)) → Row
to_row v = record { interval = record { earliest = v.0; latest = v.1.0 }; take = v.1.1.0; give = v.1.1.1 }

abbrev pub from_row : Row → ℕ × (Option ℕ × (List ℕ × List ℕ))
from_row t = (t.interval.earliest, (t.interval.latest, (t.take, t.give)))

abbrev pub row : ℕ → Form Row
row places = held to_row from_row (row_lines places)

-- what stands for a transition that is none, and for its lines
abbrev pub no_transition : Transition
no_transition = record { earliest = 0; latest = None }

abbrev pub no_row : Row
no_row = record { interval = no_transition; take = replicate 16 0; give = replicate 16 0 }

-- the lines of a net card: `sheet`, `places` P (1 to 16), `transitions` T (1 to 32), P lines `start` (0 to 255), T transitions
abbrev pub starts : ℕ → Form (List ℕ)
starts places = times places 16 0 (keyed (bytes "start=") (number (ranged 0 255)))

abbrev pub rows : ℕ → ℕ → Form (List Row)
rows places transitions = times transitions 32 no_row (row places)

abbrev pub body : ℕ → ℕ → Form (List ℕ × List Row)
body places transitions = chain (starts places) (λ _. rows places transitions)

abbrev pub counted_lines : Form (ℕ × (ℕ × (List ℕ × List Row)))
counted_lines =
    chain (keyed (bytes "places=") (number (ranged 1 16)))
    (λ places. chain (keyed (bytes "transitions=") (number (ranged 1 32))) (λ transitions. body places transitions))

abbrev pub net_lines : Form (ℕ × (ℕ × (ℕ × (List ℕ × List Row))))
net_lines = chain sheet (λ _. counted_lines)

-- where the weights stand: the tokens that t takes from and gives to place p
abbrev pub takes_in : List ℕ → ℕ → ℕ → ℕ
takes_in take t p = get_or take (32 * p + t) 0

abbrev pub gives_in : List ℕ → ℕ → ℕ → ℕ
gives_in give t p = get_or give (16 * t + p) 0

-- the weights of rows in their arrays
unfoldable pub take_of : List Row → List ℕ
take_of rs = filled (λ i. get_or (get_or rs (i % 32) no_row).take (i / 32) 0) 512 (replicate 512 0)

unfoldable pub give_of : List Row → List ℕ
give_of rs = filled (λ i. get_or (get_or rs (i / 16) no_row).give (i % 16) 0) 512 (replicate 512 0)

-- the row of transition t, and all rows of a net
abbrev pub row_at : Net → ℕ → Row
row_at n t =
    record {
      interval = get_or n.table t no_transition;
      take = filled (takes_in n.take t) 16 (replicate 16 0);
      give = filled (gives_in n.give t) 16 (replicate 16 0);
    }

unfoldable pub rows_of : Net → List Row
rows_of n = filled (row_at n) 32 (replicate 32 no_row)

abbrev pub to_net : ℕ × (ℕ × (ℕ × (List ℕ × List Row))) → Net
to_net v =
    let rs = v.1.1.1.1 in
    record {
      sheet = v.0;
      places = v.1.0;
      transitions = v.1.1.0;
      start = v.1.1.1.0;
      take = take_of rs;
      give = give_of rs;
      table = map (λ (r : Row). r.interval) rs;
    }

abbrev pub from_net : Net → ℕ × (ℕ × (ℕ × (List ℕ × List Row)))
from_net n = (n.sheet, (n.places, (n.transitions, (n.start, rows_of n))))

-- the net card
abbrev pub net_card : Form Net
net_card = held to_net from_net net_lines

-- a net's card, or the refusal that its card would get
abbrev pub net_text : Net → Outcome
net_text n = written_if (net_card.check n 1) (net_card.text n)
