-- The cases of document 02, "Sorter and changer on one drawing": one list, and one check that is computed over all of it.
use Rattle.std.specs.Prelude.{ℕ, ◌≡◌, refl, true, List, [], ◌∷◌, ◌++◌, replicate, set, None}
use Rattle.laws.specs.Arrays.{filled}
use Rattle.laws.specs.Slots.{first_of, pad_to}
use Rattle.reply.specs.declared.Refusal.{Refusal}
use Rattle.reply.specs.declared.Refusal.TheVariants.{OutOfRange, BadPairs, UnequalStarts, TooLarge}
use Rattle.reply.specs.Respond.{answer, refusal}
use Rattle.text.specs.Key.{bytes}
use Rattle.text.specs.Decimal.{digits, width, decimal}
use Rattle.form.specs.Form.{texts, lines_of, checks}
use Rattle.form.specs.Line.{items_text, all_ranged}
use Rattle.net.specs.declared.Net.{Net}
use Rattle.net.specs.Net.{take_of, give_of, rows_of}
use Rattle.operations.specs.Starred.{Case, row_for, net_for, net_a, net_b, same_bytes, same_outcome, cases_hold}
use Rattle.joining.specs.Joining.{pairs_of, among, distinct_places, equal_starts, partner, unpaired, own_places, sources, joined_start, joined_rows, join_values}

-- one place, one transition that takes and gives it
net_f : Net
net_f = net_for 9 (1 ∷ []) (row_for 0 None (1 ∷ []) (1 ∷ []) ∷ [])

-- net A with something in the slots past its places and transitions
junk_a : Net
junk_a =
    record {
      sheet = 1;
      places = 2;
      transitions = 2;
      start = pad_to 16 7 (first_of 2 0 net_a.start);
      take = set net_a.take 64 9;
      give = set net_a.give 2 9;
      table = net_a.table;
    }

-- so many places with a token and transitions that take none
plain : ℕ → ℕ → Net
plain places transitions = net_for 3 (replicate places 1) (replicate transitions (row_for 0 None (replicate places 0) (replicate places 0)))

joins : Net → Net → List ℕ → List ℕ → Case
joins a b list text = record { comes_to = join_values a b list; should = answer text }

refuses : Net → Net → List ℕ → Refusal → Case
refuses a b list r = record { comes_to = join_values a b list; should = refusal r }

-- the card of net A beside F
beside_f : List ℕ
beside_f =
    bytes "sheet=1\nplaces=3\ntransitions=3\nstart=1\nstart=1\nstart=1\nearliest=1\nlatest=2\ntake=1,0,0\ngive=1,0,0\n"
    ++ bytes "earliest=3\nlatest=4\ntake=1,1,0\ngive=0,0,0\nearliest=0\nlatest=inf\ntake=0,0,1\ngive=0,0,1\n"

pub joining_cases : List Case
joining_cases =
    joins net_a net_f [] beside_f
    ∷ joins junk_a net_f [] beside_f
    ∷ joins net_a net_b (1 ∷ 2 ∷ [])
    (bytes "sheet=1\nplaces=4\ntransitions=5\nstart=1\nstart=1\nstart=1\nstart=0\nearliest=1\nlatest=2\ntake=1,0,0,0\ngive=1,0,0,0\n"
    ++ bytes "earliest=3\nlatest=4\ntake=1,1,0,0\ngive=0,0,0,0\nearliest=0\nlatest=inf\ntake=0,0,1,0\ngive=0,0,0,1\n"
    ++ bytes "earliest=5\nlatest=5\ntake=0,1,0,0\ngive=0,0,0,0\nearliest=0\nlatest=2\ntake=0,0,0,1\ngive=0,0,0,0\n")
    ∷ refuses net_a net_b (1 ∷ []) BadPairs
    ∷ refuses net_a net_b (2 ∷ 0 ∷ []) BadPairs
    ∷ refuses net_a net_b (0 ∷ 0 ∷ 0 ∷ 2 ∷ []) BadPairs
    ∷ refuses net_a net_b (0 ∷ 0 ∷ 1 ∷ 0 ∷ []) BadPairs
    ∷ refuses net_a net_b (0 ∷ 1 ∷ []) UnequalStarts
    ∷ refuses net_a net_b (0 ∷ 1 ∷ 9 ∷ 0 ∷ []) BadPairs
    ∷ refuses net_a net_b (replicate 40 0) BadPairs
    ∷ refuses (plain 16 1) (plain 1 1) [] TooLarge
    ∷ refuses (plain 1 17) (plain 1 16) [] TooLarge
    ∷ refuses (plain 1 17) (net_for 3 (2 ∷ []) (replicate 16 (row_for 0 None [] []))) (0 ∷ 0 ∷ []) UnequalStarts
    ∷ refuses (plain 17 1) net_a (7 ∷ []) (OutOfRange 2)
    ∷ refuses net_a (plain 1 33) (7 ∷ []) (OutOfRange 3)
    ∷ []

pub joining_hold : cases_hold joining_cases ≡ true
unfolding net_f junk_a plain joins refuses beside_f joining_cases row_for net_for net_a net_b same_bytes same_outcome cases_hold
    filled first_of decimal digits width texts lines_of checks items_text all_ranged take_of give_of rows_of
    pairs_of among distinct_places equal_starts partner unpaired own_places sources joined_start joined_rows
joining_hold = refl
