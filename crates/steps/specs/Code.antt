-- What the functions go by and compute: a step's net, the tokens moved, and the restarts, found from the places that a firing gives to.
use Rattle.std.specs.Prelude.{ℕ, min, Bool, false, cond, not, ◌&&◌, ◌||◌, List, ◌==◌, nat_lt, slice_index, slice_index_or, Option, Some, None}
use Rattle.laws.specs.Tests.{any_below}
use Rattle.laws.specs.Arrays.{filled}
use Rattle.firing.specs.Semantics.{Arcs, takes, gives, enough, taken, after}
use Rattle.firing.specs.Replay.{limited}
use Rattle.steps.specs.declared.Terms.{Terms}
use Rattle.steps.specs.declared.Moved.{Moved}

-- the net of a step: the counts of its terms, within the arrays, and the weights
abbrev pub arcs_in : Terms → Arcs
arcs_in terms = record { places = min terms.places 16; transitions = min terms.transitions 32; take = terms.take.now; give = terms.give.now }

-- the tokens of an enabled transition moved, if no place passes 255
unfoldable pub moved : Arcs → List ℕ → ℕ → Option Moved
moved a m t = cond (limited a m t) (Some (record { middle = taken a m t; later = after a m t })) None

-- place p is given to by t, and a marking has less there than u takes
abbrev pub short_at : Arcs → List ℕ → ℕ → ℕ → ℕ → Bool
short_at a looked t u p = not (gives a t p == 0) && nat_lt (slice_index looked p) (takes a u p)

-- so it is at some place
unfoldable pub short : Arcs → List ℕ → ℕ → ℕ → Bool
short a looked t u = any_below (short_at a looked t u) a.places

-- the instants of the last restarts, when those that are marked and enabled have restarted
unfoldable pub restarted : Arcs → List ℕ → List Bool → ℕ → List ℕ → List ℕ
restarted a later marks instant since =
    filled (λ u. cond (slice_index_or marks u false && enough a.take a.places later u) instant (slice_index since u)) a.transitions since

-- the same, when those that were short somewhere have and, if the fired one restarts as such, t
unfoldable pub renewed_by : Arcs → Bool → List ℕ → List ℕ → ℕ → ℕ → List ℕ → List ℕ
renewed_by a again looked later t instant since =
    filled (λ u. cond (enough a.take a.places later u && (short a looked t u || (again && u == t))) instant (slice_index since u)) a.transitions since
