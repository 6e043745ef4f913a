-- The least instants that meet the first n windows, by passes over difference constraints.
use Rattle.std.specs.Prelude.{ℕ, zero, suc, ◌+◌, ◌*◌, ◌-◌, max, Bool, true, cond, ◌&&◌, List, [], ◌∷◌, ◌++◌, leb, eqb, get_or, set, replicate}
use Rattle.std.proofs.Math.Option.{Option, none, some}
use Rattle.timing.specs.Timing.{Upper, at_most, below, unbounded, Win}

-- the constraint  S from + add ≤ S to + slack
pub record Edge : Type 0 where
  pub from : ℕ
  pub add : ℕ
  pub to : ℕ
  pub slack : ℕ

-- the constraints of the firing `suc i`, in front of es
abbrev pub upper_edge : ℕ → Upper → ℕ → ℕ → List Edge → List Edge
upper_edge D (at_most b) o k es = record { from = k; add = 0; to = o; slack = D * b } ∷ es
upper_edge D (below b) o k es = record { from = k; add = 1; to = o; slack = D * b } ∷ es
upper_edge D unbounded o k es = es

abbrev pub window_edges : ℕ → ℕ → Win → List Edge → List Edge
window_edges D i w es =
    record { from = i; add = 0; to = suc i; slack = 0 }
    ∷ record { from = w.origin; add = D * w.low; to = suc i; slack = 0 }
    ∷ upper_edge D w.high w.origin (suc i) es

-- the constraints of the first n windows, in front of es
abbrev pub edges : ℕ → (ℕ → Win) → ℕ → List Edge → List Edge
edges D W zero es = es
edges D W (suc i) es = edges D W i (window_edges D i (W i) es)

-- instant i of a list of instants
abbrev pub instant_at : List ℕ → ℕ → ℕ
instant_at x i = get_or x i 0

-- one constraint raises its target as far as it asks
abbrev pub raise : Edge → List ℕ → List ℕ
raise e x = set x e.to (max (instant_at x e.to) (instant_at x e.from + e.add - e.slack))

abbrev pub pass : List Edge → List ℕ → List ℕ
pass [] x = x
pass (e ∷ es) x = pass es (raise e x)

abbrev pub holds : Edge → List ℕ → Bool
holds e x = leb (instant_at x e.from + e.add) (instant_at x e.to + e.slack)

abbrev pub all_hold : List Edge → List ℕ → Bool
all_hold [] x = true
all_hold (e ∷ es) x = holds e x && all_hold es x

-- x starts at 0, and every constraint holds of it
abbrev pub settled : List Edge → List ℕ → Bool
settled es x = eqb (instant_at x 0) 0 && all_hold es x

-- at most m passes from x
abbrev pub climb : ℕ → List Edge → List ℕ → Option (List ℕ)
climb zero es x = cond (settled es x) (some x) none
climb (suc m) es x = let higher = climb m es (pass es x) in cond (settled es x) (some x) higher

abbrev pub solve : ℕ → (ℕ → Win) → ℕ → Option (List ℕ)
solve D W n = climb n (edges D W n []) (replicate (suc n) 0)

-- all windows are met by these instants; or the first k cannot be met together
pub data Verdict : Type 0 where
  met_by : List ℕ → Verdict
  fails_at : ℕ → Verdict

abbrev pub verdict_at : ℕ → Option (List ℕ) → Verdict
verdict_at k (some x) = met_by x
verdict_at k none = fails_at k

-- the windows taken one after the other: each list of least instants is where the passes for one more window start
abbrev pub next_prefix : ℕ → (ℕ → Win) → ℕ → Verdict → Verdict
next_prefix D W n (met_by x) = verdict_at (suc n) (climb (suc n) (edges D W (suc n) []) (x ++ (0 ∷ [])))
next_prefix D W n (fails_at k) = fails_at k

abbrev pub solve_prefixes : ℕ → (ℕ → Win) → ℕ → Verdict
solve_prefixes D W zero = met_by (0 ∷ [])
solve_prefixes D W (suc n) = next_prefix D W n (solve_prefixes D W n)
