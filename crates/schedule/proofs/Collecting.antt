-- The loop over an order's firings: the slots passed hold their windows, and the firings that are left come to the verdict and the windows that the whole
-- order has left. A step at instants that count firings, within the interval that every clock is within, is judged by its tokens alone.
use Rattle.reply.specs.Respond.{Checked, Passed}
use Rattle.std.specs.Prelude.{Ok, Err}
use Prim.Native.Nat.{ℕ, ◌+◌, ◌-◌, ◌≤◌, ◌<◌, min}
use native.Mathlib.Nat.{mul-zero, min-le_right}
use native.Mathlib.Numerals.{add-one}
use native.Mathlib.Omega.{arith}
use mathlib.Core.Path.{◌≡◌, refl, sym, ap, ◌∙◌, subst}
use mathlib.Core.Bool.{true, cond}
use mathlib.Core.List.{List, ◌∷◌}
use lib.ListN.{length, get_or, set, take, drop, replicate, length-replicate, drop_of_length-le, get_or-eq_default}
use Rattle.std.proofs.lemmas.List.{set-get_or}
use lib.Seq.{drop-cons, take_all, length-take-le}
use Rattle.laws.specs.Arrays.{length_filled}
use Rattle.laws.specs.Slots.{pad_to, length_first, pad_next, first_next, get_d_padded}
use Rattle.reply.specs.declared.Refusal.{Refusal}
use Rattle.net.specs.declared.Net.{Net}
use Rattle.net.specs.Net.{no_transition}
use Rattle.run.specs.declared.Order.{Order}
use Rattle.run.specs.Run.{fires_of}
use Rattle.firing.specs.declared.State.{State}
use Rattle.firing.specs.declared.Attempt.{Attempt}
use Rattle.firing.specs.Semantics.{arcs_of, Restart, after, rule_of, start_marking}
use Rattle.firing.specs.Replay.{start_state, waited, timely, judged_by, renewed, fired}
use Rattle.firing.specs.Step.{Stepped, settled, stepped}
use Rattle.firing.specs.Tokens.{tokens_judged, tokens}
use Rattle.firing.proofs.Clocks.{timely_true}
use Rattle.timing.specs.declared.Window.{Window}
use Rattle.timing.specs.Windows.{no_window, window_at, windows_from, windows_of}
use Rattle.timing.proofs.Meet.{length_windows}
use Rattle.schedule.specs.Collect.{collected}

-- firing number n, of t, at instant n, which no interval forbids
abbrev pub free_attempt : ℕ → ℕ → Attempt
free_attempt t n = record { t = t; interval = no_transition; instant = n; number = n }

free_timely : (D clock : ℕ) → timely no_transition D clock ≡ true
free_timely D clock = (timely_true no_transition D clock).1 (rw (mul-zero D) (omega arith), tt)

free_judged : (net : Net) (D clock : ℕ) (m : List ℕ) (t n : ℕ) → judged_by (arcs_of net) no_transition D m clock t n ≡ tokens_judged net m t n
unfolding judged_by tokens_judged
free_judged net D clock m t n = rw (free_timely D clock) refl

free_stepped : (net : Net) (restarts : Restart) (m since : List ℕ) (t n : ℕ) → stepped (arcs_of net) restarts 1 (free_attempt t n) m since
    ≡ settled (tokens_judged net m t n) m since (after (arcs_of net) m t) (renewed (arcs_of net) restarts m since t n)
unfolding stepped
free_stepped net restarts m since t n = rw (free_judged net 1 (n - get_or since t 0) m t n) refl

-- what a step says is its judgement, and one that passes has moved the tokens and the restarts
settled_says : (c : Checked) (m since m' since' : List ℕ) → (settled c m since m' since').checked ≡ c
settled_says Passed m since m' since' = refl
settled_says (Err r) m since m' since' = refl

settled_passed : (c : Checked) (m since m' since' : List ℕ) → c ≡ Passed
    → settled c m since m' since' ≡ record { checked = Passed; marking = m'; since = since' }
settled_passed c m since m' since' e = rw e refl

-- the state of an order after i firings
abbrev pub state_after : List ℕ → List ℕ → ℕ → State
state_after m since i = record { marking = m; since = since; now = i }

module _ (net : Net) (o : Order) where
  abbrev rule : Restart
  rule = rule_of (arcs_of net) o.memory

  abbrev fires : List ℕ
  fires = fires_of o

  abbrev all : List Window
  all = windows_of net rule fires

  pub record Collecting (windows : List Window) (m since : List ℕ) (i : ℕ) : Type 0 where
    pub within : i ≤ min o.count 64
    pub verdict : tokens net fires (start_marking net) 0 ≡ tokens net (drop i fires) m i
    pub left : drop i all ≡ windows_from net rule (drop i fires) (state_after m since i)
    pub stored : windows ≡ pad_to 64 no_window (take i all)
    pub clocks : length since ≡ 32

  pub collecting_start : {m : List ℕ} → m ≡ start_marking net → Collecting (replicate 64 no_window) m (replicate 32 0) 0
  unfolding windows_of start_state
  collecting_start e = record { within = omega arith; verdict = rw e refl; left = rw e refl; stored = refl; clocks = length-replicate {A = ℕ} 32 0 }

  few : length fires ≡ min o.count 64
  unfolding fires_of
  few = length_first (min o.count 64) 0 o.fires

  many : length all ≡ min o.count 64
  unfolding windows_of
  many = length_windows net rule fires (start_state net) ∙ few

  module _ {windows : List Window} {m since : List ℕ} {i : ℕ} (s : Collecting windows m since i) where
    pub collecting_done : min o.count 64 ≤ i → Ok windows ≡ collected net o
    unfolding collected tokens
    collecting_done l =
        let e : tokens net fires (start_marking net) 0 ≡ Passed = s.verdict ∙ rw (drop_of_length-le fires {i = i} (omega (arith, few))) refl in
        let w : windows ≡ pad_to 64 no_window all = s.stored ∙ ap (pad_to 64 no_window) (take_all i all (omega (arith, many))) in
        rw (e, w) refl

    module _ (l : i < min o.count 64) where
      abbrev t : ℕ
      t = get_or o.fires i 0

      abbrev judgement : Checked
      judgement = tokens_judged net m t (i + 1)

      abbrev later : List ℕ
      later = renewed (arcs_of net) rule m since t (i + 1)

      abbrev step : Stepped
      step = stepped (arcs_of net) rule 1 (free_attempt t (i + 1)) m since

      next : drop i fires ≡ t ∷ drop (i + 1) fires
      unfolding fires_of
      next = first_next (min o.count 64) 0 o.fires i l

      module _ {p : Stepped} (e : p ≡ step) where
        judged : p.checked ≡ judgement
        judged = rw (e, free_stepped net rule m since t (i + 1)) (settled_says judgement m since (after (arcs_of net) m t) later)

        pub collecting_refused : {r : Refusal} → p.checked ≡ Err r → Err r ≡ collected net o
        unfolding collected tokens
        collecting_refused {r} q =
            let c : judgement ≡ Err r = sym judged ∙ q in
            let v : tokens net fires (start_marking net) 0 ≡ Err r = s.verdict ∙ rw (next, c) refl in
            rw v refl

        module _ (q : p.checked ≡ Passed) where
          passed : judgement ≡ Passed
          passed = sym judged ∙ q

          moved : p ≡ record { checked = Passed; marking = after (arcs_of net) m t; since = later }
          moved = e ∙ free_stepped net rule m since t (i + 1) ∙ settled_passed judgement m since (after (arcs_of net) m t) later passed

          ahead : get_or all i no_window ∷ drop (i + 1) all
              ≡ window_at net (state_after m since i) t ∷ windows_from net rule (drop (i + 1) fires) (state_after (after (arcs_of net) m t) later (i + 1))
          unfolding windows_from fired waited
          ahead = rw add-one (sym (drop-cons all i no_window (omega (arith, many)))) ∙ s.left ∙ rw next refl

          pub collecting_more : {w : Window} → w ≡ window_at net (state_after m since i) t → Collecting (set windows i w) p.marking p.since (i + 1)
          unfolding tokens renewed
          collecting_more h =
              record {
                within = omega arith;
                verdict = s.verdict ∙ rw (next, passed, moved) refl;
                left = rw moved (ap (drop 1) ahead);
                stored = rw (s.stored, h, ← ap (λ (ws : List Window). get_or ws 0 no_window) ahead)
                    (pad_next 64 no_window all i (omega (arith, many)) (omega (arith, many, min-le_right o.count 64)));
                clocks = rw moved (length_filled (λ u. cond (rule m t u) (i + 1) (get_or since u 0)) since (arcs_of net).transitions ∙ s.clocks);
              }

          -- a firing of no transition leaves the slot as it was
          pub collecting_none : no_window ≡ window_at net (state_after m since i) t → Collecting windows p.marking p.since (i + 1)
          collecting_none h =
              let empty : get_or windows i no_window ≡ no_window =
              rw s.stored
              (get_d_padded (take i all) (64 - length (take i all)) no_window i
              ∙ get_or-eq_default (take i all) no_window {n = i} (omega (arith, length-take-le i all (omega (arith, many))))) in
              let same : set windows i no_window ≡ windows = ap (set windows i) (sym empty) ∙ set-get_or windows i no_window in
              subst (λ (ws : List Window). Collecting ws p.marking p.since (i + 1)) same (collecting_more h)
