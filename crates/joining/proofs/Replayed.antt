-- Nets side by side in a third: a run of that net is accepted exactly if its two sides are, and its end marking is theirs side by side.
use Prim.Native.Nat.{ℕ, ◌+◌, ◌-◌, ◌≤◌, ◌<◌}
use native.Mathlib.Nat.{zero-add}
use native.Mathlib.Omega.{arith}
use native.Mathlib.Decide.{dec_lt}
use mathlib.Core.Path.{◌≡◌, refl, sym, ap, ◌∙◌}
use mathlib.Core.Logic.{◌↔◌}
use mathlib.Core.List.{List, ◌++◌}
use mathlib.Core.Option.{Option}
use lib.ListN.{length, get_or, length-append, get_or-append}
use lib.Seq.{ext_get_or, get_or-append-add}
use Rattle.laws.specs.Each.{Each, each_map}
use Rattle.laws.specs.Slots.{first_of, length_first, get_d_first}
use Rattle.reply.specs.Respond.{Passed}
use Rattle.net.specs.declared.Net.{Net}
use Rattle.run.specs.declared.Firing.{Firing}
use Rattle.run.specs.declared.Run.{Run}
use Rattle.run.specs.Run.{firings_of}
use Rattle.firing.specs.declared.Played.{Played}
use Rattle.firing.specs.Semantics.{arcs_of, Restart, Timed, rule_of, Bounded}
use Rattle.firing.specs.Replay.{start_state, waited, play, rested, replay}
use Rattle.firing.specs.Claims.{view}
use Rattle.firing.proofs.Accept.{replay_plays, start_at, start_since, start_sound, same_end}
use Rattle.firing.proofs.Rules.{rule_restarting}
use Rattle.operations.specs.Demands.{Allows}
use Rattle.operations.proofs.Demands.{allowed_exactly}
use Rattle.joining.specs.Interleaving.{of_first, of_second, side_from, waited_from, side_of, first_side, second_side}
use Rattle.joining.specs.Request.{EndsAt, tokens_at}
use Rattle.joining.proofs.Embedded.{Embeds, SameTokens}
use Rattle.joining.proofs.Beside.{Beside, Together, sides}
use Rattle.joining.proofs.Sides.{side_firings}

-- a and b lie side by side in j, with their tokens at the start, and no place has too many
pub record SideBySide (a b j : Net) : Type 0 where
  pub first : Embeds a j 0 0
  pub second : Embeds b j a.places a.transitions
  pub places : j.places ≡ a.places + b.places
  pub transitions : j.transitions ≡ a.transitions + b.transitions
  pub first_start : SameTokens a 0 j.start a.start
  pub second_start : SameTokens b a.places j.start b.start
  pub few : (p : ℕ) → p < j.places → get_or j.start p 0 ≤ 255

-- the run is accepted under its memory word, and the tokens of the places at its end
abbrev pub Accepted : Net → Run → Type 0
Accepted net r = (replay net (rule_of (arcs_of net) r.memory) r).checked ≡ Passed

abbrev pub end_tokens : Net → Run → List ℕ
end_tokens net r = first_of net.places 0 (replay net (rule_of (arcs_of net) r.memory) r).state.marking

-- ---- the replay of a side
module _ (own : ℕ → Option ℕ) (sheet : ℕ) (r : Run) where
  -- it plays the firings of the side, under the same memory word and denominator
  module _ (net : Net) where
    abbrev mine : Played
    mine = play net (rule_of (arcs_of net) r.memory) r.denominator (side_from own 0 (firings_of r)) (start_state net) 0

    side_replay : replay net (rule_of (arcs_of net) (side_of own sheet r).memory) (side_of own sheet r) ≡ rested (side_of own sheet r).rest mine
    unfolding replay side_of
    side_replay =
        ap (λ (fs : List Firing). rested (side_of own sheet r).rest (play net (rule_of (arcs_of net) r.memory) r.denominator fs (start_state net) 0))
        (side_firings own sheet r)

    side_checked : (replay net (rule_of (arcs_of net) (side_of own sheet r).memory) (side_of own sheet r)).checked ≡ mine.checked
    side_checked = ap (λ (p : Played). p.checked) side_replay

    side_marking : (replay net (rule_of (arcs_of net) (side_of own sheet r).memory) (side_of own sheet r)).state.marking ≡ mine.state.marking
    unfolding waited
    side_marking = ap (λ (p : Played). p.state.marking) side_replay

-- the tokens at an end in the published semantics are those of the replay
pub end_tokens_lem : (net : Net) (r : Run) (end : Timed) → EndsAt net r end → tokens_at net end ≡ end_tokens net r
end_tokens_lem net r end e =
    ap (first_of net.places 0) (same_end net (rule_of (arcs_of net) r.memory) r (rule_restarting net r.memory) end e).same_marking

-- the rest changes no marking
replay_marking : (net : Net) (restarts : Restart) (r : Run)
    → (replay net restarts r).state.marking ≡ (play net restarts r.denominator (firings_of r) (start_state net) 0).state.marking
unfolding replay waited
replay_marking net restarts r = refl

-- ---- the start
start_beside : {c j : Net} {P T : ℕ} → Embeds c j P T → SameTokens c P j.start c.start → Beside c P T (start_state j) (start_state c) 0
unfolding start_state
start_beside {c} {j} {P} {T} em same =
    record {
      whole = start_sound j;
      part = start_sound c;
      tokens = λ p b. start_at j (P + p) (omega arith) ∙ same p b ∙ sym (start_at c p (omega arith));
      restarted = λ u k. start_since j (T + u) ∙ sym (start_since c u);
      behind = omega arith;
    }

-- the first slots of a list hold those of two others, one behind the other
first_both : (all n k : ℕ) (m x y : List ℕ) → all ≡ n + k → ((p : ℕ) → p < n → get_or m (0 + p) 0 ≡ get_or x p 0)
    → ((p : ℕ) → p < k → get_or m (n + p) 0 ≡ get_or y p 0) → first_of all 0 m ≡ first_of n 0 x ++ first_of k 0 y
first_both all n k m x y is front back =
    ext_get_or 0 (first_of all 0 m) both (omega (arith, length_first all 0 m, length-append (first_of n 0 x) (first_of k 0 y), long, length_first k 0 y))
    (λ i l. let b : i < all = omega (arith, length_first all 0 m) in get_d_first all 0 m i b ∙ at i b (dec_lt i n))
  where
    both : List ℕ
    both = first_of n 0 x ++ first_of k 0 y

    long : length (first_of n 0 x) ≡ n
    long = length_first n 0 x

    behind : (q : ℕ) → q < k → get_or m (n + q) 0 ≡ get_or both (n + q) 0
    behind q l =
        back q l ∙ sym (get_d_first k 0 y q l) ∙ sym (get_or-append-add (first_of n 0 x) (first_of k 0 y) q 0)
        ∙ ap (λ (t : ℕ). get_or both (t + q) 0) long

    at : (i : ℕ) → i < all → Dec (i < n) → get_or m i 0 ≡ get_or both i 0
    at i b (yes l) =
        ap (λ (t : ℕ). get_or m t 0) (sym (zero-add i)) ∙ front i l ∙ sym (get_d_first n 0 x i l)
        ∙ sym (get_or-append (first_of n 0 x) (first_of k 0 y) 0 i (omega (arith, long)))
    at i b (no l) = let e : n + (i - n) ≡ i = omega arith in rw e at (behind (i - n) (omega arith))

-- ---- whole runs
module _ {a b j : Net} (h : SideBySide a b j) (r : Run) (listed : Each (λ (f : Firing). f.fire < j.transitions) (firings_of r)) where
  abbrev play_of : Net → List Firing → Played
  play_of net fs = play net (rule_of (arcs_of net) r.memory) r.denominator fs (start_state net) 0

  abbrev first : ℕ → Option ℕ
  first = of_first a.transitions

  abbrev second : ℕ → Option ℕ
  second = of_second a.transitions

  start_bounded : Bounded j (view (start_state j))
  unfolding start_state
  start_bounded p l = rw (start_at j p l) (h.few p (omega arith))

  together : Together a 0 0 b a.places a.transitions (play_of j (firings_of r)) (play_of a (side_from first 0 (firings_of r)))
      (play_of b (side_from second 0 (firings_of r))) (waited_from first 0 (firings_of r)) (waited_from second 0 (firings_of r))
  together =
      sides r.memory r.denominator h.first h.second (firings_of r)
      (each_map (λ (f : Firing) (l : f.fire < j.transitions). omega (arith, h.transitions)) (firings_of r) listed)
      (start_state j) (start_state a) (start_state b) 0 0 0 0 0
      (start_beside h.first h.first_start) (start_beside h.second h.second_start) start_bounded

  -- the run is accepted exactly if both sides are
  pub accepted_sides : Accepted j r ↔ (Accepted a (first_side a r) × Accepted b (second_side a b r))
  accepted_sides =
      rw (replay_plays j (rule_of (arcs_of j) r.memory) r, side_checked first a.sheet r a, side_checked second b.sheet r b) together.exactly

  -- and then its end marking is theirs side by side
  pub joined_tokens : Accepted j r → end_tokens j r ≡ end_tokens a (first_side a r) ++ end_tokens b (second_side a b r)
  joined_tokens e =
      let done = sym (replay_plays j (rule_of (arcs_of j) r.memory) r) ∙ e in
      rw (replay_marking j (rule_of (arcs_of j) r.memory) r, side_marking first a.sheet r a, side_marking second b.sheet r b)
      (first_both j.places a.places b.places (play_of j (firings_of r)).state.marking (play_of a (side_from first 0 (firings_of r))).state.marking
      (play_of b (side_from second 0 (firings_of r))).state.marking h.places (together.mine_beside done).tokens (together.others_beside done).tokens)

  -- ---- in the published semantics
  pub allows_sides : Allows j r ↔ (Allows a (first_side a r) × Allows b (second_side a b r))
  allows_sides =
      let whole = allowed_exactly j r in
      let front = allowed_exactly a (first_side a r) in
      let back = allowed_exactly b (second_side a b r) in (
        λ e. let k = accepted_sides.0 (whole.1 e) in (front.0 k.0, back.0 k.1),
        λ e. whole.0 (accepted_sides.1 (front.1 e.0, back.1 e.1)),
      )

  pub joined_ends : (end end-a end-b : Timed) → EndsAt j r end → EndsAt a (first_side a r) end-a → EndsAt b (second_side a b r) end-b
      → tokens_at j end ≡ tokens_at a end-a ++ tokens_at b end-b
  joined_ends end end-a end-b x y z =
      rw (end_tokens_lem j r end x, end_tokens_lem a (first_side a r) end-a y, end_tokens_lem b (second_side a b r) end-b z)
      (joined_tokens ((allowed_exactly j r).1 (end, x)))
