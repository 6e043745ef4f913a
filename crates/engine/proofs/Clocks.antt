-- The text of a replay's end from the arrays that the code holds.
use Prim.Native.Nat.{ℕ, zero, suc, ◌≤◌, ◌<◌}
use native.Mathlib.Omega.{arith}
use mathlib.Core.Path.{◌≡◌, refl, ◌∙◌}
use mathlib.Core.Bool.{Bool, false}
use mathlib.Core.List.{List}
use lib.ListN.{length, take, get_or, replicate, length-replicate}
use Rattle.std.proofs.lemmas.List.{get_or-take, length-take-le}
use borrow.Author.Tests.{lt-ltb}
use Rattle.laws.specs.Arrays.{filled, filled_at, length_filled}
use Rattle.laws.specs.Writing.{joined}
use Rattle.net.specs.declared.Net.{Net}
use Rattle.firing.specs.declared.State.{State}
use Rattle.firing.specs.Semantics.{arcs_of, enough, enabled}
use Rattle.firing.specs.Replay.{clock_of}
use Rattle.firing.proofs.Clocks.{few_transitions}
use Rattle.firing.specs.Claims.{view}
use Rattle.operations.specs.Replay.{clock_text, clocks_text}
use Rattle.engine.specs.Clocks.{clock_line}

module _ (net : Net) (st : State) {flags : List Bool}
    (are : flags ≡ filled (λ u. enough net.take (arcs_of net).places st.marking u) (arcs_of net).transitions (replicate 32 false)) where
  -- the flags that count
  abbrev counted : List Bool
  counted = take (arcs_of net).transitions flags

  flag_at : (u : ℕ) → u < (arcs_of net).transitions → get_or counted u false ≡ enabled (arcs_of net) st.marking u
  flag_at u l =
      get_or-take (arcs_of net).transitions flags u false l
      ∙ rw (are, lt-ltb u (arcs_of net).transitions l)
      (filled_at (λ u. enough net.take (arcs_of net).places st.marking u) (replicate 32 false) false (arcs_of net).transitions u l
      (omega (arith, few_transitions net, length-replicate 32 false)))

  line_same : (u : ℕ) → u < (arcs_of net).transitions → clock_text net (view st) u ≡ clock_line counted st.since st.now u
  unfolding clock_of
  line_same u l = rw (flag_at u l) refl

  lines_same : (n : ℕ) → n ≤ (arcs_of net).transitions → clocks_text net (view st) n ≡ joined (clock_line counted st.since st.now) n
  unfolding clocks_text joined
  lines_same zero h = refl
  lines_same (suc n) h = rw (lines_same n (omega arith), line_same n h) refl

  all : length flags ≡ 32
  all = rw are (length_filled _ (replicate 32 false) (arcs_of net).transitions ∙ length-replicate 32 false)

  pub clocks_same : clocks_text net (view st) (arcs_of net).transitions ≡ joined (clock_line counted st.since st.now) (length counted)
  clocks_same =
      rw (length-take-le (arcs_of net).transitions flags (omega (arith, few_transitions net, all)))
      (lines_same (arcs_of net).transitions (omega arith))
