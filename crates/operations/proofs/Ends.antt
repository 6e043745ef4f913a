-- The printed end: a state of the published semantics that the replay's state stands for has the same text, as clocks are printed where enabled only.
use Prim.Native.Nat.{ℕ, zero, suc}
use mathlib.Core.Path.{◌≡◌, refl, ap, ◌∙◌}
use mathlib.Core.Bool.{Bool, true, false, cond}
use mathlib.Core.List.{List, ◌++◌}
use Rattle.laws.specs.Slots.{first_of}
use Rattle.text.specs.Key.{bytes}
use Rattle.text.specs.Decimal.{field}
use Rattle.form.specs.Line.{items_text}
use Rattle.net.specs.declared.Net.{Net}
use Rattle.firing.specs.declared.State.{State}
use Rattle.firing.specs.Semantics.{arcs_of, Timed, enabled}
use Rattle.firing.specs.Claims.{view, Matches}
use Rattle.operations.specs.Replay.{clock_text, clocks_text, end_text}

module _ (net : Net) (S : Timed) (st : State) (m : Matches net S st) where
  -- a clock is printed where its transition is enabled, and there it is the same
  value_same : (u : ℕ) (on : Bool) → enabled (arcs_of net) S.marking u ≡ on
      → cond on (field (S.clock u) true) (bytes "off\n") ≡ cond on (field ((view st).clock u) true) (bytes "off\n")
  value_same u true e = ap (λ (c : ℕ). field c true) (m.same_clocks u e)
  value_same u false e = refl

  line_same : (u : ℕ) → clock_text net S u ≡ clock_text net (view st) u
  line_same u =
      ap (λ (l : List ℕ). bytes "clock=" ++ l)
      (value_same u (enabled (arcs_of net) S.marking u) refl
      ∙ ap (λ (x : List ℕ). cond (enabled (arcs_of net) x u) (field ((view st).clock u) true) (bytes "off\n")) m.same_marking)

  clocks_same : (n : ℕ) → clocks_text net S n ≡ clocks_text net (view st) n
  unfolding clocks_text
  clocks_same zero = refl
  clocks_same (suc u) = rw (clocks_same u, line_same u) refl

  pub end_matches : end_text net S ≡ end_text net (view st)
  end_matches =
      let places = (arcs_of net).places in
      let clocks = clocks_text net S (arcs_of net).transitions in
      ap (λ (x : List ℕ). bytes "end=" ++ items_text (first_of places 0 x) ++ clocks) m.same_marking
      ∙ ap (λ (l : List ℕ). bytes "end=" ++ items_text (first_of places 0 st.marking) ++ l) (clocks_same (arcs_of net).transitions)
