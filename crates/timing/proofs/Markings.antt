-- Where a run passes, the marking after its firings depends on their order alone; and where a run passes, so does each part from its start.
use Rattle.reply.specs.Respond.{Passed}
use Prim.Native.Nat.{ℕ, zero, suc, ◌+◌}
use mathlib.Core.Path.{◌≡◌, refl, sym, ap, ◌∙◌}
use mathlib.Core.List.{List, [], ◌∷◌}
use lib.ListN.{take}
use Rattle.net.specs.declared.Net.{Net}
use Rattle.run.specs.declared.Firing.{Firing}
use Rattle.firing.specs.declared.State.{State}
use Rattle.firing.specs.Semantics.{Restart}
use Rattle.firing.specs.Replay.{start_state, waited, fired, judged, play}
use Rattle.run.specs.Run.{order_of}
use Rattle.firing.specs.Tokens.{marking_after}
use Rattle.timing.proofs.Meet.{step_passed}

pub order_prefix : (i : ℕ) (fs : List Firing) → order_of (take i fs) ≡ take i (order_of fs)
unfolding order_of
order_prefix zero fs = refl
order_prefix (suc i) [] = refl
order_prefix (suc i) (f ∷ fs) = ap (λ (order : List ℕ). f.fire ∷ order) (order_prefix i fs)

module _ (net : Net) (restarts : Restart) where
  module _ (D : ℕ) where
    pub play_prefix : (i : ℕ) (fs : List Firing) (st : State) (n : ℕ) → (play net restarts D fs st n).checked ≡ Passed
        → (play net restarts D (take i fs) st n).checked ≡ Passed
    unfolding play
    play_prefix zero fs st n e = refl
    play_prefix (suc i) [] st n e = refl
    play_prefix (suc i) (f ∷ fs) st n e =
        let w = waited st f.wait in
        let next = fired net restarts w f.fire in
        let p = step_passed (judged net D w f.fire (n + 1)) st (play net restarts D fs next (n + 1)) e in
        rw p.0 (play_prefix i fs next (n + 1) p.1)

    pub play_marking : (fs : List Firing) (st : State) (n : ℕ) → (play net restarts D fs st n).checked ≡ Passed
        → (play net restarts D fs st n).state.marking ≡ marking_after net st.marking (order_of fs)
    unfolding play order_of marking_after waited fired
    play_marking [] st n e = refl
    play_marking (f ∷ fs) st n e =
        let w = waited st f.wait in
        let next = fired net restarts w f.fire in
        let p = step_passed (judged net D w f.fire (n + 1)) st (play net restarts D fs next (n + 1)) e in
        rw p.0 (play_marking fs next (n + 1) p.1)

    pub marking_prefix : (i : ℕ) (fs : List Firing) (st : State) (n : ℕ) → (play net restarts D fs st n).checked ≡ Passed
        → (play net restarts D (take i fs) st n).state.marking ≡ marking_after net st.marking (take i (order_of fs))
    marking_prefix i fs st n e = play_marking (take i fs) st n (play_prefix i fs st n e) ∙ ap (marking_after net st.marking) (order_prefix i fs)

  -- two runs of one order, at whatever denominators, go through the same markings
  pub order_markings : (D E : ℕ) (fs gs : List Firing) → order_of fs ≡ order_of gs
      → (play net restarts D fs (start_state net) 0).checked ≡ Passed → (play net restarts E gs (start_state net) 0).checked ≡ Passed
      → (i : ℕ) → (play net restarts D (take i fs) (start_state net) 0).state.marking ≡ (play net restarts E (take i gs) (start_state net) 0).state.marking
  order_markings D E fs gs o p q i =
      marking_prefix D i fs (start_state net) 0 p ∙ ap (λ (order : List ℕ). marking_after net (start_state net).marking (take i order)) o
      ∙ sym (marking_prefix E i gs (start_state net) 0 q)
