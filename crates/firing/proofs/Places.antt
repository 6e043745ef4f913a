-- A refusal of a run names one of its firings, since it is the firing behind those that are allowed.
use Rattle.std.specs.Prelude.{Err}
use Prim.Native.Nat.{ℕ, suc, ◌+◌, ◌≤◌}
use native.Mathlib.Nat.{min-le_left}
use native.Mathlib.Omega.{arith}
use mathlib.Core.Path.{◌≡◌, ap, ◌∙◌}
use mathlib.Core.Logic.{inl, inr}
use mathlib.Core.List.{◌∷◌}
use lib.ListN.{length, length-append}
use Rattle.reply.specs.declared.Refusal.{Refusal}
use Rattle.reply.specs.Refusal.{position_of}
use Rattle.net.specs.declared.Net.{Net}
use Rattle.run.specs.declared.Run.{Run}
use Rattle.run.specs.Run.{firings_of}
use Rattle.run.proofs.Firings.{length_firings}
use Rattle.firing.specs.Semantics.{Restart, Timed}
use Rattle.firing.specs.Replay.{replay}
use Rattle.firing.specs.Claims.{Because}
use Rattle.firing.proofs.Accept.{refused_first}

pub because_place : (net : Net) (D : ℕ) (r : Refusal) (n : ℕ) (S : Timed) (t : ℕ) → Because net D r n S t → position_of r ≡ n
because_place net D r n S t (inl b) = ap position_of b.0
because_place net D r n S t (inr (inl b)) = ap position_of b.0
because_place net D r n S t (inr (inr b)) = ap position_of b.0

pub replay_place : (net : Net) (restarts : Restart) (run : Run) (r : Refusal) → (replay net restarts run).checked ≡ Err r
    → (1 ≤ position_of r) × (position_of r ≤ run.count)
replay_place net restarts run r e =
    let f = refused_first net restarts run r e in
    let place = because_place net run.denominator r (0 + length f.front + 1) f.there f.refused.fire f.because in
    let all : length (firings_of run) ≡ length f.front + suc (length f.behind) =
    ap length f.split ∙ length-append f.front (f.refused ∷ f.behind) in
    let many = length_firings run in
    (omega arith, omega (arith, min-le_left run.count 64))
