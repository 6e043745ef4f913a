-- Document 01, "Windows and instants": what the tokens allow of a firing order, whatever the time.
use Rattle.reply.specs.Respond.{Checked, Passed}
use Rattle.std.specs.Prelude.{ℕ, ◌+◌, cond, List, [], ◌∷◌, Err}
use Rattle.reply.specs.declared.Refusal.TheVariants.{NotEnabled, TooManyTokens}
use Rattle.form.specs.Form.{also}
use Rattle.net.specs.declared.Net.{Net}
use Rattle.firing.specs.Semantics.{arcs_of, enabled, after}
use Rattle.firing.specs.Replay.{limited}

-- firing number n, of t, judged by its tokens alone: 5, then 6
unfoldable pub tokens_judged : Net → List ℕ → ℕ → ℕ → Checked
tokens_judged net m t n = cond (enabled (arcs_of net) m t) (cond (limited (arcs_of net) m t) Passed (Err (TooManyTokens n))) (Err (NotEnabled n))

-- the tokens allow an order if each firing in turn finds its transition enabled and leaves no place above 255; n firings have been
unfoldable pub tokens : Net → List ℕ → List ℕ → ℕ → Checked
tokens net [] m n = Passed
tokens net (t ∷ ts) m n = also (tokens_judged net m t (n + 1)) (tokens net ts (after (arcs_of net) m t) (n + 1))

-- the marking after the firings of an order, from a marking
unfoldable pub marking_after : Net → List ℕ → List ℕ → List ℕ
marking_after net m [] = m
marking_after net m (t ∷ order) = marking_after net (after (arcs_of net) m t) order
