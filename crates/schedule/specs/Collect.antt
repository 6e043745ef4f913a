-- What the tokens say of an order value, and the windows of its firings as an array holds them.
use Rattle.reply.specs.Respond.{Checked, Passed}
use Rattle.std.specs.Prelude.{List, Result, Ok, Err}
use Rattle.reply.specs.declared.Refusal.{Refusal}
use Rattle.laws.specs.Slots.{pad_to}
use Rattle.net.specs.declared.Net.{Net}
use Rattle.run.specs.declared.Order.{Order}
use Rattle.run.specs.Run.{fires_of}
use Rattle.firing.specs.Semantics.{arcs_of, rule_of, start_marking}
use Rattle.firing.specs.Tokens.{tokens}
use Rattle.timing.specs.declared.Window.{Window}
use Rattle.timing.specs.Windows.{no_window, windows_of}

-- the windows, where the tokens allow the order
abbrev pub collected_of : Checked → List Window → Result (List Window) Refusal
collected_of Passed ws = Ok (pad_to 64 no_window ws)
collected_of (Err r) ws = Err r

unfoldable pub collected : Net → Order → Result (List Window) Refusal
collected net o = collected_of (tokens net (fires_of o) (start_marking net) 0) (windows_of net (rule_of (arcs_of net) o.memory) (fires_of o))
