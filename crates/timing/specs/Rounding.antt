-- Document 01, "Windows and instants": the run that rounding makes of a run, and the run of a timetable, both in whole ticks.
use Rattle.std.specs.Prelude.{ℕ, ◌+◌, ◌-◌, ◌/◌, min, List, [], ◌∷◌, length}
use Rattle.laws.specs.Slots.{pad_to}
use Rattle.run.specs.declared.Memory.{Memory}
use Rattle.run.specs.declared.Firing.{Firing}
use Rattle.run.specs.declared.Run.{Run}
use Rattle.run.specs.Run.{no_firing, firings_of, order_of, waits_of}
use Rattle.timing.specs.Windows.{instants}
use Rattle.timing.specs.Schedule.{rounded_waits}

-- the firings of an order after waits
unfoldable pub zip_firings : List ℕ → List ℕ → List Firing
zip_firings [] order = []
zip_firings (w ∷ ws) [] = []
zip_firings (w ∷ ws) (t ∷ order) = record { wait = w; fire = t } ∷ zip_firings ws order

-- the instant of the last firing, 0 without firings; and the end after the rest
unfoldable pub last_instant : Run → ℕ
last_instant r = instants (waits_of (firings_of r)) (length (firings_of r))

unfoldable pub end_instant : Run → ℕ
end_instant r = last_instant r + r.rest

-- "Rounding replaces each instant, the end after `rest` included, by its whole part": the sheet, the memory and the fired transitions stay
unfoldable pub rounded_run : Run → Run
rounded_run r =
    record {
      sheet = r.sheet;
      memory = r.memory;
      denominator = 1;
      count = min r.count 64;
      firings = pad_to 64 no_firing (zip_firings (rounded_waits r.denominator (waits_of (firings_of r))) (order_of (firings_of r)));
      rest = (last_instant r + r.rest) / r.denominator - last_instant r / r.denominator;
    }

-- "A timetable is the same kind of card, with the order's memory and firings and with `rest=0`", and it copies the order's sheet
unfoldable pub timetable_run : ℕ → Memory → List ℕ → List ℕ → Run
timetable_run sheet memory order waits =
    record { sheet = sheet; memory = memory; denominator = 1; count = length order; firings = pad_to 64 no_firing (zip_firings waits order); rest = 0 }
