-- What the code's clock means and tells.
use Rattle.std.specs.Prelude.{◌+◌, Bool, ◌||◌, ℤ, pos, ◌==◌, int_le}
use Rattle.link.specs.Clock.{Schedule, Clock, interval_at}
use Rattle.node.specs.declared.clock as clock

abbrev pub clock_of : clock.Clock.Clock → Clock
clock_of c = record {
  schedule = record { number = c.number; start = c.start; duration = c.duration; delay = c.delay };
  offset = c.offset;
}

-- the key of the interval that the schedule names could be public at a time of the sender
abbrev pub was_due : Schedule → ℤ → Bool
was_due c u = c.number == 0 || int_le (pos (c.number + c.delay)) (interval_at c u)
