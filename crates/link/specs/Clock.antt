-- Times and intervals: the schedule that an answer tells, and what a receiver's reading means on the sender's clock.
use Rattle.std.specs.Prelude.{ℕ, ◌+◌, Bool, ℤ, pos, ◌+ℤ◌, ◌-ℤ◌, int_lt}
use Rattle.std.specs.Int.{int_div_euclid}

-- interval `number` begins at `start`; an interval lasts `duration`; a key is disclosed `delay` intervals after its own
pub record Schedule : Type 0 where
  pub number : ℕ
  pub start : ℕ
  pub duration : ℕ
  pub delay : ℕ

-- a receiver's clock: the schedule, and what is added to a reading
pub record Clock : Type 0 where
  pub schedule : Schedule
  pub offset : ℤ

-- ⌊(u - start) / duration⌋
abbrev pub intervals_since : ℕ → ℕ → ℤ → ℤ
intervals_since start duration u = int_div_euclid (u -ℤ pos start) (pos duration)

-- the latest interval that the sender can be in, where its clock shows at most u
abbrev pub interval_at : Schedule → ℤ → ℤ
interval_at c u = pos c.number +ℤ intervals_since c.start c.duration u

-- T_S - t_R + S: the sender's time in its answer, the reading at the request, and the drift allowed
abbrev pub offset_of : ℕ → ℕ → ℕ → ℤ
offset_of answered requested drift = pos answered -ℤ pos requested +ℤ pos drift

-- the latest time that the sender's clock can show at a reading
abbrev pub sender_time : Clock → ℕ → ℤ
sender_time c t = pos t +ℤ c.offset

-- at this reading, the key of interval m cannot be public yet
abbrev pub early_at : Clock → ℕ → ℕ → Bool
early_at c t m = int_lt (interval_at c.schedule (sender_time c t)) (pos (m + c.schedule.delay))
