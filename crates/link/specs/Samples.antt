-- Samples of the clock and of the two questions that it decides, on both sides of their signs.
use Rattle.std.specs.Prelude.{◌≡◌, [], pos, negsuc, Some, None}
use Rattle.refusal.specs.declared.Refusal.TheVariants.{TooLate, KeyNotDue}
use Rattle.cipher.specs.Blocks.{Make}
use Rattle.cipher.specs.declared.key.Key.{Key}
use Rattle.packet.specs.Kinds.{Data}
use Rattle.link.specs.Questions.{first_no}
use Rattle.link.specs.Clock.{Clock, interval_at, offset_of, sender_time}
use Rattle.link.specs.Reception.{State, take_questions, key_questions}
use Rattle.link.specs.Receiver.{world}

-- interval 0 begins at 10,000 on the sender's clock, an interval lasts 1,000, the delay is 2, and 10,150 is added to a reading
abbrev pub sample_clock : Clock
sample_clock = record { schedule = record { number = 0; start = 10000; duration = 1000; delay = 2 }; offset = pos 10150 }

abbrev pub zero_key : Key
zero_key = record { high = 0; low = 0 }

-- just joined
abbrev pub sample_state : State Data Key
sample_state = record { latest = 400; newest = zero_key; reached = 0; held = [] }

abbrev pub first_order : Data
first_order = record { interval = 1; number = 0; payload = []; tag = [] }

pub record ClockSampled (cipher : Make) : Type 0 where
  pub ahead : offset_of 10500 400 50 ≡ pos 10150
  pub behind : offset_of 10500 20000 50 ≡ negsuc 9449
  pub second : interval_at sample_clock.schedule (sender_time sample_clock 2849) ≡ pos 2
  pub third : interval_at sample_clock.schedule (sender_time sample_clock 2850) ≡ pos 3
  -- interval 1's order is taken at 2,849 and too late at 2,850, and its key is not due at 2,849
  pub taken : first_no (take_questions (world cipher sample_clock) sample_state 2849 first_order) ≡ None
  pub too_late : first_no (take_questions (world cipher sample_clock) sample_state 2850 first_order) ≡ Some TooLate
  pub not_due : (key : Key) → first_no (key_questions (world cipher sample_clock) sample_state 2849 key 1) ≡ Some KeyNotDue

abbrev pub SamplesStand : Type 0
SamplesStand = (cipher : Make) → ClockSampled cipher
