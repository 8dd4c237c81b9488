-- The number of each refusal, as docs/REFUSALS.md lists them.
use Rattle.std.specs.Prelude.{ℕ}
use Rattle.refusal.specs.declared.Refusal.{Refusal}
use Rattle.refusal.specs.declared.Refusal.TheVariants.{NotThisKind, WrongLength, ReadingOutOfOrder, WrongAnswerTag, BadSchedule, CommitmentNotDue, IntervalOutOfRange, TooLate, AlreadyHeld, NoFreePlace, KeyNotNewer, KeyNotDue, KeyNotOfChain, BufferTooShort, OutOfLimits, NoSuchInterval, TooLong, IntervalFull, NoKeyDue, NoKeyLeft, NotACapture}

abbrev pub number_of : Refusal → ℕ
number_of NotThisKind = 1
number_of WrongLength = 2
number_of ReadingOutOfOrder = 3
number_of WrongAnswerTag = 4
number_of BadSchedule = 5
number_of CommitmentNotDue = 6
number_of IntervalOutOfRange = 7
number_of TooLate = 8
number_of AlreadyHeld = 9
number_of NoFreePlace = 10
number_of KeyNotNewer = 11
number_of KeyNotDue = 12
number_of KeyNotOfChain = 13
number_of BufferTooShort = 14
number_of OutOfLimits = 15
number_of NoSuchInterval = 16
number_of TooLong = 17
number_of IntervalFull = 18
number_of NoKeyDue = 19
number_of NoKeyLeft = 20
number_of NotACapture = 21
