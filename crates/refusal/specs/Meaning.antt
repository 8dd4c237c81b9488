-- What each refusal means, in the words that an operator reads, and how a program tells it.
use Rattle.std.specs.Prelude.{ℕ, List, ◌++◌, codes}
use Rattle.std.specs.Fmt.{decimal}
use Rattle.refusal.specs.declared.Refusal.{Refusal}
use Rattle.refusal.specs.declared.Refusal.TheVariants.{NotThisKind, WrongLength, ReadingOutOfOrder, WrongAnswerTag, BadSchedule, CommitmentNotDue, IntervalOutOfRange, TooLate, AlreadyHeld, NoFreePlace, KeyNotNewer, KeyNotDue, KeyNotOfChain, BufferTooShort, OutOfLimits, NoSuchInterval, TooLong, IntervalFull, NoKeyDue, NoKeyLeft, NotACapture}
use Rattle.refusal.specs.Number.{number_of}

abbrev pub meaning_of : Refusal → List ℕ
meaning_of NotThisKind = codes "the packet is of no kind that this call takes"
meaning_of WrongLength = codes "the packet has not the length of its kind"
meaning_of ReadingOutOfOrder = codes "the clock reading is 2^52 or more, or before the latest one"
meaning_of WrongAnswerTag = codes "the answer's tag is not right under the pair's key"
meaning_of BadSchedule = codes "the answer's schedule is outside its limits"
meaning_of CommitmentNotDue = codes "the answer's key could not be public yet at the answer's time"
meaning_of IntervalOutOfRange = codes "the interval is not 1 to 4096"
meaning_of TooLate = codes "the packet's interval can already be public: too late to trust"
meaning_of AlreadyHeld = codes "an equal packet is held already"
meaning_of NoFreePlace = codes "all places for held packets are taken"
meaning_of KeyNotNewer = codes "the key's interval is not above that of the newest key"
meaning_of KeyNotDue = codes "the key's interval cannot be due yet"
meaning_of KeyNotOfChain = codes "the key does not step down to the newest key"
meaning_of BufferTooShort = codes "the output buffer is too short"
meaning_of OutOfLimits = codes "a parameter is outside its limits"
meaning_of NoSuchInterval = codes "the base's interval is not one of the key chain"
meaning_of TooLong = codes "the payload or the message is too long"
meaning_of IntervalFull = codes "256 packets were made in this interval already"
meaning_of NoKeyDue = codes "no key above the last one disclosed is due"
meaning_of NoKeyLeft = codes "the key source has given its last key"
meaning_of NotACapture = codes "the input is not a capture that can be replayed"

-- the number, and then the words
abbrev pub told_of : Refusal → List ℕ
told_of r = codes "refused " ++ (decimal (number_of r) ++ (codes ", " ++ meaning_of r))
