-- The join: a node's request, and the receiver that an answer makes of the node.
use Rattle.std.specs.Prelude.{ℕ, ◌+◌, ◌^◌, Bool, ◌&&◌, ◌||◌, List, [], ◌∷◌, ◌++◌, pos, Ok, Err, Result, ◌==◌, int_le, nat_le, nat_lt}
use Rattle.std.specs.Str.{bytes_eq}
use Rattle.refusal.specs.declared.Refusal.{Refusal}
use Rattle.refusal.specs.declared.Refusal.TheVariants.{ReadingOutOfOrder, WrongAnswerTag, BadSchedule, CommitmentNotDue, BufferTooShort, OutOfLimits}
use Rattle.cipher.specs.Blocks.{Make}
use Rattle.cipher.specs.Keys.{key_of}
use Rattle.cipher.specs.declared.key.Key.{Key}
use Rattle.chain.specs.Tag.{tag}
use Rattle.chain.specs.Chain.{pair_tag_key}
use Rattle.packet.specs.Kinds.{Answer, Packet, a_request}
use Rattle.packet.specs.Layouts.{answer_covered}
use Rattle.packet.specs.Reading.{read_answer, answer_of}
use Rattle.link.specs.Questions.{Question, first_no, unless}
use Rattle.link.specs.Clock.{Schedule, interval_at, offset_of}
use Rattle.link.specs.Reception.{in_order}
use Rattle.link.specs.Receiver.{Receiver, reading}

-- a node that has sent a request
pub record Node : Type 0 where
  pub pair : Key
  pub nonce : List ℕ
  -- its reading at the request
  pub requested : ℕ
  pub drift : ℕ

abbrev pub request_questions : Node → ℕ → List Question
request_questions node room =
    (ReadingOutOfOrder, in_order 0 node.requested)
    ∷ (OutOfLimits, nat_le node.drift (2 ^ 30))
    ∷ (BufferTooShort, nat_le 9 room)
    ∷ []

-- what a request writes
unfoldable pub request : Node → ℕ → Result Packet Refusal
request node room = unless (first_no (request_questions node room)) Err (Ok (a_request (record { nonce = node.nonce })))

-- the tag that is right for an answer, from the key of the pair and the request's nonce
abbrev pub answer_tag : Make → Key → List ℕ → Answer → List ℕ
answer_tag cipher pair nonce a = tag cipher (pair_tag_key cipher pair) (nonce ++ answer_covered a)

abbrev pub schedule_of : Answer → Schedule
schedule_of a = record { number = a.interval; start = a.start; duration = a.duration; delay = a.delay }

abbrev pub schedule_fits : Answer → Bool
schedule_fits a =
    nat_le 1 a.delay && nat_le a.delay 16 && nat_le 1 a.duration && nat_le a.interval 4096 && nat_lt a.time (2 ^ 52) && nat_le a.start a.time

-- the key of the answer could be public at the answer's time
abbrev pub key_was_due : Answer → Bool
key_was_due a =
    (a.interval == 0) || int_le (pos (a.interval + a.delay)) (interval_at (schedule_of a) (pos a.time))

-- the questions of a finish, once the answer is read
abbrev pub join_questions : Make → Node → ℕ → Answer → List Question
join_questions cipher node t a =
    (ReadingOutOfOrder, in_order node.requested t)
    ∷ (WrongAnswerTag, bytes_eq a.tag (answer_tag cipher node.pair node.nonce a))
    ∷ (BadSchedule, schedule_fits a)
    ∷ (CommitmentNotDue, key_was_due a)
    ∷ []

abbrev pub finish_questions : Make → Node → ℕ → List ℕ → List Question
finish_questions cipher node t bytes = reading (read_answer bytes) ++ join_questions cipher node t (answer_of bytes)

-- the receiver that an answer makes of a node at a reading
abbrev pub joined : Node → ℕ → Answer → Receiver
joined node t a = record {
  clock = record { schedule = schedule_of a; offset = offset_of a.time node.requested node.drift };
  state = record { latest = t; newest = key_of a.key; reached = a.interval; held = [] };
}

unfoldable pub finish : Make → Node → ℕ → List ℕ → Result Receiver Refusal
finish cipher node t bytes = unless (first_no (finish_questions cipher node t bytes)) Err (Ok (joined node t (answer_of bytes)))
