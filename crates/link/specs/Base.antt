-- The base: its calls, what it writes at each, and its state after it.
use Rattle.std.specs.Prelude.{ℕ, ◌+◌, ◌*◌, ◌^◌, Bool, cond, ◌&&◌, List, [], ◌∷◌, ◌++◌, length, ℤ, pos, ◌-ℤ◌, Ok, Err, Result, ◌==◌, int_le, int_lt, nat_le, nat_lt, unsigned_abs}
use Rattle.std.specs.Int.{int_min}
use Rattle.refusal.specs.declared.Refusal.{Refusal}
use Rattle.refusal.specs.declared.Refusal.TheVariants.{ReadingOutOfOrder, BufferTooShort, OutOfLimits, NoSuchInterval, TooLong, IntervalFull, NoKeyDue}
use Rattle.cipher.specs.Blocks.{Make}
use Rattle.cipher.specs.Keys.{key_bytes}
use Rattle.cipher.specs.declared.key.Key.{Key}
use Rattle.packet.specs.Kinds.{Data, Disclosure, Answer, Packet, a_data, a_key, an_answer}
use Rattle.packet.specs.Reading.{read_request, request_of}
use Rattle.link.specs.Questions.{Question, first_no, unless}
use Rattle.link.specs.Clock.{intervals_since}
use Rattle.link.specs.Reception.{in_order}
use Rattle.link.specs.Receiver.{reading, data_tag}
use Rattle.link.specs.Join.{answer_tag}

-- what a key source means: keys 1 to `count`, of which `given` were given
pub record Supply : Type 0 where
  pub count : ℕ
  pub key : ℕ → Key
  pub given : ℕ

-- what never changes in a base
pub record Setup : Type 0 where
  -- the number of keys, and those of the two sources
  pub count : ℕ
  pub making : ℕ → Key
  pub disclosing : ℕ → Key
  -- K_0
  pub commitment : Key
  -- interval 0 begins at `start`
  pub start : ℕ
  pub duration : ℕ
  pub delay : ℕ

pub record Base : Type 0 where
  pub setup : Setup
  -- the latest reading granted
  pub latest : ℕ
  -- the interval of the latest packet made, 0 before the first, and how many were made in it; the first source has given its key
  pub busy : ℕ
  pub made : ℕ
  -- the interval of the last key disclosed, 0 before the first; the second source has given that key
  pub last : ℕ

abbrev pub in_limits : Setup → Bool
in_limits x =
    nat_le 1 x.duration && nat_lt x.duration (2 ^ 32) && nat_le 1 x.delay && nat_le x.delay 16 && nat_lt x.start (2 ^ 52)

abbrev pub unused : Setup → Base
unused x = record { setup = x; latest = x.start; busy = 0; made = 0; last = 0 }

-- what a base would be made of
abbrev pub setup_of : Supply → Supply → Key → ℕ → ℕ → ℕ → Setup
setup_of first second commitment start duration delay = record {
  count = first.count;
  making = first.key;
  disclosing = second.key;
  commitment = commitment;
  start = start;
  duration = duration;
  delay = delay;
}

-- both sources are unused, and have one number of keys
abbrev pub a_pair : Supply → Supply → Bool
a_pair first second = first.given == 0 && second.given == 0 && first.count == second.count

unfoldable pub found : Supply → Supply → Key → ℕ → ℕ → ℕ → Result Base Refusal
found first second commitment start duration delay =
    let x : Setup = setup_of first second commitment start duration delay in
    unless (first_no ((OutOfLimits, in_limits x && a_pair first second) ∷ [])) Err (Ok (unused x))

pub data Errand : Type 0 where
  -- at a reading, a payload, and the length of the buffer lent
  to_make : ℕ → List ℕ → ℕ → Errand
  to_disclose : ℕ → ℕ → Errand
  -- at a reading, the key of the pair, the bytes of a request, and the length of the buffer lent
  to_answer : ℕ → Key → List ℕ → ℕ → Errand

-- the reading at which the base is asked
abbrev pub asked_at : Errand → ℕ
asked_at (to_make s payload room) = s
asked_at (to_disclose s room) = s
asked_at (to_answer s pair bytes room) = s

-- the base's interval at a time
abbrev pub base_interval : Setup → ℤ → ℤ
base_interval x u = intervals_since x.start x.duration u

-- the interval whose key is to be disclosed at a reading: the smaller of the interval less the delay, and the last
abbrev pub key_due : Setup → ℕ → ℤ
key_due x s = int_min (base_interval x (pos s) -ℤ pos x.delay) (pos x.count)

-- how many packets were made in an interval
abbrev pub made_in : Base → ℕ → ℕ
made_in b m = cond (m == b.busy) b.made 0

-- the last key disclosed, K_0 at first
abbrev pub last_key : Base → Key
last_key b = cond (b.last == 0) b.setup.commitment (b.setup.disclosing b.last)

-- the questions of each call, in their order
abbrev pub base_questions : Base → Errand → List Question
base_questions b (to_make s payload room) =
    let m : ℤ = base_interval b.setup (pos s) in
    (ReadingOutOfOrder, in_order b.latest s)
    ∷ (NoSuchInterval, int_le (pos 1) m && int_le m (pos b.setup.count))
    ∷ (TooLong, nat_le (length payload) 64)
    ∷ (IntervalFull, nat_lt (made_in b (unsigned_abs m)) 256)
    ∷ (BufferTooShort, nat_le (12 + length payload) room)
    ∷ []
base_questions b (to_disclose s room) =
    (ReadingOutOfOrder, in_order b.latest s)
    ∷ (NoKeyDue, int_lt (pos b.last) (key_due b.setup s))
    ∷ (BufferTooShort, nat_le 19 room)
    ∷ []
base_questions b (to_answer s pair bytes room) =
    reading (read_request bytes)
    ++ (ReadingOutOfOrder, in_order b.latest s)
    ∷ (BufferTooShort, nat_le 48 room)
    ∷ []

-- the packet of a payload, with a tag; the tag that is right does not depend on the one there
abbrev pub data_with : Base → ℕ → List ℕ → List ℕ → Data
data_with b m payload tag = record { interval = m; number = made_in b m; payload = payload; tag = tag }

abbrev pub order : Make → Base → ℕ → List ℕ → Data
order cipher b m payload = data_with b m payload (data_tag cipher (b.setup.making m) (data_with b m payload []))

abbrev pub disclosure : Base → ℕ → Disclosure
disclosure b j = record { interval = j; key = key_bytes (b.setup.disclosing j) }

-- the answer at a reading, with a tag
abbrev pub answer_with : Base → ℕ → List ℕ → Answer
answer_with b s tag = record {
  time = s;
  key = key_bytes (last_key b);
  interval = b.last;
  start = b.setup.start + b.last * b.setup.duration;
  duration = b.setup.duration;
  delay = b.setup.delay;
  tag = tag;
}

-- what the base answers to a request with a nonce
abbrev pub welcome : Make → Base → ℕ → Key → List ℕ → Answer
welcome cipher b s pair nonce = answer_with b s (answer_tag cipher pair nonce (answer_with b s []))

-- what each call writes when it is granted
abbrev pub written : Make → Base → Errand → Packet
written cipher b (to_make s payload room) = a_data (order cipher b (unsigned_abs (base_interval b.setup (pos s))) payload)
written cipher b (to_disclose s room) = a_key (disclosure b (unsigned_abs (key_due b.setup s)))
written cipher b (to_answer s pair bytes room) = an_answer (welcome cipher b s pair (request_of bytes).nonce)

-- and the base after it
abbrev pub done : Base → Errand → Base
done b (to_make s payload room) =
    let m : ℕ = unsigned_abs (base_interval b.setup (pos s)) in
    record { setup = b.setup; latest = s; busy = m; made = made_in b m + 1; last = b.last }
done b (to_disclose s room) =
    record { setup = b.setup; latest = s; busy = b.busy; made = b.made; last = unsigned_abs (key_due b.setup s) }
done b (to_answer s pair bytes room) =
    record { setup = b.setup; latest = s; busy = b.busy; made = b.made; last = b.last }

-- what a call writes, and the base after it
unfoldable pub reply : Make → Base → Errand → Result Packet Refusal
reply cipher b errand = unless (first_no (base_questions b errand)) Err (Ok (written cipher b errand))

unfoldable pub base_then : Base → Errand → Base
base_then b errand = unless (first_no (base_questions b errand)) (λ refusal. b) (done b errand)

-- the base after a run of calls
unfoldable pub base_after : Base → List Errand → Base
base_after b [] = b
base_after b (errand ∷ errands) = base_after (base_then b errand) errands
