-- The questions of each call on plain numbers, once a reading in order is not before the start, and what it writes.
use Rattle.std.specs.Prelude.{ℕ, ◌+◌, ◌-◌, ◌/◌, min, cond, ◌&&◌, List, [], ◌∷◌, Ok, Err, Result, ◌==◌, nat_le, nat_lt}
use Rattle.refusal.specs.declared.Refusal.{Refusal}
use Rattle.refusal.specs.declared.Refusal.TheVariants.{BufferTooShort, IntervalFull, NoKeyDue, NoSuchInterval, ReadingOutOfOrder, TooLong}
use Rattle.cipher.specs.Blocks.{Make}
use Rattle.cipher.specs.Keys.{key_bytes}
use Rattle.cipher.specs.declared.key.Key.{Key}
use Rattle.packet.specs.Kinds.{Answer, Data, Disclosure}
use Rattle.link.specs.Base.{Base}
use Rattle.link.specs.Join.{answer_tag}
use Rattle.link.specs.Questions.{Question, first_no, unless}
use Rattle.link.specs.Receiver.{data_tag}
use Rattle.link.specs.Reception.{in_order}

-- what the questions of a base are asked on
pub record Numbers : Type 0 where
  pub count : ℕ
  pub start : ℕ
  pub duration : ℕ
  pub delay : ℕ
  pub latest : ℕ
  pub busy : ℕ
  pub made : ℕ
  pub last : ℕ

abbrev pub numbers : Base → Numbers
numbers b = record {
  count = b.setup.count;
  start = b.setup.start;
  duration = b.setup.duration;
  delay = b.setup.delay;
  latest = b.latest;
  busy = b.busy;
  made = b.made;
  last = b.last;
}

-- the interval at a reading that is not before the start
abbrev pub plain_interval : Numbers → ℕ → ℕ
plain_interval x s = (s - x.start) / x.duration

-- how many packets were made in an interval
abbrev pub made_at : Numbers → ℕ → ℕ
made_at x m = cond (m == x.busy) x.made 0

-- the questions of a make of a payload of n bytes
abbrev pub make_questions : Numbers → ℕ → ℕ → ℕ → List Question
make_questions b s n room =
    let m : ℕ = plain_interval b s in
    (ReadingOutOfOrder, in_order b.latest s)
    ∷ (NoSuchInterval, nat_le 1 m && nat_le m b.count)
    ∷ (TooLong, nat_le n 64)
    ∷ (IntervalFull, nat_lt (made_at b m) 256)
    ∷ (BufferTooShort, nat_le (12 + n) room)
    ∷ []

-- the interval of the key that is due, of n keys: 0 below the delay, where none is
abbrev pub plain_due : Numbers → ℕ → ℕ → ℕ
plain_due x n s = min (plain_interval x s - x.delay) n

-- the questions of a disclosure, of n keys
abbrev pub disclose_questions : Numbers → ℕ → ℕ → ℕ → List Question
disclose_questions b n s room =
    (ReadingOutOfOrder, in_order b.latest s)
    ∷ (NoKeyDue, nat_lt b.last (plain_due b n s))
    ∷ (BufferTooShort, nat_le 19 room)
    ∷ []

-- the questions of an answer once the request is read
abbrev pub answer_questions : Numbers → ℕ → ℕ → List Question
answer_questions b s room = (ReadingOutOfOrder, in_order b.latest s) ∷ (BufferTooShort, nat_le 48 room) ∷ []

-- what questions come to: the first no, or an answer
abbrev pub asked : {A : Type 0} → List Question → A → Result A Refusal
asked questions granted = unless (first_no questions) Err (Ok granted)

-- an order with the tag that is right under the key of its interval
abbrev pub untagged : ℕ → ℕ → List ℕ → Data
untagged interval number payload = record { interval = interval; number = number; payload = payload; tag = [] }

abbrev pub data_under : Make → Key → ℕ → ℕ → List ℕ → Data
data_under cipher key interval number payload =
    record { interval = interval; number = number; payload = payload; tag = data_tag cipher key (untagged interval number payload) }

abbrev pub disclosure_of : ℕ → Key → Disclosure
disclosure_of interval key = record { interval = interval; key = key_bytes key }

abbrev pub answer_untagged : ℕ → Key → ℕ → ℕ → ℕ → ℕ → Answer
answer_untagged time key interval start duration delay =
    record { time = time; key = key_bytes key; interval = interval; start = start; duration = duration; delay = delay; tag = [] }

-- an answer to a request with a nonce, with the tag that is right under the key of the pair
abbrev pub answer_under : Make → Key → List ℕ → Answer → Answer
answer_under cipher pair nonce a = record {
  time = a.time;
  key = a.key;
  interval = a.interval;
  start = a.start;
  duration = a.duration;
  delay = a.delay;
  tag = answer_tag cipher pair nonce a;
}
