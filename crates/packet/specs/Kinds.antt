-- What the four kinds of packet say, as plain values, and how the code's packets, which borrow, say it.
use Rattle.std.specs.Prelude.{◌≡◌, ℕ, ◌^◌, ◌<◌, ◌≤◌, List, length}
use Rattle.packet.specs.declared.kinds

pub record Request : Type 0 where
  pub nonce : List ℕ

pub record Answer : Type 0 where
  pub time : ℕ
  pub key : List ℕ
  pub interval : ℕ
  pub start : ℕ
  pub duration : ℕ
  pub delay : ℕ
  pub tag : List ℕ

pub record Data : Type 0 where
  pub interval : ℕ
  pub number : ℕ
  pub payload : List ℕ
  pub tag : List ℕ

pub record Disclosure : Type 0 where
  pub interval : ℕ
  pub key : List ℕ

pub data Packet : Type 0 where
  a_request : Request → Packet
  an_answer : Answer → Packet
  a_data : Data → Packet
  a_key : Disclosure → Packet

-- what the code's packets say
abbrev pub request_said : kinds.Request.Request → Request
request_said p = record { nonce = p.nonce.now }

abbrev pub answer_said : kinds.Answer.Answer → Answer
answer_said p = record {
  time = p.time;
  key = p.key.now;
  interval = p.interval;
  start = p.start;
  duration = p.duration;
  delay = p.delay;
  tag = p.tag.now;
}

abbrev pub data_said : kinds.Data.Data → Data
data_said p = record { interval = p.interval; number = p.number; payload = p.payload.now; tag = p.tag.now }

abbrev pub disclosure_said : kinds.Disclosure.Disclosure → Disclosure
disclosure_said p = record { interval = p.interval; key = p.key.now }

abbrev pub said : kinds.Packet.Packet → Packet
said (kinds.Packet.TheVariants.Request p) = a_request (request_said p)
said (kinds.Packet.TheVariants.Answer p) = an_answer (answer_said p)
said (kinds.Packet.TheVariants.Data p) = a_data (data_said p)
said (kinds.Packet.TheVariants.Key p) = a_key (disclosure_said p)

-- every field that an answer's tag covers has its width
abbrev pub CoveredFits : Answer → Type 0
CoveredFits p = (p.time < 2 ^ 64) × (length p.key ≡ 16) × (p.interval < 2 ^ 16) × (p.start < 2 ^ 64) × (p.duration < 2 ^ 32)

-- every field has its width, and a payload at most 64 bytes
abbrev pub Fits : Packet → Type 0
Fits (a_request p) = length p.nonce ≡ 8
Fits (an_answer p) = CoveredFits p × (length p.tag ≡ 8)
Fits (a_data p) = (p.interval < 2 ^ 16) × (length p.payload ≤ 64) × (length p.tag ≡ 8)
Fits (a_key p) = (p.interval < 2 ^ 16) × (length p.key ≡ 16)
