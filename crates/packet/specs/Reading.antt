-- What reading a byte string answers: first the kind is asked for, then the length, and nothing else.
use Rattle.std.specs.Prelude.{ℕ, ◌-◌, Bool, cond, ◌&&◌, List, length, take, drop, Ok, Err, Result, ◌==◌, nat_le, nat_lt, slice_index}
use Rattle.std.specs.Result.{result_map_both}
use Rattle.refusal.specs.declared.Refusal.{Refusal}
use Rattle.refusal.specs.declared.Refusal.TheVariants.{NotThisKind, WrongLength}
use Rattle.cipher.specs.Bytes.{from_be}
use Rattle.packet.specs.Kinds.{Request, Answer, Data, Disclosure, Packet, a_request, an_answer, a_data, a_key}

-- n bytes from an offset on, also as a number
abbrev pub part : ℕ → ℕ → List ℕ → List ℕ
part from n bytes = take n (drop from bytes)

abbrev pub number_at : ℕ → ℕ → List ℕ → ℕ
number_at from n bytes = from_be (part from n bytes)

abbrev pub byte_at : ℕ → List ℕ → ℕ
byte_at from bytes = slice_index bytes from

-- the fields of each kind, at their offsets
abbrev pub request_of : List ℕ → Request
request_of bytes = record { nonce = part 1 8 bytes }

abbrev pub answer_of : List ℕ → Answer
answer_of bytes = record {
  time = number_at 1 8 bytes;
  key = part 9 16 bytes;
  interval = number_at 25 2 bytes;
  start = number_at 27 8 bytes;
  duration = number_at 35 4 bytes;
  delay = byte_at 39 bytes;
  tag = part 40 8 bytes;
}

-- the payload is what lies between the first 4 and the last 8 bytes
abbrev pub data_of : List ℕ → Data
data_of bytes = record {
  interval = number_at 1 2 bytes;
  number = byte_at 3 bytes;
  payload = part 4 (length bytes - 12) bytes;
  tag = part (length bytes - 8) 8 bytes;
}

abbrev pub disclosure_of : List ℕ → Disclosure
disclosure_of bytes = record { interval = number_at 1 2 bytes; key = part 3 16 bytes }

-- a packet of a length from low to high
abbrev pub of_length : {P : Type 0} → ℕ → ℕ → (List ℕ → P) → List ℕ → Result P Refusal
of_length low high fields bytes =
    cond (nat_le low (length bytes) && nat_le (length bytes) high) (Ok (fields bytes)) (Err WrongLength)

-- the first byte is there, and is the kind
abbrev pub is_kind : ℕ → List ℕ → Bool
is_kind kind bytes = nat_lt 0 (length bytes) && slice_index bytes 0 == kind

-- a packet of one kind: the reader looks only at its length and fields
abbrev pub of_kind : {P : Type 0} → ℕ → (List ℕ → Result P Refusal) → List ℕ → Result P Refusal
of_kind kind reader bytes = cond (is_kind kind bytes) (reader bytes) (Err NotThisKind)

-- each kind, where the first byte is known to be it
abbrev pub request_long : List ℕ → Result Request Refusal
request_long = of_length 9 9 request_of

abbrev pub answer_long : List ℕ → Result Answer Refusal
answer_long = of_length 48 48 answer_of

abbrev pub data_long : List ℕ → Result Data Refusal
data_long = of_length 12 76 data_of

abbrev pub disclosure_long : List ℕ → Result Disclosure Refusal
disclosure_long = of_length 19 19 disclosure_of

-- the reader of each kind
abbrev pub read_request : List ℕ → Result Request Refusal
read_request = of_kind 1 request_long

abbrev pub read_answer : List ℕ → Result Answer Refusal
read_answer = of_kind 2 answer_long

abbrev pub read_data : List ℕ → Result Data Refusal
read_data = of_kind 3 data_long

abbrev pub read_key : List ℕ → Result Disclosure Refusal
read_key = of_kind 4 disclosure_long

-- a result, with f of what was read
abbrev pub told : {P Q : Type 0} → (P → Q) → Result P Refusal → Result Q Refusal
told f = result_map_both f (λ refusal. refusal)

-- a packet of any kind
abbrev pub read_packet : List ℕ → Result Packet Refusal
read_packet bytes =
    cond (is_kind 1 bytes) (told a_request (request_long bytes))
    (cond (is_kind 2 bytes) (told an_answer (answer_long bytes))
    (cond (is_kind 3 bytes) (told a_data (data_long bytes))
    (cond (is_kind 4 bytes) (told a_key (disclosure_long bytes)) (Err NotThisKind))))
