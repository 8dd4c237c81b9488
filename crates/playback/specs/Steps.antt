-- What a replay tells, record by record, and the orders that come out.
use Rattle.std.specs.Prelude.{ℕ, true, false, List, [], ◌∷◌, ◌++◌, map, Ok, Err, Result}
use Rattle.std.specs.List.{flat_map}
use Rattle.refusal.specs.declared.Refusal.{Refusal}
use Rattle.cipher.specs.Blocks.{Make}
use Rattle.cipher.specs.declared.key.Key.{Key}
use Rattle.packet.specs.Kinds.{Packet, a_request, an_answer, a_data, a_key}
use Rattle.packet.specs.Reading.{read_packet}
use Rattle.capture.specs.Format.{Record, time}
use Rattle.link.specs.Receiver.{Receiver, Answer, to_take, to_key, refused, holds, steps, none, out, answer, released}
use Rattle.link.specs.Join.{finish}
use Rattle.playback.specs.Parts.{Part, silent, asking, receiving, calls, next}

-- what the node makes of a record
pub data Hearing : Type 0 where
  -- passed over: the node has yet to ask, or to join
  too_soon : Hearing
  -- passed over: the node has asked, or joined, before
  repeated : Hearing
  asked : Hearing
  has_joined : Hearing
  -- a call was made, or the packet could not be read
  answered : Answer → Hearing

abbrev pub join_hearing : Result Receiver Refusal → Hearing
join_hearing (Ok r) = has_joined
join_hearing (Err refusal) = answered (refused refusal)

-- a packet at a time
abbrev pub packet_hearing : Make → Part → ℕ → List ℕ → Packet → Hearing
packet_hearing cipher silent t bytes (a_request p) = asked
packet_hearing cipher silent t bytes (an_answer p) = too_soon
packet_hearing cipher silent t bytes (a_data p) = too_soon
packet_hearing cipher silent t bytes (a_key p) = too_soon
packet_hearing cipher (asking node) t bytes (a_request p) = repeated
packet_hearing cipher (asking node) t bytes (an_answer p) = join_hearing (finish cipher node t bytes)
packet_hearing cipher (asking node) t bytes (a_data p) = too_soon
packet_hearing cipher (asking node) t bytes (a_key p) = too_soon
packet_hearing cipher (receiving r) t bytes (a_request p) = repeated
packet_hearing cipher (receiving r) t bytes (an_answer p) = repeated
packet_hearing cipher (receiving r) t bytes (a_data p) = answered (answer cipher r (to_take t bytes))
packet_hearing cipher (receiving r) t bytes (a_key p) = answered (answer cipher r (to_key t bytes))

abbrev pub read_hearing : Make → Part → ℕ → List ℕ → Result Packet Refusal → Hearing
read_hearing cipher part t bytes (Ok p) = packet_hearing cipher part t bytes p
read_hearing cipher part t bytes (Err refusal) = answered (refused refusal)

unfoldable pub hearing : Make → Part → Record → Hearing
hearing cipher part x = read_hearing cipher part (time x) x.bytes (read_packet x.bytes)

pub data Step : Type 0 where
  heard : Record → Hearing → Step
  -- at the seconds and microseconds of a granted key, what a release answered
  let_out : ℕ → ℕ → Answer → Step

-- what goes out at a record
unfoldable pub let_outs : Make → Part → Record → List Answer
let_outs cipher silent x = []
let_outs cipher (asking node) x = []
let_outs cipher (receiving r) x = released cipher r (calls cipher r x)

unfoldable pub walked : Make → Key → Part → List Record → List Step
walked cipher pair part [] = []
walked cipher pair part (x ∷ xs) =
    heard x (hearing cipher part x) ∷ map (let_out x.seconds x.micros) (let_outs cipher part x) ++ walked cipher pair (next cipher pair part x) xs

-- the payload of a true release
abbrev pub payload_out : Answer → List (List ℕ)
payload_out (refused refusal) = []
payload_out (holds count) = []
payload_out (steps count) = []
payload_out none = []
payload_out (out interval number payload true) = payload ∷ []
payload_out (out interval number payload false) = []

-- a true release is an order: a record of its payload, at the time of the key
abbrev pub order_out : ℕ → ℕ → Answer → List Record
order_out seconds micros answer = map (λ payload. record { seconds = seconds; micros = micros; bytes = payload }) (payload_out answer)

abbrev pub order_of : Step → List Record
order_of (heard x hearing) = []
order_of (let_out seconds micros answer) = order_out seconds micros answer

-- the orders that come out of records
abbrev pub orders : Make → Key → List Record → List Record
orders cipher pair xs = flat_map order_of (walked cipher pair silent xs)
