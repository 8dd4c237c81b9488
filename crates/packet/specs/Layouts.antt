-- The bytes of each kind of packet. Numbers are big-endian, and the first byte is the kind.
use Rattle.std.specs.Prelude.{ℕ, ◌+◌, List, [], ◌∷◌, ◌++◌, length}
use Rattle.cipher.specs.Bytes.{to_be}
use Rattle.packet.specs.Kinds.{Request, Answer, Data, Disclosure, Packet, a_request, an_answer, a_data, a_key}

unfoldable pub request_bytes : Request → List ℕ
request_bytes p = 1 ∷ [] ++ p.nonce

-- the part of an answer that its tag covers, behind the nonce of the request: its first 40 bytes
unfoldable pub answer_covered : Answer → List ℕ
answer_covered p =
    2 ∷ [] ++ to_be 8 p.time ++ p.key ++ to_be 2 p.interval ++ to_be 8 p.start ++ to_be 4 p.duration ++ p.delay ∷ []

unfoldable pub answer_bytes : Answer → List ℕ
answer_bytes p = answer_covered p ++ p.tag

-- the part of a data packet that its tag covers: all bytes before the tag
unfoldable pub data_covered : Data → List ℕ
data_covered p = 3 ∷ [] ++ to_be 2 p.interval ++ p.number ∷ [] ++ p.payload

unfoldable pub data_bytes : Data → List ℕ
data_bytes p = data_covered p ++ p.tag

unfoldable pub disclosure_bytes : Disclosure → List ℕ
disclosure_bytes p = 4 ∷ [] ++ to_be 2 p.interval ++ p.key

abbrev pub packet_bytes : Packet → List ℕ
packet_bytes (a_request p) = request_bytes p
packet_bytes (an_answer p) = answer_bytes p
packet_bytes (a_data p) = data_bytes p
packet_bytes (a_key p) = disclosure_bytes p

abbrev pub packet_length : Packet → ℕ
packet_length (a_request p) = 9
packet_length (an_answer p) = 48
packet_length (a_data p) = 12 + length p.payload
packet_length (a_key p) = 19
