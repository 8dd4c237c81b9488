-- What writing a packet into a buffer answers, and what the buffer holds then.
use Rattle.std.specs.Prelude.{◌≡◌, ℕ, ◌+◌, ◌≤◌, Bool, true, cond, List, ◌++◌, length, take, drop, Ok, Err, Result, nat_le}
use Rattle.refusal.specs.declared.Refusal.{Refusal}
use Rattle.refusal.specs.declared.Refusal.TheVariants.{BufferTooShort, TooLong}
use Rattle.packet.specs.Kinds.{Data, Packet, a_request, an_answer, a_data, a_key}
use Rattle.packet.specs.Layouts.{data_covered, packet_bytes, packet_length}

-- a buffer whose start was filled
unfoldable pub filled : List ℕ → List ℕ → List ℕ
filled bytes out = bytes ++ drop (length bytes) out

-- a buffer with a part put at an offset
unfoldable pub with_part : ℕ → List ℕ → List ℕ → List ℕ
with_part at part out = take at out ++ (part ++ drop (length part) (drop at out))

-- the payload has at most 64 bytes
abbrev pub short_enough : Packet → Bool
short_enough (a_request p) = true
short_enough (an_answer p) = true
short_enough (a_data p) = nat_le (length p.payload) 64
short_enough (a_key p) = true

-- writing a packet: the answer, and the buffer after
abbrev pub write_packet : Packet → List ℕ → Result ℕ Refusal × List ℕ
write_packet p out =
    cond (short_enough p)
    (cond (nat_le (packet_length p) (length out)) (Ok (packet_length p), filled (packet_bytes p) out) (Err BufferTooShort, out))
    (Err TooLong, out)

-- into any buffer that has room, writing p gives just these bytes
abbrev pub Writes : Packet → List ℕ → Type 0
Writes p bytes =
    (out : List ℕ) → length bytes ≤ length out → write_packet p out ≡ (Ok (length bytes), filled bytes out)

-- the part of a data packet that its tag covers, into a buffer of 68 bytes: the answer, and the buffer after
abbrev pub write_covered : Data → List ℕ → Result ℕ Refusal × List ℕ
write_covered p out =
    cond (short_enough (a_data p)) (Ok (4 + length p.payload), filled (data_covered p) out) (Err TooLong, out)

-- what writing a part at an offset does: it comes behind what fills the buffer's start so far
abbrev pub Puts : ℕ → List ℕ → List ℕ → List ℕ → Type 0
Puts at part before after =
    (done out : List ℕ) → length done ≡ at → before ≡ filled done out → after ≡ filled (done ++ part) out
