-- How long the layouts and their parts are.
use Rattle.std.proofs.Common.{◌≡◌, ℕ, ◌+◌, List, ◌++◌, length, arith, length-append}
use Rattle.cipher.proofs.ByteLaws.{length_to_be}
use Rattle.packet.specs.Kinds.{Answer, Data, Packet, a_request, an_answer, a_data, a_key, Fits}
use Rattle.packet.specs.Layouts.{request_bytes, answer_covered, answer_bytes, data_covered, data_bytes, disclosure_bytes, packet_bytes, packet_length}

pub length_behind : (done part : List ℕ) (m n : ℕ) → length done ≡ m → length part ≡ n → length (done ++ part) ≡ m + n
length_behind done part m n p q = grind (arith, length-append)

ruleset lengths = (length-append, length_to_be)

pub length_answer_covered : (p : Answer) → length p.key ≡ 16 → length (answer_covered p) ≡ 40
unfolding answer_covered
length_answer_covered p k = grind (arith, lengths)

pub length_data_covered : (p : Data) → length (data_covered p) ≡ 4 + length p.payload
unfolding data_covered
length_data_covered p = grind (arith, lengths)

pub length_packet_bytes : (p : Packet) → Fits p → length (packet_bytes p) ≡ packet_length p
unfolding request_bytes answer_bytes answer_covered data_bytes data_covered disclosure_bytes
length_packet_bytes (a_request p) f = grind arith
length_packet_bytes (an_answer p) f = grind (arith, lengths)
length_packet_bytes (a_data p) f = grind (arith, lengths)
length_packet_bytes (a_key p) f = grind (arith, lengths)
