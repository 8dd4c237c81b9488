-- Reading is the inverse of writing: the bytes of a packet are read as that packet, and what is read is written as the bytes it was read from.
use Rattle.std.proofs.Common.{◌≡◌, ℕ, ◌-◌, cond, List, length, Ok, Err, Result, IfOk, refl, ◌∙◌, arith}
use Rattle.std.specs.List.{AllByRecursion}
use Rattle.std.proofs.lemmas.Bool.Decides.{nat_tests}
use Rattle.refusal.specs.declared.Refusal.{Refusal}
use Rattle.refusal.specs.declared.Refusal.TheVariants.{NotThisKind}
use Rattle.cipher.specs.Bytes.{from_be}
use Rattle.cipher.proofs.ByteLaws.{Byte}
use Rattle.packet.specs.Kinds.{Request, Answer, Data, Disclosure, Packet, a_request, an_answer, a_data, a_key, Fits}
use Rattle.packet.specs.Layouts.{request_bytes, answer_covered, answer_bytes, data_covered, data_bytes, disclosure_bytes, packet_bytes}
use Rattle.packet.specs.Reading.{told, is_kind, of_length, read_packet}
use Rattle.packet.proofs.FieldLaws.{field, byte, found, joined}

-- what is read, in fields that do not compute
abbrev request_fields : List ℕ → Request
request_fields bytes = record { nonce = field 1 8 bytes }

abbrev answer_fields : List ℕ → Answer
answer_fields bytes = record {
  time = from_be (field 1 8 bytes);
  key = field 9 16 bytes;
  interval = from_be (field 25 2 bytes);
  start = from_be (field 27 8 bytes);
  duration = from_be (field 35 4 bytes);
  delay = byte 39 bytes;
  tag = field 40 8 bytes;
}

abbrev data_fields : List ℕ → Data
data_fields bytes = record {
  interval = from_be (field 1 2 bytes);
  number = byte 3 bytes;
  payload = field 4 (length bytes - 12) bytes;
  tag = field (length bytes - 8) 8 bytes;
}

abbrev key_fields : List ℕ → Disclosure
key_fields bytes = record { interval = from_be (field 1 2 bytes); key = field 3 16 bytes }

abbrev read_fields : List ℕ → Result Packet Refusal
read_fields bytes =
    cond (is_kind 1 bytes) (told a_request (of_length 9 9 request_fields bytes))
    (cond (is_kind 2 bytes) (told an_answer (of_length 48 48 answer_fields bytes))
    (cond (is_kind 3 bytes) (told a_data (of_length 12 76 data_fields bytes))
    (cond (is_kind 4 bytes) (told a_key (of_length 19 19 key_fields bytes)) (Err NotThisKind))))

same : (bytes : List ℕ) → read_packet bytes ≡ read_fields bytes
unfolding field byte
same bytes = refl

pub read_back : (p : Packet) → Fits p → read_packet (packet_bytes p) ≡ Ok p
unfolding request_bytes answer_bytes answer_covered data_bytes data_covered disclosure_bytes
read_back (a_request p) f = same (request_bytes p) ∙ grind (arith, found, nat_tests)
read_back (an_answer p) f = same (answer_bytes p) ∙ grind (arith, found, nat_tests)
read_back (a_data p) f = same (data_bytes p) ∙ grind (arith, found, nat_tests)
read_back (a_key p) f = same (disclosure_bytes p) ∙ grind (arith, found, nat_tests)

-- p has its widths, and those bytes
abbrev pub Of : List ℕ → Packet → Type 0
Of bytes p = Fits p × (packet_bytes p ≡ bytes)

fields_made : (bytes : List ℕ) → AllByRecursion Byte bytes → IfOk (read_fields bytes) (Of bytes)
unfolding request_bytes answer_bytes answer_covered data_bytes data_covered disclosure_bytes
fields_made bytes all = grind (arith, joined, nat_tests)

-- every packet that is read has its widths, and the bytes that it was read from
pub read_made : (bytes : List ℕ) → AllByRecursion Byte bytes → IfOk (read_packet bytes) (Of bytes)
unfolding field byte
read_made = fields_made
