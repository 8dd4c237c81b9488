-- What writing answers of a packet whose fields have their widths.
use Rattle.std.proofs.Common.{◌≡◌, ℕ, ◌+◌, List, length, take, get_or, IfOk, Ok, Err, Result, sym, ap, ◌∙◌, subst, arith, Fits as FitsWidth, w8}
use Rattle.std.proofs.ByRecursion.{All-from_get_or}
use Rattle.std.proofs.lemmas.Bool.Decides.{nat_tests}
use Rattle.std.proofs.lemmas.List.{take_at}
use Rattle.refusal.specs.declared.Refusal.{Refusal}
use Rattle.cipher.proofs.ByteLaws.{Byte}
use Rattle.packet.specs.declared.kinds
use Rattle.packet.specs.Kinds.{Request, Answer, Data, Disclosure, Packet, a_request, an_answer, a_data, a_key, Fits, said}
use Rattle.packet.specs.Layouts.{request_bytes, answer_bytes, data_bytes, disclosure_bytes, packet_bytes, packet_length}
use Rattle.packet.specs.Reading.{told, read_packet}
use Rattle.packet.specs.Writing.{filled, Writes}
use Rattle.packet.proofs.LayoutLaws.{length_packet_bytes}
use Rattle.packet.proofs.ReadBack.{read_back, Of, read_made}

-- a packet that fits is written as its bytes
pub fits_writes : (p : Packet) → Fits p → Writes p (packet_bytes p)
fits_writes (a_request p) f out room = grind (arith, nat_tests, length_packet_bytes (a_request p) f)
fits_writes (an_answer p) f out room = grind (arith, nat_tests, length_packet_bytes (an_answer p) f)
fits_writes (a_data p) f out room = grind (arith, nat_tests, length_packet_bytes (a_data p) f)
fits_writes (a_key p) f out room = grind (arith, nat_tests, length_packet_bytes (a_key p) f)

-- whatever was read is written as the bytes it was read from
pub read_writes : (r : Result kinds.Packet.Packet Refusal) (bytes : List ℕ) → ((i : ℕ) → FitsWidth w8 (get_or bytes i 0)) → told said r ≡ read_packet bytes → IfOk r (λ p. Writes (said p) bytes)
read_writes (Ok p) bytes all e =
    let made : Of bytes (said p) = subst (λ r. IfOk r (Of bytes)) (sym e) (read_made bytes (All-from_get_or Byte bytes 0 (λ i below. (all i).fits))) in
    subst (Writes (said p)) made.1 (fits_writes (said p) made.0)
read_writes (Err refusal) bytes all e = tt

-- what was written reads back
written_back : (p : Packet) (n : ℕ) (out : List ℕ) → n ≡ packet_length p → Fits p → read_packet (take n (filled (packet_bytes p) out)) ≡ Ok p
unfolding filled
written_back p n out long f = ap read_packet (take_at (packet_bytes p) _ n (length_packet_bytes p f ∙ sym long)) ∙ read_back p f

pub request_back : (p : Request) (n : ℕ) (out : List ℕ) → n ≡ 9 → Fits (a_request p) → read_packet (take n (filled (request_bytes p) out)) ≡ Ok (a_request p)
request_back p = written_back (a_request p)

pub answer_back : (p : Answer) (n : ℕ) (out : List ℕ) → n ≡ 48 → Fits (an_answer p) → read_packet (take n (filled (answer_bytes p) out)) ≡ Ok (an_answer p)
answer_back p = written_back (an_answer p)

pub data_back : (p : Data) (n : ℕ) (out : List ℕ) → n ≡ 12 + length p.payload → Fits (a_data p) → read_packet (take n (filled (data_bytes p) out)) ≡ Ok (a_data p)
data_back p = written_back (a_data p)

pub key_back : (p : Disclosure) (n : ℕ) (out : List ℕ) → n ≡ 19 → Fits (a_key p) → read_packet (take n (filled (disclosure_bytes p) out)) ≡ Ok (a_key p)
key_back p = written_back (a_key p)

-- the same of each kind, which is how `write` meets it
pub ruleset back = (request_back, answer_back, data_back, key_back)
