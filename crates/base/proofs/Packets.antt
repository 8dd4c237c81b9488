-- What is written, and the tags over it.
use Rattle.std.proofs.Common.{◌≡◌, ℕ, ◌+◌, ◌≤◌, true, leb, List, length, refl, ap, ◌∙◌}
use Rattle.std.proofs.lemmas.Bool.{le-leb}
use Rattle.cipher.specs.Blocks.{Make}
use Rattle.cipher.specs.Keys.{key_bytes}
use Rattle.cipher.specs.declared.key.Key.{Key}
use Rattle.packet.specs.Kinds.{Answer, Data, Packet, a_data, an_answer}
use Rattle.packet.specs.Layouts.{answer_bytes, answer_covered, data_bytes, data_covered, packet_bytes, packet_length}
use Rattle.packet.specs.Writing.{filled, short_enough, write_packet}
use Rattle.link.specs.Join.{answer_tag}
use Rattle.link.specs.Receiver.{data_tag}
use Rattle.base.specs.Asked.{answer_under, answer_untagged, data_under}

-- a packet that is short enough, into a buffer that has room
wrote : (p : Packet) (out after : List ℕ) → short_enough p ≡ true → packet_length p ≤ length out → after ≡ (write_packet p out).1 → after ≡ filled (packet_bytes p) out
wrote p out after short room buffer = let roomy : leb (packet_length p) (length out) ≡ true = le-leb _ _ room in rw (short, roomy) at buffer

-- an order with the tag of its draft
pub order_written : (cipher : Make) (key : Key) (interval number : ℕ) (payload none found out after : List ℕ) → length payload ≤ 64 → 12 + length payload ≤ length out →
    found ≡ data_tag cipher key (record { interval = interval; number = number; payload = payload; tag = none }) →
    after ≡ (write_packet (a_data (record { interval = interval; number = number; payload = payload; tag = found })) out).1 →
    after ≡ filled (data_bytes (data_under cipher key interval number payload)) out
unfolding data_covered
order_written cipher key interval number payload none found out after few room tag_is buffer =
    let p : List ℕ → Data = λ t. record { interval = interval; number = number; payload = payload; tag = t } in
    wrote (a_data (p found)) out after (le-leb _ 64 few) room buffer ∙ ap (λ t. filled (data_bytes (p t)) out) tag_is

-- an answer with the tag of its draft
pub answer_written : (cipher : Make) (pair key : Key) (time interval start duration delay interval' start' : ℕ) (nonce bytes none found out after : List ℕ) → 48 ≤ length out →
    bytes ≡ key_bytes key → interval ≡ interval' → start ≡ start' →
    found ≡ answer_tag cipher pair nonce (record { time = time; key = bytes; interval = interval; start = start; duration = duration; delay = delay; tag = none }) →
    after ≡ (write_packet (an_answer (record { time = time; key = bytes; interval = interval; start = start; duration = duration; delay = delay; tag = found })) out).1 →
    after ≡ filled (answer_bytes (answer_under cipher pair nonce (answer_untagged time key interval' start' duration delay))) out
unfolding answer_covered
answer_written cipher pair key time interval start duration delay interval' start' nonce bytes none found out after room same there then tag_is buffer =
    let told : List ℕ → ℕ → ℕ → List ℕ → Answer = λ k i t g. record { time = time; key = k; interval = i; start = t; duration = duration; delay = delay; tag = g } in
    let right : found ≡ answer_tag cipher pair nonce (told (key_bytes key) interval' start' none) = tag_is ∙ (λ k. answer_tag cipher pair nonce (told (same k) (there k) (then k) none)) in
    wrote (an_answer (told bytes interval start found)) out after refl room buffer ∙ (λ k. filled (answer_bytes (told (same k) (there k) (then k) (right k))) out)
