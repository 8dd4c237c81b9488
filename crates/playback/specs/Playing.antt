-- Replay: what it answers to any bytes, and the capture that it writes.
use Rattle.std.specs.Prelude.{ℕ, ◌+◌, cond, List, [], ◌∷◌, length, drop, Some, None, Ok, Err, Option, Result, ◌==◌, nat_le}
use Rattle.refusal.specs.declared.Refusal.{Refusal}
use Rattle.refusal.specs.declared.Refusal.TheVariants.{NotACapture, BufferTooShort}
use Rattle.cipher.specs.Blocks.{Make}
use Rattle.cipher.specs.Makes.{rc5_make}
use Rattle.cipher.specs.declared.key.Key.{Key}
use Rattle.packet.specs.Writing.{filled}
use Rattle.capture.specs.declared.forms.ByteOrder.TheVariants.{Little}
use Rattle.capture.specs.declared.forms.Header.{Header}
use Rattle.capture.specs.Format.{Record, capture_bytes, header_of, record_length}
use Rattle.capture.specs.Reading.{read_header, records}
use Rattle.playback.specs.declared.counts.Counts.{Counts}
use Rattle.playback.specs.Steps.{orders}

-- the block cipher that a link type names
abbrev pub cipher_of : ℕ → Option Make
cipher_of link = cond (link == 147) (Some rc5_make) None

-- a capture that can be replayed
pub record Playable : Type 0 where
  pub cipher : Make
  pub link : ℕ
  pub records : List Record

abbrev pub with_cipher : List ℕ → Header → Option Make → Result Playable Refusal
with_cipher capture h None = Err NotACapture
with_cipher capture h (Some cipher) = Ok (record { cipher = cipher; link = h.link; records = records h.order 256 (drop 24 capture) })

abbrev pub with_header : List ℕ → Result Header Refusal → Result Playable Refusal
with_header capture (Err refusal) = Err refusal
with_header capture (Ok h) = with_cipher capture h (cipher_of h.link)

abbrev pub playable : List ℕ → Result Playable Refusal
playable capture = cond (nat_le (length capture) 65536) (with_header capture (read_header capture)) (Err NotACapture)

-- under RC5
abbrev pub rc5_playable : List Record → Playable
rc5_playable xs = record { cipher = rc5_make; link = 147; records = xs }

-- the bytes of records, with those before what each heard
abbrev pub total : List Record → ℕ
total [] = 0
total (x ∷ xs) = record_length x + total xs

-- the header of the capture that comes out
abbrev pub header_out : ℕ → Header
header_out link = header_of Little 256 link

-- the capture that comes out
abbrev pub output : Key → Playable → List ℕ
output pair p = capture_bytes (header_out p.link) (orders p.cipher pair p.records)

abbrev pub counts : Key → Playable → Counts
counts pair p = record { written = length (output pair p); read = 24 + total p.records }

-- what replay answers, and the buffer after it
abbrev pub play : Key → List ℕ → Result Playable Refusal → List ℕ → Result Counts Refusal × List ℕ
play pair capture (Err refusal) out = (Err refusal, out)
play pair capture (Ok p) out =
    cond (nat_le (length capture) (length out)) (Ok (counts pair p), filled (output pair p) out) (Err BufferTooShort, out)

abbrev pub replayed : Key → List ℕ → List ℕ → Result Counts Refusal × List ℕ
replayed pair capture out = play pair capture (playable capture) out
