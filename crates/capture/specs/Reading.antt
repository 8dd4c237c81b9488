-- What reading gives: a header or a record is read exactly where its bytes stand.
use Rattle.std.specs.Prelude.{◌≡◌, ℕ, ◌+◌, ◌^◌, ◌<◌, ◌≤◌, Bool, true, cond, ◌&&◌, List, [], ◌∷◌, ◌++◌, length, take, drop, Some, None, Ok, Err, Option, Result, ◌≢◌}
use Rattle.std.specs.List.{AllByRecursion}
use Rattle.std.specs.Str.{bytes_eq}
use Rattle.refusal.specs.declared.Refusal.{Refusal}
use Rattle.refusal.specs.declared.Refusal.TheVariants.{NotACapture}
use Rattle.cipher.specs.Bytes.{from_le, from_be}
use Rattle.packet.specs.Reading.{part}
use Rattle.capture.specs.declared.forms.ByteOrder.{ByteOrder}
use Rattle.capture.specs.declared.forms.ByteOrder.TheVariants.{Little, Big}
use Rattle.capture.specs.declared.forms.Header.{Header}
use Rattle.capture.specs.Format.{Record, marks, header_bytes, record_bytes, record_length, regular, records_bytes}

-- the bytes begin with these
abbrev pub begins_with : List ℕ → List ℕ → Bool
begins_with front bytes = bytes_eq (take (length front) bytes) front

-- the order in which the marks of a header come first, or none
abbrev pub MarkedIn : List ℕ → Option ByteOrder → Type 0
MarkedIn bytes (Some order) = begins_with (marks order) bytes ≡ true
MarkedIn bytes None = (order : ByteOrder) → begins_with (marks order) bytes ≢ true

-- the number in four bytes at an offset
abbrev pub word_at : ByteOrder → ℕ → List ℕ → ℕ
word_at Little from bytes = from_le (part from 4 bytes)
word_at Big from bytes = from_be (part from 4 bytes)

-- the header and the record that would stand at the start of bytes
abbrev pub header_at : ByteOrder → List ℕ → Header
header_at order bytes = record {
  order = order;
  zone = word_at order 8 bytes;
  accuracy = word_at order 12 bytes;
  longest = word_at order 16 bytes;
  link = word_at order 20 bytes;
}

abbrev pub record_at : ByteOrder → List ℕ → Record
record_at order bytes = record {
  seconds = word_at order 0 bytes;
  micros = word_at order 4 bytes;
  bytes = part 16 (word_at order 8 bytes) bytes;
}

-- in the one byte order, else in the other
abbrev pub read_header : List ℕ → Result Header Refusal
read_header bytes =
    cond (begins_with (header_bytes (header_at Little bytes)) bytes) (Ok (header_at Little bytes))
    (cond (begins_with (header_bytes (header_at Big bytes)) bytes) (Ok (header_at Big bytes)) (Err NotACapture))

-- a header that is read is what the bytes begin with, and where none is read, none stands there
abbrev pub HeaderForm : List ℕ → Result Header Refusal → Type 0
HeaderForm bytes (Ok h) = take 24 bytes ≡ header_bytes h
HeaderForm bytes (Err refusal) = (h : Header) (rest : List ℕ) → bytes ≢ header_bytes h ++ rest

-- none where the record is incomplete or irregular
unfoldable pub read_record : ByteOrder → ℕ → List ℕ → Option Record
read_record order limit bytes =
    cond (regular limit (record_at order bytes) && begins_with (record_bytes order (record_at order bytes)) bytes)
    (Some (record_at order bytes)) None

-- a record that is read is regular, and its bytes come first; where none is read, no regular one stands there
abbrev pub RecordForm : ByteOrder → ℕ → List ℕ → Option Record → Type 0
RecordForm order limit bytes (Some r) = (regular limit r ≡ true) × (bytes ≡ record_bytes order r ++ drop (record_length r) bytes)
RecordForm order limit bytes None =
    (r : Record) (rest : List ℕ) → regular limit r ≡ true → bytes ≢ record_bytes order r ++ rest

-- what is asked of the fields, where a regular record is to stand with all of its bytes; then it ends behind them
pub record Complete (order : ByteOrder) (limit : ℕ) (bytes : List ℕ) : Type 0 where
  pub lead : 16 ≤ length bytes
  pub time : word_at order 4 bytes < 1000000
  pub short : word_at order 8 bytes ≤ limit
  pub uncut : word_at order 8 bytes ≡ word_at order 12 bytes
  pub whole : 16 + word_at order 8 bytes ≤ length bytes

abbrev pub EndsAt : ByteOrder → ℕ → List ℕ → Option ℕ → Type 0
EndsAt order limit bytes (Some end) = Complete order limit bytes × (end ≡ 16 + word_at order 8 bytes)
EndsAt order limit bytes None = Complete order limit bytes → ⊥

-- under each limit that it keeps, the record is read from these bytes
abbrev pub ReadsBack : ByteOrder → Record → List ℕ → Type 0
ReadsBack order r bytes = (limit : ℕ) → regular limit r ≡ true → limit < 2 ^ 32 → read_record order limit bytes ≡ Some r

-- a record, and the records behind its bytes
abbrev pub onward : Option Record → (ℕ → List Record) → List Record
onward None behind = []
onward (Some r) behind = r ∷ behind (record_length r)

-- the records from the start of bytes on, up to the first that is not read; there are no more than `most` has members
unfoldable pub records_within : List ℕ → ByteOrder → ℕ → List ℕ → List Record
records_within [] order limit bytes = []
records_within (b ∷ most) order limit bytes = onward (read_record order limit bytes) (λ n. records_within most order limit (drop n bytes))

-- a record has at least one byte, so that there are no more records than bytes
unfoldable pub records : ByteOrder → ℕ → List ℕ → List Record
records order limit bytes = records_within bytes order limit bytes

-- bytes from the start on: those of the records, and what is left, where no record stands
pub record Whole (order : ByteOrder) (limit : ℕ) (bytes : List ℕ) (rs : List Record) : Type 0 where
  pub rest : List ℕ
  pub split : bytes ≡ records_bytes order rs ++ rest
  pub ends : read_record order limit rest ≡ None

-- a record that can be written, and read again
abbrev pub Writable : ℕ → Record → Type 0
Writable limit r = (regular limit r ≡ true) × (r.seconds < 2 ^ 32)

-- where such records stand one after another, and nothing else, they are the ones read
abbrev pub RecordsBack : ByteOrder → ℕ → List ℕ → List Record → Type 0
RecordsBack order limit bytes read = (rs : List Record) → AllByRecursion (Writable limit) rs → bytes ≡ records_bytes order rs → read ≡ rs
