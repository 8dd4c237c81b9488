-- The format of a capture: the bytes of its header and of each record, in either byte order.
use Rattle.std.specs.Prelude.{ℕ, ◌+◌, ◌-◌, ◌*◌, Bool, ◌&&◌, List, ◌++◌, length, nat_le, nat_lt, replicate, codes}
use Rattle.std.specs.Fmt.{decimal}
use Rattle.std.specs.List.{flat_map}
use Rattle.cipher.specs.Bytes.{to_le, to_be}
use Rattle.capture.specs.declared.forms.ByteOrder.{ByteOrder}
use Rattle.capture.specs.declared.forms.ByteOrder.TheVariants.{Little, Big}
use Rattle.capture.specs.declared.forms.Header.{Header}
use Rattle.capture.specs.declared.forms.Time.{Time}
use Rattle.capture.specs.declared.forms as forms

-- what was heard, and when
pub record Record : Type 0 where
  pub seconds : ℕ
  pub micros : ℕ
  pub bytes : List ℕ

-- what the code's record, which borrows, says
abbrev pub record_said : forms.Record.Record → Record
record_said r = record { seconds = r.at.seconds; micros = r.at.micros; bytes = r.bytes.now }

-- a time in microseconds, and that of a record
abbrev pub in_micros : Time → ℕ
in_micros t = t.seconds * 1000000 + t.micros

abbrev pub time : Record → ℕ
time r = in_micros (record { seconds = r.seconds; micros = r.micros })

-- a time as it is printed: the seconds, a point, and the microseconds with zeros before them up to six digits
abbrev pub time_text : Time → List ℕ
time_text t = decimal t.seconds ++ (codes "." ++ (replicate (6 - length (decimal t.micros)) 48 ++ decimal t.micros))

-- a number in n bytes
abbrev pub number : ByteOrder → ℕ → ℕ → List ℕ
number Little n x = to_le n x
number Big n x = to_be n x

-- what every header begins with: the magic, which tells the byte order, and version 2.4
unfoldable pub marks : ByteOrder → List ℕ
marks order = number order 4 0xa1b2c3d4 ++ number order 2 2 ++ number order 2 4

-- the header before records in this order and of at most `limit` bytes: no zone, and no accuracy
abbrev pub header_of : ByteOrder → ℕ → ℕ → Header
header_of order limit link = record { order = order; zone = 0; accuracy = 0; longest = limit; link = link }

unfoldable pub header_bytes : Header → List ℕ
header_bytes h =
    marks h.order ++ number h.order 4 h.zone ++ number h.order 4 h.accuracy ++ number h.order 4 h.longest ++ number h.order 4 h.link

-- the stored and the original length are equal
unfoldable pub record_bytes : ByteOrder → Record → List ℕ
record_bytes order r =
    number order 4 r.seconds ++ number order 4 r.micros ++ number order 4 (length r.bytes) ++ number order 4 (length r.bytes) ++ r.bytes

abbrev pub record_length : Record → ℕ
record_length r = 16 + length r.bytes

-- a record that a capture may have, where one has at most `limit` bytes
abbrev pub regular : ℕ → Record → Bool
regular limit r = nat_lt r.micros 1000000 && nat_le (length r.bytes) limit

abbrev pub records_bytes : ByteOrder → List Record → List ℕ
records_bytes order = flat_map (record_bytes order)

-- a whole capture
abbrev pub capture_bytes : Header → List Record → List ℕ
capture_bytes h records = header_bytes h ++ records_bytes h.order records
