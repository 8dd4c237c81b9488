-- What writing a header or a record into a buffer answers, and what the buffer holds then.
use Rattle.std.specs.Prelude.{ℕ, cond, List, length, Ok, Err, Result, nat_le}
use Rattle.refusal.specs.declared.Refusal.{Refusal}
use Rattle.refusal.specs.declared.Refusal.TheVariants.{BufferTooShort, OutOfLimits}
use Rattle.packet.specs.Writing.{filled}
use Rattle.capture.specs.declared.forms.ByteOrder.{ByteOrder}
use Rattle.capture.specs.declared.forms.Header.{Header}
use Rattle.capture.specs.Format.{Record, header_bytes, record_bytes, record_length, regular}

abbrev pub write_header : Header → List ℕ → Result ℕ Refusal × List ℕ
write_header h out = cond (nat_le 24 (length out)) (Ok 24, filled (header_bytes h) out) (Err BufferTooShort, out)

abbrev pub write_record : ByteOrder → ℕ → Record → List ℕ → Result ℕ Refusal × List ℕ
write_record order limit r out =
    cond (regular limit r)
    (cond (nat_le (record_length r) (length out)) (Ok (record_length r), filled (record_bytes order r) out) (Err BufferTooShort, out))
    (Err OutOfLimits, out)
