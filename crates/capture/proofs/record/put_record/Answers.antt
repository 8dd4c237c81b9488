use Rattle.std.proofs.Common.{[], length, refl, arith}
use Rattle.packet.proofs.BufferLaws.{filled_none}
use Rattle.capture.specs.Format.{record_said, record_bytes}
use Rattle.capture.proofs.FieldLaws.{words_put}
use Rattle.capture.proofs.RecordLaws.{lead, length_lead, written_back}
use Rattle.capture.proofs.record.put_record.Goals as goal

pub returns : goal.returns
unfolding record_bytes
returns c =
    let r = record_said c.args.heard.now in
    let o = c.args.order in
    let out = c.args.out.now in
    let numbers = words_put o [] 0 r.seconds r.micros (length r.bytes) (length r.bytes) refl out _ _ _ _ _ (filled_none out) c.put_word.ensures c.put_word-2.ensures c.put_word-3.ensures c.put_word-4.ensures in
    let after = c.put.ensures (lead o r) out (length_lead o r) numbers in
    record { after = after; back = λ l fit small. written_back o l r out _ fit (omega arith) small after }
