use Rattle.std.proofs.Common.{[], refl, ap, ◌∙◌, arith}
use Rattle.packet.specs.Writing.{filled}
use Rattle.packet.proofs.BufferLaws.{filled_none}
use Rattle.capture.specs.Format.{marks, header_bytes}
use Rattle.capture.proofs.FieldLaws.{words_put}
use Rattle.capture.proofs.HeaderLaws.{length_marks, written_back}
use Rattle.capture.proofs.header.put_header.Goals as goal

pub returns : goal.returns
unfolding header_bytes
returns c =
    let h = c.args.header.now in
    let out = c.args.out.now in
    let start = c.put.ensures [] out refl (filled_none out) ∙ ap (λ l. filled l out) c.marks.ensures in
    let after = words_put h.order (marks h.order) 8 h.zone h.accuracy h.longest h.link (length_marks h.order) out _ _ _ _ _ start c.put_word.ensures c.put_word-2.ensures c.put_word-3.ensures c.put_word-4.ensures in
    record { after = after; back = written_back h out _ (omega arith) (omega arith) (omega arith) (omega arith) after }
