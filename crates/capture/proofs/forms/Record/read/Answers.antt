use Rattle.std.proofs.Common.{Some, sym, ap, ◌∙◌, arith, rules}
use Rattle.std.specs.Option.{option_map}
use Rattle.capture.specs.Format.{record_said}
use Rattle.capture.proofs.FieldLaws.{all_bytes}
use Rattle.capture.proofs.RecordLaws.{found, reads_record, reads_no_record, answered}
use Rattle.capture.proofs.forms.Record.read.Goals as goal

pub returns-in_err-end : goal.returns-in_err-end
returns-in_err-end c =
    let bytes = c.args.bytes.now in
    let value = ap (option_map record_said) c.from_residual.ensures ∙ sym (reads_no_record _ _ bytes (omega arith) c.in_err-end.ensures) in
    record { value = value; form = answered _ _ bytes _ (all_bytes bytes c.type_inv.bytes) (omega arith) value; long = search rules }

pub returns : goal.returns
returns c =
    let bytes = c.args.bytes.now in
    let all = all_bytes bytes c.type_inv.bytes in
    let ends = c.in_ok-end.ensures in
    let value = ap Some (found _ bytes _ _ _ c.word.ensures c.word-2.ensures ends.1) ∙ sym (reads_record _ _ bytes all ends.0) in
    record { value = value; form = answered _ _ bytes _ all (omega arith) value; long = search rules }
