use Rattle.std.proofs.Common.{◌≡◌, arith}
use Rattle.capture.specs.declared.forms.Header.{Header}
use Rattle.capture.specs.Reading.{header_at}
use Rattle.capture.proofs.FieldLaws.{all_bytes}
use Rattle.capture.proofs.HeaderLaws.{reads_marked, reads_unmarked, answered}
use Rattle.capture.proofs.forms.Header.read.Goals as goal

pub returns-then-bytes-lt-LENGTH : goal.returns-then-bytes-lt-LENGTH
returns-then-bytes-lt-LENGTH c =
    let bytes = c.args.bytes.now in
    let value = reads_unmarked bytes (λ o room t. omega arith) in
    record { value = value; form = answered bytes _ (all_bytes bytes c.type_inv.bytes) value; long = tt }

pub returns-in_default : goal.returns-in_default
returns-in_default c =
    let bytes = c.args.bytes.now in
    let value = reads_unmarked bytes (λ o room t. c.in_default.ensures o t) in
    record { value = value; form = answered bytes _ (all_bytes bytes c.type_inv.bytes) value; long = tt }

pub returns : goal.returns
returns c =
    let bytes = c.args.bytes.now in
    let all = all_bytes bytes c.type_inv.bytes in
    let o = c.in-Some.order in
    let same : ◌≡◌ {A = Header} (record { order = o; zone = c.word.result; accuracy = c.word-2.result; longest = c.word-3.result; link = c.word-4.result }) (header_at o bytes) =
    λ i. record { order = o; zone = c.word.ensures i; accuracy = c.word-2.ensures i; longest = c.word-3.ensures i; link = c.word-4.ensures i } in
    let value = reads_marked o bytes _ all (omega arith) c.in-Some.ensures same in
    record { value = value; form = answered bytes _ all value; long = omega arith }
