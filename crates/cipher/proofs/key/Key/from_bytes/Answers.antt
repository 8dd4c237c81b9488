use Rattle.std.proofs.Common.{sym, ap, ◌∙◌}
use Rattle.cipher.specs.Keys.{key_bytes, key_of}
use Rattle.cipher.proofs.ByteLaws.{spelled, array_bytes}
use Rattle.cipher.proofs.KeyLaws.{key_bytes_of}
use Rattle.cipher.proofs.key.Key.from_bytes.Goals as goal

pub returns : goal.returns
returns c =
    let bytes = c.args.bytes in
    let long = c.well_formed.0.1.0.1 in
    let value = c.from_halves.ensures ∙ ap key_of (sym (spelled bytes 16 long)) in
    record { value = value; back = ap key_bytes value ∙ key_bytes_of bytes long (array_bytes bytes _ c.well_formed.0.1.1) }
