use Rattle.std.proofs.Common.{sym, ap, ◌∙◌}
use Rattle.std.proofs.lemmas.List.{take_at, drop_at}
use Rattle.cipher.specs.Bytes.{from_be}
use Rattle.cipher.specs.Keys.{key_of}
use Rattle.cipher.proofs.ByteLaws.{spelled, from_be_8}
use Rattle.cipher.proofs.key.Key.from_halves.Goals as goal

pub returns : goal.returns
unfolding key_of
returns c =
    let high = c.args.high in
    let low = c.args.low in
    let long = c.well_formed.0.1.0.1 in
    let front = c.from_be_bytes.ensures ∙ from_be_8 _ _ _ _ _ _ _ _ ∙ ap from_be (sym (spelled high 8 long)) ∙ ap from_be (sym (take_at high low 8 long)) in
    let back = c.from_be_bytes-2.ensures ∙ from_be_8 _ _ _ _ _ _ _ _ ∙ ap from_be (sym (spelled low 8 c.well_formed.1.0.1.0.1)) ∙ ap from_be (sym (drop_at high low 8 long)) in
    λ i. record { high = front i; low = back i }
