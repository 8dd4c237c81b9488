use Rattle.std.proofs.Common.{◌≡◌, ℕ, List, ◌++◌, map, get_or, ap, ◌∙◌}
use Rattle.std.specs.List.{range_with_len}
use Rattle.cipher.specs.Keys.{key_bytes, key_of}
use Rattle.cipher.proofs.ByteLaws.{to_be_8}
use Rattle.cipher.proofs.KeyLaws.{key_of_bytes}
use Rattle.cipher.proofs.key.Key.to_bytes.Goals as goal

abbrev eight : List ℕ → List ℕ
eight l = map (λ i. get_or l i 0) (range_with_len 0 8)

pub returns : goal.returns
unfolding key_bytes
returns c =
    let self = c.args.self in
    let fits = c.well_formed.0.1.1 in
    let value : eight c.to_be_bytes.result ++ eight c.to_be_bytes-2.result ≡ key_bytes self =
    (λ i. eight (c.to_be_bytes.ensures i) ++ eight (c.to_be_bytes-2.ensures i)) ∙ (λ i. to_be_8 self.high i ++ to_be_8 self.low i) in
    record { value = value; back = ap key_of value ∙ key_of_bytes self fits.0.1 fits.1.0.1 }
