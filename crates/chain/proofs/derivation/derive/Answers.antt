use Rattle.std.proofs.Common.{◌≡◌, [], ◌∷◌, ◌++◌, take, ◌∙◌, rules}
use Rattle.cipher.specs.Keys.{key_of}
use Rattle.chain.specs.Tag.{mac, tag}
use Rattle.chain.specs.Chain.{derive}
use Rattle.chain.proofs.derivation.derive.Goals as goal

pub returns : goal.returns
unfolding derive tag
returns g c =
    let w = g.B.Block.make.width in
    let purpose = c.args.purpose in
    let first : c.from.result.bytes.now ≡ purpose ∷ 0 ∷ [] = search rules in
    let second : c.from-2.result.bytes.now ≡ purpose ∷ 1 ∷ [] = search rules in
    let high = c.mac-high.ensures ∙ (λ i. take 8 (mac w (c.keyed-cipher.ensures i) (first i))) in
    let low = c.mac-low.ensures ∙ (λ i. take 8 (mac w (c.keyed-cipher.ensures i) (second i))) in
    c.from_halves.ensures ∙ (λ i. key_of (high i ++ low i))
