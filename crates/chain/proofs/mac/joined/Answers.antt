use Rattle.std.proofs.Common.{◌≡◌, ◌-◌, length, get_or, bit_xor, sym, ◌∙◌, rules}
use Rattle.cipher.proofs.Arrays.{filled_by}
use Rattle.chain.specs.Tag.{filled}
use Rattle.chain.proofs.TagLaws.{xor_by_bytes, xor_filled}
use Rattle.chain.proofs.mac.joined.Goals as goal

pub returns : goal.returns
unfolding filled
returns c =
    let state = c.args.state in
    let part = c.args.part.now in
    let block = filled 16 part in
    let long : length state ≡ 16 = search rules in
    filled_by (λ i. bit_xor (get_or state i 0) (get_or block i 0)) 16 c.from_fn.ensures.items (λ i r q below k. search rules) ∙ sym (xor_by_bytes state block 16 long) ∙ xor_filled state part (16 - length part)
