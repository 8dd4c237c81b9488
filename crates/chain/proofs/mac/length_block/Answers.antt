use Rattle.std.proofs.Common.{◌-◌, ◌<◌, ◌^◌, rules, replicate, ◌∙◌}
use borrow.Rule.Slice.PartMut.{put_mid}
use Rattle.chain.proofs.LengthBlock.{length_block}
use Rattle.chain.proofs.mac.length_block.Goals as goal

pub returns : goal.returns
returns g c =
    let make = g.B.Block.make in
    let length = c.args.length in
    let small : length < 2 ^ 16 = search rules in
    let wide = c.width-width.ensures in
    let written = c.copy_from_slice.ensures.after ∙ c.to_be_bytes.ensures in
    (λ i. put_mid (wide i - 2) (wide i - (wide i - 2)) (replicate 16 0) (written i)) ∙ length_block make.width length make.at_least make.at_most small
