use Rattle.std.proofs.Common.{◌≡◌, length, take, nat_le, true, Ok, ap, ◌∙◌, rules}
use Rattle.chain.specs.Tag.{mac, tag}
use Rattle.chain.proofs.mac.tag.Goals as goal

pub returns : goal.returns
unfolding tag
returns g c =
    let make = g.B.Block.make in
    let message = c.args.message.now in
    let fits : nat_le (length message) 4096 ≡ true = search rules in
    let same : c.in_ok-message.message.bytes.now ≡ message = search rules in
    let value : c.mac.result ≡ tag make c.args.key message = c.mac.ensures ∙ (λ i. take 8 (mac make.width (c.keyed.ensures i) (same i))) in
    rw fits (ap Ok value)
