use Rattle.packet.specs.Kinds.{data_said}
use Rattle.link.proofs.Coverings.{covered_tag}
use Rattle.link.proofs.tags.data_tag.Goals as goal

pub returns : goal.returns
returns g c =
    covered_tag g.B.Block.make c.args.key c.interval_tag_key-under.result (data_said c.args.packet.now) c.in_ok-length.length _ c.covered.new.out c.covered.result c.tag.result
    c.covered.ensures.value c.covered.ensures.after c.in_ok-length.was c.interval_tag_key-under.ensures c.tag.ensures
