-- The turns of the walk.
use Rattle.std.proofs.Common.{sym, ◌∙◌, arith}
use Rattle.pebbles.proofs.Making.{made_all, made_more}
use Rattle.source.proofs.EvenPlaces.{first_place}
use Rattle.source.proofs.KeysFrom.{same_down}
use Rattle.source.proofs.pebbled.making.unused.Goals as goal

pub loop-j-preserved : goal.loop-j-preserved
loop-j-preserved g c =
    made_more c.loop-j.invariant _ c.down-key.result c.loop-j-test.true (omega arith) (omega arith) (first_place c.loop-j.j c.loop-j-test.true (omega arith))
    (c.down-key.ensures.value ∙ sym (same_down g.B.Block.make c.loop-j.key _))

pub returns : goal.returns
returns g c = made_all c.loop-j.invariant c.loop-j-test.false
