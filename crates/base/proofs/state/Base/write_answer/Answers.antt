use Rattle.std.proofs.Common.{◌≡◌, ◌+◌, ◌*◌, ◌∙◌}
use Rattle.base.proofs.Packets.{answer_written}
use Rattle.base.proofs.state.Base.write_answer.Goals as goal

pub returns-clause-after : goal.returns-clause-after
returns-clause-after g c =
    let b = c.args.self.now in
    let there = c.given-interval.ensures in
    let drawn = (g.D.KeySource.meaning b.disclosing.source).drawn in
    let began : b.schedule.start + c.from.result * c.from-2.result ≡ b.schedule.start + drawn * b.schedule.duration = λ i. b.schedule.start + (c.from.ensures ∙ there) i * c.from-2.ensures i in
    answer_written g.B.Block.make c.args.pair b.disclosing.last c.args.reading c.given-interval.result (b.schedule.start + c.from.result * c.from-2.result) b.schedule.duration b.schedule.delay drawn (b.schedule.start + drawn * b.schedule.duration) c.args.nonce.now c.to_bytes-key.result _ c.answer_tag-tag.result c.args.out.now c.write.new.out c.requires c.to_bytes-key.ensures.value there began c.answer_tag-tag.ensures c.write.ensures.after
