use Rattle.std.proofs.Common.{◌≡◌, true, leb, length, replicate, Ok}
use Rattle.std.proofs.lemmas.Bool.{le-leb}
use Rattle.packet.specs.Kinds.{Data}
use Rattle.link.specs.Receiver.{data_tag}
use Rattle.base.proofs.Packets.{order_written}
use Rattle.base.proofs.orders.write_order.Goals as goal

pub returns-clause-after : goal.returns-clause-after
returns-clause-after g c =
    let draft : Data = record { interval = c.args.interval; number = c.args.number; payload = c.args.payload.now; tag = replicate 8 0 } in
    let short : leb (length c.args.payload.now) 64 ≡ true = le-leb _ 64 c.requires.short in
    let right : c.data_tag.result ≡ Ok (data_tag g.B.Block.make c.args.key draft) = rw short at c.data_tag.ensures in
    let was : c.data_tag.result ≡ Ok c.in_ok-tag.tag = c.in_ok-tag.was in
    let tag : c.in_ok-tag.tag ≡ data_tag g.B.Block.make c.args.key draft = cc in
    order_written g.B.Block.make c.args.key c.args.interval c.args.number c.args.payload.now draft.tag c.in_ok-tag.tag c.args.out.now c.write.new.out c.requires.short c.requires.room tag c.write.ensures.after
