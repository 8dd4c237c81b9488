use Rattle.std.proofs.Common.{◌≡◌, ◌+◌, ◌-◌, length, take, drop, arith, length-drop, length-take}
use Rattle.capture.specs.declared.forms.ByteOrder.TheVariants.{Little}
use Rattle.capture.specs.Format.{record_length, record_said}
use Rattle.packet.proofs.BufferLaws.{puts_mid}
use Rattle.capture.proofs.RecordLaws.{length_record_bytes}
use Rattle.playback.proofs.Orders.{wrote_order}
use Rattle.playback.proofs.replaying.put_order.Goals as goal

pub returns-clause-after : goal.returns-clause-after
returns-clause-after c =
    let o = record_said c.args.order.now in
    let long : length (take ((c.args.written + 16 + length c.args.order.now.bytes.now) - c.args.written) (drop c.args.written c.args.out.now)) ≡ record_length o = simp (length-take, length-drop) (omega arith) in
    let wrote = wrote_order o _ _ _ _ c.requires.regular long c.write.ensures.value c.write.ensures.after c.unwrap-length.ensures in
    puts_mid _ _ _ _ _ (omega (arith, length_record_bytes Little o)) wrote.1
