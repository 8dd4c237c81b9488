use Rattle.std.proofs.Common.{Some, ap, ◌∙◌}
use Rattle.packet.specs.Kinds.{data_said}
use Rattle.link.specs.Receiver.{holds, to_take}
use Rattle.link.proofs.Exits.{passed_on}
use Rattle.node.specs.Answers.{take_says}
use Rattle.node.specs.Receivers.{meaning}
use Rattle.node.specs.Places.{held}
use Rattle.node.proofs.Deeds.{sound_then, take_unread, take_read, take_done, asked_no, asked_yes, refused_answer, refused_then}
use Rattle.node.proofs.receiver.Receiver.take.Goals as goal

pub returns-in_err-packet : goal.returns-in_err-packet
returns-in_err-packet g c =
    let cipher = g.B.Block.make in
    let r = meaning c.args.self.now in
    let call = to_take c.args.at.0 c.args.bytes.now in
    let does = take_unread cipher r c.args.at.0 c.args.bytes.now _ c.in_err-packet.ensures in
    record {
      answer = passed_on take_says _ _ c.from_residual.ensures.1 ∙ refused_answer cipher r call _ does;
      after = refused_then cipher r call _ does;
    }

pub returns-in_err-may_take : goal.returns-in_err-may_take
returns-in_err-may_take g c =
    let cipher = g.B.Block.make in
    let r = meaning c.args.self.now in
    let call = to_take c.args.at.0 c.args.bytes.now in
    let does = take_read cipher r c.args.at.0 c.args.bytes.now (data_said c.in_ok-packet.packet) (Some _) c.in_ok-packet.ensures (asked_no _ _ c.in_err-may_take.ensures) in
    record {
      answer = passed_on take_says _ _ c.from_residual-in_err-may_take.ensures.1 ∙ refused_answer cipher r call _ does;
      after = refused_then cipher r call _ does;
    }

pub invariant_of-self : goal.invariant_of-self
invariant_of-self g c =
    let cipher = g.B.Block.make in
    let self = c.args.self.now in
    let done = take_done cipher (meaning self) c.args.at.0 c.args.bytes.now (data_said c.in_ok-packet.packet) (held c.add.new.self) c.in_ok-packet.ensures (asked_yes _ _ c.in_ok-may_take.ensures) c.add.ensures in
    let sound = sound_then cipher (meaning self) (to_take c.args.at.0 c.args.bytes.now) _ done.1 (record { apart = self.apart; due = self.due }) in
    record { apart = sound.apart; due = sound.due }

pub returns : goal.returns
returns g c =
    let done = take_done g.B.Block.make (meaning c.args.self.now) c.args.at.0 c.args.bytes.now (data_said c.in_ok-packet.packet) (held c.add.new.self) c.in_ok-packet.ensures (asked_yes _ _ c.in_ok-may_take.ensures) c.add.ensures in
    record { answer = ap holds c.len.ensures ∙ done.0; after = done.1 }
