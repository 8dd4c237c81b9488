use Rattle.std.proofs.Common.{Some, ap, ◌∙◌}
use Rattle.packet.specs.Kinds.{disclosure_said}
use Rattle.link.specs.Receiver.{steps, to_key}
use Rattle.link.proofs.Exits.{passed_on}
use Rattle.node.specs.Answers.{key_says}
use Rattle.node.specs.Receivers.{meaning}
use Rattle.node.proofs.Deeds.{key_unread, key_read, key_done, asked_no, asked_yes, refused_answer, refused_then}
use Rattle.node.proofs.receiver.Receiver.key.Goals as goal

pub returns-in_err-disclosed : goal.returns-in_err-disclosed
returns-in_err-disclosed g c =
    let cipher = g.B.Block.make in
    let r = meaning c.args.self.now in
    let call = to_key c.args.at.0 c.args.bytes.now in
    let does = key_unread cipher r c.args.at.0 c.args.bytes.now _ c.in_err-disclosed.ensures in
    record {
      answer = passed_on key_says _ _ c.from_residual.ensures.1 ∙ refused_answer cipher r call _ does;
      after = refused_then cipher r call _ does;
    }

pub returns-in_err-may_adopt : goal.returns-in_err-may_adopt
returns-in_err-may_adopt g c =
    let cipher = g.B.Block.make in
    let r = meaning c.args.self.now in
    let call = to_key c.args.at.0 c.args.bytes.now in
    let does = key_read cipher r c.args.at.0 c.args.bytes.now (disclosure_said c.in_ok-disclosed.disclosed) c.from_bytes-key.result (Some _) c.in_ok-disclosed.ensures c.from_bytes-key.ensures.value (asked_no _ _ c.in_err-may_adopt.ensures) in
    record {
      answer = passed_on key_says _ _ c.from_residual-in_err-may_adopt.ensures.1 ∙ refused_answer cipher r call _ does;
      after = refused_then cipher r call _ does;
    }

pub returns : goal.returns
returns g c =
    let done = key_done g.B.Block.make (meaning c.args.self.now) c.args.at.0 c.args.bytes.now (disclosure_said c.in_ok-disclosed.disclosed) c.from_bytes-key.result c.in_ok-disclosed.ensures c.from_bytes-key.ensures.value (asked_yes _ _ c.in_ok-may_adopt.ensures) in
    record { answer = ap steps (c.from-steps.ensures ∙ c.saturating_sub.ensures) ∙ done.0; after = done.1 }
