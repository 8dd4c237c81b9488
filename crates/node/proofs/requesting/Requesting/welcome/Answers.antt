use Rattle.std.proofs.Common.{Some, None, Ok, sym, ap, ◌∙◌}
use Rattle.link.proofs.Exits.{passed_on}
use Rattle.packet.specs.Kinds.{answer_said}
use Rattle.packet.specs.Reading.{answer_of, told}
use Rattle.node.specs.Nodes.{node_of}
use Rattle.node.proofs.Deeds.{asked_no, asked_yes}
use Rattle.node.proofs.Joining.{welcomed, answer_is, join_asked}
use Rattle.node.proofs.requesting.Requesting.welcome.Goals as goal

pub returns-in_err-may_join : goal.returns-in_err-may_join
returns-in_err-may_join g c =
    let bytes = c.args.bytes.now in
    let asks = join_asked g.B.Block.make (node_of c.args.self.now) c.args.at.0 bytes (answer_said c.in_ok-answer.answer) (Some _) c.in_ok-answer.ensures (asked_no _ _ c.in_err-may_join.ensures) in
    passed_on (told answer_said) _ _ c.from_residual-in_err-may_join.ensures.1 ∙ ap (λ o. welcomed o (answer_of bytes)) (sym asks)

pub returns : goal.returns
returns g c =
    let cipher = g.B.Block.make in
    let node = node_of c.args.self.now in
    let bytes = c.args.bytes.now in
    let a = answer_said c.in_ok-answer.answer in
    let asks = join_asked cipher node c.args.at.0 bytes a None c.in_ok-answer.ensures (asked_yes _ _ c.in_ok-may_join.ensures) in
    ap Ok (sym (answer_is cipher node c.args.at.0 bytes a c.in_ok-answer.ensures)) ∙ ap (λ o. welcomed o (answer_of bytes)) (sym asks)
