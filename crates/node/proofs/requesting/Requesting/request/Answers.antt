use Rattle.std.proofs.Common.{sym, ap, ◌∙◌}
use Rattle.link.proofs.Exits.{passed_on}
use Rattle.packet.specs.Reading.{told}
use Rattle.node.specs.Nodes.{asking, sent}
use Rattle.node.proofs.Requests.{out_of_order, out_of_limits, wrote}
use Rattle.node.proofs.requesting.Requesting.request.Goals as goal

pub returns-then-not-in_order : goal.returns-then-not-in_order
returns-then-not-in_order c =
    let asked = out_of_order (asking c.args.pair c.args.nonce c.args.at c.args.drift) c.args.out.now (sym c.in_order.ensures ∙ c.if-not-in_order.true) in
    record { value = asked.says; after = asked.buffer }

pub returns-then-not-is_drift : goal.returns-then-not-is_drift
returns-then-not-is_drift c =
    let asked = out_of_limits (asking c.args.pair c.args.nonce c.args.at c.args.drift) c.args.out.now (sym c.in_order.ensures ∙ c.if-not-in_order.false) (sym c.is_drift.ensures ∙ c.if-not-is_drift.true) in
    record { value = asked.says; after = asked.buffer }

pub returns-in_err-length : goal.returns-in_err-length
returns-in_err-length c =
    let asked = wrote (asking c.args.pair c.args.nonce c.args.at c.args.drift) c.args.out.now c.write.result c.write.new.out (sym c.in_order.ensures ∙ c.if-not-in_order.false) (sym c.is_drift.ensures ∙ c.if-not-is_drift.false) c.write.ensures.value c.write.ensures.after in
    record {
      value = passed_on (told sent) _ _ c.from_residual.ensures.1 ∙ ap (told (λ n. (asking c.args.pair c.args.nonce c.args.at c.args.drift, n))) (sym c.in_err-length.was) ∙ asked.says;
      after = asked.buffer;
    }

pub returns : goal.returns
returns c =
    let node = asking c.args.pair c.args.nonce c.args.at c.args.drift in
    let asked = wrote node c.args.out.now c.write.result c.write.new.out (sym c.in_order.ensures ∙ c.if-not-in_order.false) (sym c.is_drift.ensures ∙ c.if-not-is_drift.false) c.write.ensures.value c.write.ensures.after in
    record { value = ap (told (λ n. (node, n))) (sym c.in_ok-length.was) ∙ asked.says; after = asked.buffer }
