use Rattle.std.proofs.Common.{length, refl}
use Rattle.packet.specs.Kinds.{request_said}
use Rattle.link.specs.Base.{to_answer}
use Rattle.base.proofs.Calls.{refused_call}
use Rattle.base.proofs.Welcomes.{answered_call, unanswered, unread}
use Rattle.base.proofs.state.Base.answer.Goals as goal

pub returns-in_err-request-clause-rules : goal.returns-in_err-request-clause-rules
returns-in_err-request-clause-rules g c = λ x means.
    let out = c.args.out.now in
    let bytes = c.args.request.now in
    let asks = unread x c.args.reading c.args.pair bytes (length out) _ c.in_err-request.ensures in
    refused_call g.M.KeySource g.D.KeySource c.args.self.now x means g.B.Block.make (to_answer c.args.reading c.args.pair bytes (length out)) _ c.from_residual.result out asks c.from_residual.ensures.1

pub returns-in_err-may_answer-clause-rules : goal.returns-in_err-may_answer-clause-rules
returns-in_err-may_answer-clause-rules g c = λ x means.
    let b = c.args.self.now in
    let out = c.args.out.now in
    let bytes = c.args.request.now in
    let exit = c.from_residual-in_err-may_answer in
    let asks = unanswered g.B.Block.make g.M.KeySource g.D.KeySource b x means c.args.reading c.args.pair bytes (length out) (request_said c.in_ok-request.request) _ c.in_ok-request.ensures c.in_err-may_answer.ensures in
    refused_call g.M.KeySource g.D.KeySource b x means g.B.Block.make (to_answer c.args.reading c.args.pair bytes (length out)) _ exit.result out asks exit.ensures.1

pub returns-clause-rules : goal.returns-clause-rules
returns-clause-rules g c = λ x means.
    answered_call g.B.Block.make g.M.KeySource g.D.KeySource c.args.self.now x means c.args.reading c.args.pair c.args.request.now c.args.out.now c.write_answer.new.out (request_said c.in_ok-request.request) c.write_answer.result _ c.in_ok-request.ensures c.in_ok-may_answer.ensures refl refl refl refl refl c.write_answer.ensures.value c.write_answer.ensures.after
