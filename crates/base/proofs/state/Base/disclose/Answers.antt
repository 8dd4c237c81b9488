use Rattle.std.proofs.Common.{length, refl}
use Rattle.link.specs.Base.{to_disclose}
use Rattle.base.proofs.Calls.{refused_call}
use Rattle.base.proofs.Discloses.{disclosed_call, undisclosed}
use Rattle.base.proofs.state.Base.disclose.Goals as goal

pub returns-in_err-interval-clause-rules : goal.returns-in_err-interval-clause-rules
returns-in_err-interval-clause-rules g c = λ x means.
    let b = c.args.self.now in
    let out = c.args.out.now in
    let asks = undisclosed g.B.Block.make g.M.KeySource g.D.KeySource b x means c.args.reading (length out) _ c.in_err-interval.ensures in
    refused_call g.M.KeySource g.D.KeySource b x means g.B.Block.make (to_disclose c.args.reading (length out)) _ c.from_residual.result out asks c.from_residual.ensures.1

pub returns-clause-rules : goal.returns-clause-rules
returns-clause-rules g c = λ x means.
    disclosed_call g.B.Block.make g.M.KeySource g.D.KeySource c.args.self.now x means c.args.reading c.in_ok-interval.interval c.args.out.now c.write_key.new.out c.write_key.result _ c.in_ok-interval.ensures c.draw_to.ensures.given c.draw_to.ensures.serves refl refl refl refl c.write_key.ensures.value c.write_key.ensures.after
