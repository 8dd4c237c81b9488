use Rattle.std.proofs.Common.{length, refl}
use Rattle.link.specs.Base.{to_make}
use Rattle.base.proofs.Calls.{refused_call}
use Rattle.base.proofs.Makes.{made_call, unmade}
use Rattle.base.proofs.state.Base.make.Goals as goal

pub returns-in_err-interval-clause-rules : goal.returns-in_err-interval-clause-rules
returns-in_err-interval-clause-rules g c = λ x means.
    let b = c.args.self.now in
    let out = c.args.out.now in
    let payload = c.args.payload.now in
    let asks = unmade g.M.KeySource g.D.KeySource b x means c.args.reading payload (length out) _ c.in_err-interval.ensures in
    refused_call g.M.KeySource g.D.KeySource b x means g.B.Block.make (to_make c.args.reading payload (length out)) _ c.from_residual.result out asks c.from_residual.ensures.1

pub returns-clause-rules : goal.returns-clause-rules
returns-clause-rules g c = λ x means.
    made_call g.B.Block.make g.M.KeySource g.D.KeySource c.args.self.now x means c.args.reading c.in_ok-interval.interval c.made_in-number.result c.args.payload.now c.args.out.now c.write_order.new.out c.write_order.result _ c.in_ok-interval.ensures c.made_in-number.ensures c.draw_to.ensures.given c.draw_to.ensures.serves refl refl refl refl c.write_order.ensures.value c.write_order.ensures.after
