use Rattle.std.proofs.Common.{◌≡◌, length, subst, rules}
use Rattle.node.specs.Receivers.{meaning}
use Rattle.playback.proofs.releasing.let_out.Goals as goal
use Rattle.playback.proofs.LettingOut.{ReleasedAs, front_within, lets_out, never_refused}

pub unwrap-requires : goal.unwrap-requires
unwrap-requires g c =
    let long : length c.args.payload.now ≡ 64 = search rules in
    never_refused g.B.Block.make _ _ _ _ _ _ long (record { says = c.release.ensures.answer; leaves = c.release.ensures.after; buffer = c.release.ensures.buffer; long = c.release.ensures.length })

pub returns-clause-lets : goal.returns-clause-lets
returns-clause-lets g c =
    let long : length c.args.payload.now ≡ 64 = search rules in
    let released : ReleasedAs g.B.Block.make (meaning c.args.receiver.now) (meaning c.release.new.self) c.args.payload.now c.release.new.out c.release.result (length c.args.payload.now) = record { says = c.release.ensures.answer; leaves = c.release.ensures.after; buffer = c.release.ensures.buffer; long = c.release.ensures.length } in
    lets_out g.B.Block.make _ _ _ _ c.unwrap.result _ long (subst (λ x. ReleasedAs g.B.Block.make (meaning c.args.receiver.now) (meaning c.release.new.self) c.args.payload.now c.release.new.out x (length c.args.payload.now)) c.unwrap.ensures released)

pub returns-clause-within : goal.returns-clause-within
returns-clause-within g c =
    let kept : length c.release.new.out ≡ 64 = search rules in
    let released : ReleasedAs g.B.Block.make (meaning c.args.receiver.now) (meaning c.release.new.self) c.args.payload.now c.release.new.out c.release.result (length c.args.payload.now) = record { says = c.release.ensures.answer; leaves = c.release.ensures.after; buffer = c.release.ensures.buffer; long = c.release.ensures.length } in
    front_within g.B.Block.make _ _ _ _ c.unwrap.result _ kept (subst (λ x. ReleasedAs g.B.Block.make (meaning c.args.receiver.now) (meaning c.release.new.self) c.args.payload.now c.release.new.out x (length c.args.payload.now)) c.unwrap.ensures released)
