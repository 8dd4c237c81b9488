use Rattle.std.proofs.Common.{length, sym, refl, ap, ◌∙◌}
use Rattle.link.specs.Reception.{refuses, releases, rests, right_now}
use Rattle.link.specs.Receiver.{to_release, world, out_of}
use Rattle.refusal.specs.declared.Refusal.TheVariants.{BufferTooShort}
use Rattle.node.specs.Clocks.{clock_of}
use Rattle.node.specs.Places.{held, slot_said}
use Rattle.node.specs.Receivers.{meaning}
use Rattle.node.proofs.Deeds.{answer_of, sound_then, then_of, refused_then}
use Rattle.node.proofs.Releases.{release_short, release_none, release_then, told_as, told_quiet}
use Rattle.node.proofs.receiver.Receiver.release.Goals as goal

pub returns-then-out-lt-MAX_PAYLOAD : goal.returns-then-out-lt-MAX_PAYLOAD
returns-then-out-lt-MAX_PAYLOAD g c =
    let cipher = g.B.Block.make in
    let r = meaning c.args.self.now in
    let before = c.args.out.now in
    let call = to_release (length before) in
    let does = release_short cipher r (length before) c.if-out-lt-MAX_PAYLOAD.true in
    let said = told_quiet cipher r call (refuses BufferTooShort) before does refl in
    record { answer = said.answers; length = said.long; after = refused_then cipher r call _ does; buffer = said.buffer }

pub returns-in_default : goal.returns-in_default
returns-in_default g c =
    let cipher = g.B.Block.make in
    let r = meaning c.args.self.now in
    let before = c.args.out.now in
    let call = to_release (length before) in
    let does = release_none cipher r (length before) c.if-out-lt-MAX_PAYLOAD.false c.in_default.ensures in
    let said = told_quiet cipher r call rests before does refl in
    record { answer = said.answers; length = said.long; after = sym (then_of cipher r call rests does); buffer = said.buffer }

pub invariant_of-self-2 : goal.invariant_of-self-2
invariant_of-self-2 g c =
    let cipher = g.B.Block.make in
    let self = c.args.self.now in
    let r = meaning self in
    let room = length c.args.out.now in
    let p = slot_said c.get-record.result in
    let right = c.is_right-verdict.ensures ∙ ap (right_now (world cipher (clock_of self.clock)) (meaning self).state) c.packet.ensures in
    let done = release_then cipher r room c.in-Some.place p c.is_right-verdict.result (held c.remove.new.self) c.in-Some.ensures c.get-record.ensures c.if-out-lt-MAX_PAYLOAD.false right self.apart c.remove.ensures.held in
    let sound = sound_then cipher r (to_release room) _ done.1 (record { apart = self.apart; due = self.due }) in
    record { apart = sound.apart; due = self.due }

pub returns : goal.returns
returns g c =
    let cipher = g.B.Block.make in
    let self = c.args.self.now in
    let r = meaning self in
    let before = c.args.out.now in
    let call = to_release (length before) in
    let p = slot_said c.get-record.result in
    let v = c.is_right-verdict.result in
    let right = c.is_right-verdict.ensures ∙ ap (right_now (world cipher (clock_of self.clock)) (meaning self).state) c.packet.ensures in
    let done = release_then cipher r (length before) c.in-Some.place p v (held c.remove.new.self) c.in-Some.ensures c.get-record.ensures c.if-out-lt-MAX_PAYLOAD.false right self.apart c.remove.ensures.held in
    let said = told_as cipher r call (out_of p v) _ _ before c.let_out.new.out (answer_of cipher r call (releases p v) done.0) c.let_out.ensures.says c.let_out.ensures.length c.let_out.ensures.buffer in
    record { answer = said.answers; length = said.long; after = done.1; buffer = said.buffer }
