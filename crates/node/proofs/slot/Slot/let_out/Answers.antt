use Rattle.std.proofs.Common.{◌≡◌, ◌≤◌, length, take, sym, refl, ap, ◌∙◌, arith}
use Rattle.std.proofs.lemmas.List.{length-take}
use Rattle.link.specs.Receiver.{out_of}
use Rattle.node.specs.Answers.{written}
use Rattle.node.specs.Places.{slot_said}
use Rattle.node.proofs.Outs.{let_out}
use Rattle.node.proofs.slot.Slot.let_out.Goals as goal
use Rattle.node.proofs.slot.Slot.let_out.Goals.{then-verdict, else-verdict}

pub returns-clause-buffer : goal.returns-clause-buffer
returns-clause-buffer c =
    let self = c.args.self.now in
    let n = c.if-verdict.length in
    let part = written (out_of (slot_said self) c.args.verdict) in
    let front : take n self.payload ≡ part = elim c.if-verdict.branch [
      | then-verdict w ↦ rw (w.length-is, w.if-verdict.true) refl
      | else-verdict w ↦ rw (w.length-is, w.if-verdict.false) refl
    ] in
    let within : n ≤ 64 = elim c.if-verdict.branch [
      | then-verdict w ↦ omega (arith, w.length-is, self.short)
      | else-verdict w ↦ omega (arith, w.length-is)
    ] in
    let long : n ≡ length part = sym (simp length-take (omega arith)) ∙ ap length front in
    let_out (slot_said self) c.args.verdict n c.args.out.now c.copy_from_slice.new.self long (c.copy_from_slice.ensures.after ∙ front)
