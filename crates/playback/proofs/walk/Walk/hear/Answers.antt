use Rattle.std.proofs.Common.{refl, subst}
use Rattle.capture.specs.Format.{record_said, time}
use Rattle.playback.specs.Stages.{Heard, outcome_said, part_of}
use Rattle.playback.proofs.walk.Walk.hear.Goals as goal
use Rattle.playback.proofs.Joining.{heard_unread}
use Rattle.playback.proofs.OneStep.{ends_there, hears_one}

pub returns-in_err-record-clause-steps : goal.returns-in_err-record-clause-steps
returns-in_err-record-clause-steps g c = λ buffer. rw c.from_residual.ensures (ends_there g.B.Block.make _ _ _ _ _ c.requires c.in_err-record.ensures.steps.taken.none
    c.in_err-record.ensures.steps.taken.still)

pub returns-in-Err-clause-steps : goal.returns-in-Err-clause-steps
returns-in-Err-clause-steps g c = λ buffer. hears_one g.B.Block.make _ _ _ _ _ c.requires _ _ (record_said c.in_ok-record.record) _ _ c.in_ok-record.record.at c.in_ok-record.ensures.steps.taken.first refl
    (heard_unread g.B.Block.make _ _ _ _ _ c.in-Err.ensures.value) c.requires refl refl

pub returns-clause-steps : goal.returns-clause-steps
returns-clause-steps g c = λ buffer. hears_one g.B.Block.make _ _ _ _ _ c.requires _ _ (record_said c.in_ok-record.record) _ (outcome_said c.hear-stage.result.1) _ c.in_ok-record.ensures.steps.taken.first refl
    (subst (λ s. Heard g.B.Block.make c.args.self.now.pair (part_of s) (time (record_said c.in_ok-record.record)) c.in_ok-record.record.bytes.now (part_of c.hear-stage.result.0) (outcome_said c.hear-stage.result.1)) c.replace-stage.ensures.value c.hear-stage.ensures)
    c.releasing-self.ensures refl refl
