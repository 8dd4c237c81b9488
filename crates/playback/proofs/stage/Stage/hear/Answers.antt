use Rattle.std.proofs.Common.{ap}
use Rattle.playback.specs.Stages.{part_of}
use Rattle.playback.proofs.stage.Stage.hear.Goals as goal
use Rattle.playback.proofs.Joining.{heard_asking, heard_silent}

pub returns-in-Silent : goal.returns-in-Silent
returns-in-Silent g c = heard_silent _ _ _ _ _ _ _ (ap part_of c.in-Silent.is) c.ask.ensures.part c.ask.ensures.outcome

pub returns-in-Asking : goal.returns-in-Asking
returns-in-Asking g c = heard_asking _ _ _ _ _ _ _ _ (ap part_of c.in-Asking.is) c.join.ensures.part c.join.ensures.outcome
