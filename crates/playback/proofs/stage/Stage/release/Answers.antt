use Rattle.playback.proofs.stage.Stage.release.Goals as goal
use Rattle.packet.proofs.BufferLaws.{filled_none}

pub returns-in-Silent-clause-buffer : goal.returns-in-Silent-clause-buffer
returns-in-Silent-clause-buffer g c = filled_none _

pub returns-in-Asking-clause-buffer : goal.returns-in-Asking-clause-buffer
returns-in-Asking-clause-buffer g c = filled_none _
