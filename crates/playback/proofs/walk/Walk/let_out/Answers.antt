use Rattle.playback.proofs.walk.Walk.let_out.Goals as goal
use Rattle.packet.proofs.BufferLaws.{filled_none}

pub returns-in_err-at-clause-buffer : goal.returns-in_err-at-clause-buffer
returns-in_err-at-clause-buffer g c = rw c.from_residual.ensures (filled_none _)
