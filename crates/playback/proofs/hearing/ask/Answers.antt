use Rattle.playback.proofs.hearing.ask.Goals as goal
use Rattle.playback.proofs.Joining.{granted_too, request_granted}

pub unwrap-requires : goal.unwrap-requires
unwrap-requires g c = granted_too _ _ _ _ c.request.ensures.value (request_granted _ _ _ c.time.ensures.small)
