use Rattle.std.proofs.Common.{length}
use Rattle.cipher.specs.Makes.{rc5_make}
use Rattle.playback.specs.Walks.{to_come}
use Rattle.explain.proofs.print_steps.Given as goal

abbrev pub decreases-loop-step : goal.decreases-loop-step
decreases-loop-step l = length (to_come rc5_make l.walk)
