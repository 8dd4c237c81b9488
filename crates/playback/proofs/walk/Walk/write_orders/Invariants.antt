use Rattle.std.proofs.Common.{length}
use Rattle.playback.specs.Walks.{to_come}
use Rattle.playback.proofs.Underway.{UnderWay}
use Rattle.playback.proofs.walk.Walk.write_orders.Given as goal

abbrev pub invariant-loop-step : goal.invariant-loop-step
invariant-loop-step g l = UnderWay (to_come g.B.Block.make l.initial.self) (to_come g.B.Block.make l.self) l.counts l.initial.out l.out

abbrev pub decreases-loop-step : goal.decreases-loop-step
decreases-loop-step g l = length (to_come g.B.Block.make l.self)
