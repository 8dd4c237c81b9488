use Rattle.std.proofs.Common.{map, take}
use Rattle.node.specs.Places.{slot_said}
use Rattle.node.proofs.Firsts.{Leading}
use Rattle.node.proofs.table.Table.first_known.Given as goal

abbrev pub invariant-loop-place : goal.invariant-loop-place
invariant-loop-place l = Leading l.reached (map slot_said (take l.place l.slot-items)) l.first l.least
