-- The levels before the index are lowered, and the steps are theirs.
use Rattle.std.proofs.Common.{◌≡◌, ◌++◌, map, take, drop}
use Rattle.chain.specs.Chain.{step}
use Rattle.pebbles.specs.Levels.{lowered, lowering_steps}
use Rattle.source.proofs.pebbled.levels.lower_levels.Given as goal

abbrev pub invariant-loop-level : goal.invariant-loop-level
invariant-loop-level g l = record {
  lowered : l.levels ≡ map (lowered (step g.B.Block.make)) (take l.level-index l.initial.levels) ++ drop l.level-index l.initial.levels;
  counted : l.steps ≡ lowering_steps (take l.level-index l.initial.levels);
}
