use Rattle.std.proofs.Common.{arith}
use Rattle.std.proofs.lemmas.Grind.{common_steps}
use Rattle.std.proofs.lemmas.List.Edits.{map_over_more}
use Rattle.std.proofs.lemmas.List.Sums.{count_by_more_yes, count_by_more_no}
use Rattle.chain.specs.Chain.{step as step_of}
use Rattle.pebbles.specs.Levels.{lowered}
use Rattle.source.proofs.pebbled.levels.lower_levels.Goals as goal

pub loop-level-preserved : goal.loop-level-preserved
loop-level-preserved g c = record {
  lowered = grind (arith, common_steps, map_over_more (lowered (step_of g.B.Block.make)));
  counted = grind (arith, common_steps, count_by_more_yes, count_by_more_no);
}
