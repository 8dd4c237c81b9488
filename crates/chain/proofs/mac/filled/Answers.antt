use Rattle.std.proofs.Common.{ℕ, ◌++◌, length}
use Rattle.std.proofs.lemmas.List.{drop-replicate}
use Rattle.chain.specs.Tag.{filled}
use Rattle.chain.proofs.mac.filled.Goals as goal

pub returns : goal.returns
unfolding filled
returns c = λ i. c.copy_from_slice.ensures.after i ++ drop-replicate {X = ℕ} (length c.args.part.now) 16 0 i
